use Rattle.levels.specs.Scans.{lowest_all}
use Rattle.reading.proofs.Judging.{found_none}
use Rattle.reading.proofs.owners.Owners.named.Goals as goal

pub invariant_of-result : goal.invariant_of-result
invariant_of-result c = record { names_fit = λ i h. lowest_all _ _ i (found_none _ _ c.in_ok-names_fit.ensures) h }

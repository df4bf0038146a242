use Rattle.reading.specs.Meaning.{code_of}
use Rattle.reading.proofs.Bodies.{placed_from}
use Rattle.reading.proofs.Judging.{found_none}
use Rattle.levels.specs.Scans.{lowest_all}
use Rattle.reading.proofs.owners.Owners.new.Goals as goal

pub owners-owners-requires : goal.owners-owners-requires
owners-owners-requires c = placed_from _ (code_of c.args.functions.bytes) (λ g h. lowest_all _ _ g (found_none _ _ c.in_ok-records_fit.ensures) h)

use Rattle.std.proofs.Common.{◌≡◌}
use Rattle.layout.specs.Code.{start}
use Rattle.reading.specs.Trees.{held_code}
use Rattle.reading.proofs.Owning.{Owned}
use Rattle.reading.proofs.functions.Functions.owners.Given as goal

abbrev pub invariant-loop-g : goal.invariant-loop-g
invariant-loop-g l = (l.start ≡ start (held_code l.self) l.g) × Owned (held_code l.self) l.owners l.start

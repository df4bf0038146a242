use Rattle.std.proofs.Common.{◌≡◌, length}
use Rattle.reading.specs.Trees.{tree_code}
use Rattle.reading.proofs.Filling.{Filled}
use Rattle.reading.proofs.names.Named.scopes.Given as goal

abbrev pub invariant-loop-j : goal.invariant-loop-j
invariant-loop-j l = (length l.scopes ≡ 4096) × Filled (tree_code l.self.tree.now) l.scopes l.j

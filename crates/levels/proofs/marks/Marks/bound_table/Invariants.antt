use Rattle.std.proofs.Common.{◌≡◌, ℕ, ◌<◌, [], length, get_or}
use Rattle.levels.specs.Bounds.{HoldsRow}
use Rattle.levels.proofs.marks.Marks.bound_table.Given as goal

abbrev pub invariant-loop-a : goal.invariant-loop-a
invariant-loop-a l =
    (length l.held ≡ 16)
    × ((a : ℕ) → a < l.a → HoldsRow l.up l.self.rows.now a (get_or l.held a []))

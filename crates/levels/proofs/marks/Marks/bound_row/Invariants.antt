use Rattle.std.proofs.Common.{◌≡◌, ℕ, ◌<◌, length, get_or, unwrap_or}
use Rattle.levels.specs.Marks.{bound}
use Rattle.levels.proofs.marks.Marks.bound_row.Given as goal

abbrev pub invariant-loop-b : goal.invariant-loop-b
invariant-loop-b l =
    (length l.held ≡ 16)
    × ((b : ℕ) → b < l.b → get_or l.held b 0 ≡ unwrap_or (bound l.up l.self.rows.now l.a b) 0)

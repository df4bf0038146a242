use Rattle.std.proofs.Common.{◌≡◌, ℕ, ◌<◌, get_or}
use Rattle.reading.specs.Folding.{Steps, folded}
use Rattle.reading.specs.Meaning.{code_of}
use Rattle.reading.proofs.bytes.Bytes.by_namings.Given as goal

abbrev pub invariant-loop-i : goal.invariant-loop-i
invariant-loop-i g l =
    (f : _ → ℕ → _) → Steps (goal.F-post g l.step) f → (j : ℕ) (d : _) → j < 4096 → get_or l.each j d ≡ folded f (get_or l.initial.each j d) (code_of l.self) l.i j

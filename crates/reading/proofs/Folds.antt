-- Steps for each naming of a node, one node after another.
use Rattle.std.proofs.Common.{◌≡◌, ℕ, ◌+◌, Option, refl, sym, ap, ◌∙◌, add-one}
use Rattle.layout.specs.declared.parts.Part.{Part}
use Rattle.layout.specs.Code.{Code, node}
use Rattle.layout.specs.Tree.{parts, target}
use Rattle.reading.specs.Folding.{step_at, steps_at, folded}

pub folded_none : {T : Type 0} (f : T → ℕ → T) (x : T) (c : Code) (j : ℕ) → folded f x c 0 j ≡ x
unfolding folded
folded_none f x c j = refl

folded_step : {T : Type 0} (f : T → ℕ → T) (x : T) (c : Code) (i j : ℕ) → folded f x c (i + 1) j ≡ steps_at f i (parts (node c i)) j (folded f x c i j)
unfolding folded
folded_step f x c i j = rw add-one

-- three steps in a row
pub folded_more : {T : Type 0} (f : T → ℕ → T) (x : T) (c : Code) (i j : ℕ) (ps : Option Part × Option Part × Option Part) (w u v z : T) → ps ≡ parts (node c i) → w ≡ folded f x c i j → u ≡ step_at f i (target ps.0) j w → v ≡ step_at f i (target ps.1) j u → z ≡ step_at f i (target ps.2) j v → z ≡ folded f x c (i + 1) j
folded_more f x c i j ps w u v z e ew eu ev ez =
    ez
    ∙ (ap (step_at f i (target ps.2) j) (ev ∙ ap (step_at f i (target ps.1) j) (eu ∙ ap (step_at f i (target ps.0) j) ew))
    ∙ (ap (λ q. steps_at f i q j (folded f x c i j)) e ∙ sym (folded_step f x c i j)))

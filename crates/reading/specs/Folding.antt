-- What each node comes to by a step for each naming of it, in the order of the nodes that name.
use Rattle.std.specs.Prelude.{◌≡◌, ℕ, zero, suc, ◌<◌, cond, Some, None, Option, ◌==◌}
use Rattle.layout.specs.declared.parts.Part.{Part}
use Rattle.layout.specs.Code.{Code, node}
use Rattle.layout.specs.Tree.{target, parts}

-- whatever a step by a node answers, f is
abbrev pub Steps : {T : Type 0} → (T → ℕ → T → Type 0) → (T → ℕ → T) → Type 0
Steps {T} post f = (x : T) (i : ℕ) (r : T) → i < 65536 → post x i r → r ≡ f x i

-- a step from x by node i, if what it names is node j
abbrev pub step_at : {T : Type 0} → (T → ℕ → T) → ℕ → Option ℕ → ℕ → T → T
step_at f i None j x = x
step_at f i (Some b) j x = cond (b == j) (f x i) x

-- a step for each of three parts that is node j
abbrev pub steps_at : {T : Type 0} → (T → ℕ → T) → ℕ → Option Part × Option Part × Option Part → ℕ → T → T
steps_at f i p j x = step_at f i (target p.2) j (step_at f i (target p.1) j (step_at f i (target p.0) j x))

-- what node j comes to from x by the nodes below n
unfoldable pub folded : {T : Type 0} → (T → ℕ → T) → T → Code → ℕ → ℕ → T
folded f x c zero j = x
folded f x c (suc i) j = steps_at f i (parts (node c i)) j (folded f x c i j)

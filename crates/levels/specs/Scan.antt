-- Every number below n, and the lowest of them, at which a test passes. Assumes nothing.
use Rattle.std.specs.Prelude.{◌≡◌, ℕ, zero, suc, ◌<◌, Bool, true, cond, ◌&&◌, Some, None, Option}

-- x where the test passed
abbrev pub when : {X : Type 0} → Bool → X → Option X
when b x = cond b (Some x) None

-- the first of two that is there
abbrev pub or_else : {X : Type 0} → Option X → Option X → Option X
or_else None o = o
or_else (Some x) o = Some x

-- whatever a test answers at a number below n, f is
abbrev pub Tells : ℕ → (ℕ → Bool → Type 0) → (ℕ → Bool) → Type 0
Tells n post f = (i : ℕ) (b : Bool) → i < n → post i b → b ≡ f i

-- f passes at each number below n
unfoldable pub every : ℕ → (ℕ → Bool) → Bool
every zero f = true
every (suc n) f = every n f && f n

-- the lowest number below n at which f passes
unfoldable pub lowest : ℕ → (ℕ → Bool) → Option ℕ
lowest zero f = None
lowest (suc n) f = or_else (lowest n f) (when (f n) n)

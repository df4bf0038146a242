-- Texts of numbers, one by one. Assumes nothing.
use Rattle.std.proofs.Common.{◌≡◌, ℕ, ◌+◌, List, [], ◌++◌, refl, add-one}
use Rattle.scripts.specs.Policies.{texts}

module _ (text : ℕ → List ℕ) where
  pub texts_none : texts text 0 ≡ []
  unfolding texts
  texts_none = refl

  pub texts_more : (k : ℕ) → texts text (k + 1) ≡ texts text k ++ text k
  unfolding texts
  texts_more k = rw add-one

-- An array that is made by calls of a closure which changes nothing.
use Rattle.std.proofs.Common.{◌≡◌, ℕ, zero, suc, ◌+◌, ◌<◌, List, get_or, subst, ◌∙◌, arith, not-suc-le-zero}
use Rattle.std.specs.Array.{IsFromFnResult, IsFromFnResultFrom}
use denote.Param.Members.{Mut, Called}

module _ {F B : Type 0} (g : Mut F (ℕ × Unit {0}) B) (f : F) (h : ℕ → B) (pure : (i : ℕ) (y : B) (q : F) → Called g f (i, tt) y q → (q ≡ f) × (y ≡ h i)) where
  made_from : (ys : List B) (i n k : ℕ) (d : B) → IsFromFnResultFrom g f ys i n → k < n → get_or ys (i + k) d ≡ h (i + k)
  made_from ys i zero k d r lt = absurd (not-suc-le-zero lt)
  made_from ys i (suc n) zero d r lt =
      let same : i + 0 ≡ i = omega arith in
      rw same (r.2.1 d ∙ (pure i r.1 r.0 r.3).1)
  made_from ys i (suc n) (suc k) d r lt =
      let rest : IsFromFnResultFrom g f ys (i + 1) n = subst (λ q. IsFromFnResultFrom g q ys (i + 1) n) (pure i r.1 r.0 r.3).0 r.4 in
      let same : i + suc k ≡ (i + 1) + k = omega arith in
      rw same (made_from ys (i + 1) n k d rest (omega arith))

  pub made_at : (ys : List B) (n k : ℕ) (d : B) → IsFromFnResult g f ys n → k < n → get_or ys k d ≡ h k
  made_at ys n k d r lt = let same : 0 + k ≡ k = omega arith in rw same at (made_from ys 0 n k d r.each lt)

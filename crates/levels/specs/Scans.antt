-- What `every` and `lowest` tell. Assumes nothing.
use Rattle.std.specs.Prelude.{◌≡◌, ℕ, zero, suc, ◌+◌, ◌<◌, ◌≤◌, Bool, true, false, cond, ◌⊎◌, is_some, Some, None, Option}
use Rattle.std.proofs.Math.Path.{refl, ap, ap₂}
use Rattle.std.proofs.Common.{sym, ◌∙◌, not-suc-le-zero}
use Rattle.std.proofs.Math.Logic.{⊎_elim}
use native.Mathlib.Omega.{arith}
use Rattle.std.specs.Option.{unwrap_or}
use Rattle.std.proofs.lemmas.Option.{none-some}
use Rattle.std.proofs.lemmas.Bool.{and_parts, and_from, and_left, and_right, false≢true, true≢false}
use Rattle.levels.specs.Scan.{every, lowest, or_else, when}

module _ (f : ℕ → Bool) where
  pub last_or_before : (i n : ℕ) → i < suc n → (i < n) ⊎ (i ≡ n)
  last_or_before i n h = grind arith

  pub every_at : (n i : ℕ) → every n f ≡ true → i < n → f i ≡ true
  unfolding every
  every_at zero i h k = absurd (not-suc-le-zero k)
  every_at (suc n) i h k =
      let p = and_parts (every n f) (f n) h in
      ⊎_elim (λ b. every_at n i p.0 b) (λ e. ap f e ∙ p.1) (last_or_before i n k)

  pub every_from : (n : ℕ) → ((i : ℕ) → i < n → f i ≡ true) → every n f ≡ true
  unfolding every
  every_from zero h = refl
  every_from (suc n) h = and_from (every n f) (f n) (every_from n (λ i k. h i (omega arith))) (h n (omega arith))

  pub every_broken : (n i : ℕ) → i < n → f i ≡ false → every n f ≡ false
  unfolding every
  every_broken zero i k off = absurd (not-suc-le-zero k)
  every_broken (suc n) i k off =
      ⊎_elim (λ b. and_left (every n f) (f n) (every_broken n i b off)) (λ e. and_right (every n f) (f n) (ap f (sym e) ∙ off)) (last_or_before i n k)

  -- nothing is found where the test fails at each number, and the other way round
  pub lowest_absent : (n : ℕ) → ((k : ℕ) → k < n → f k ≡ false) → lowest n f ≡ None
  unfolding lowest
  lowest_absent zero h = refl
  lowest_absent (suc n) h = ap₂ or_else (lowest_absent n (λ k b. h k (omega arith))) (ap (λ b. when b n) (h n (omega arith)))

  neither : (n : ℕ) (o : Option ℕ) (b : Bool) → or_else o (when b n) ≡ None → (o ≡ None) × (b ≡ false)
  neither n None true e = absurd (none-some n (sym e))
  neither n None false e = (refl, refl)
  neither n (Some x) b e = absurd (none-some x (sym e))

  pub lowest_all : (n i : ℕ) → lowest n f ≡ None → i < n → f i ≡ false
  unfolding lowest
  lowest_all zero i e lt = absurd (not-suc-le-zero lt)
  lowest_all (suc n) i e lt =
      let both = neither n (lowest n f) (f n) e in
      ⊎_elim (λ b. lowest_all n i both.0 b) (λ q. ap f q ∙ both.1) (last_or_before i n lt)

  pub lowest_found : (n i : ℕ) → i < n → lowest i f ≡ None → f i ≡ true → lowest n f ≡ Some i
  unfolding lowest
  lowest_found zero i k h here = absurd (not-suc-le-zero k)
  lowest_found (suc n) i k h here =
      ⊎_elim (λ b. ap (λ o. or_else o (when (f n) n)) (lowest_found n i b h here))
      (λ e. ap₂ or_else (ap (λ m. lowest m f) (sym e) ∙ h) (ap (λ m. cond (f m) (Some m) None) (sym e) ∙ ap (λ b. cond b (Some i) None) here))
      (last_or_before i n k)

  -- what is found: the test passes there, and at no lower number
  pub record Lowest (n i : ℕ) : Type 0 where
    pub within : i < n
    pub holds : f i ≡ true
    pub none_lower : (j : ℕ) → j < i → f j ≡ false

  pub lowest_is : (n i : ℕ) → lowest n f ≡ Some i → Lowest n i
  unfolding lowest
  lowest_is zero i e = absurd (none-some i e)
  lowest_is (suc n) i e = go (lowest n f) (f n) refl refl e (λ h. lowest_is n i h)
    where
      go : (o : Option ℕ) (b : Bool) → lowest n f ≡ o → f n ≡ b → or_else o (when b n) ≡ Some i → (lowest n f ≡ Some i → Lowest n i) → Lowest (suc n) i
      go None true eo eb h more =
          let here : n ≡ i = cc in
          record { within = omega arith; holds = ap f (sym here) ∙ eb; none_lower = λ j lt. lowest_all n j eo (omega arith) }
      go None false eo eb h more = absurd (none-some i h)
      go (Some x) b eo eb h more =
          let below = more (eo ∙ h) in
          record { within = omega (arith, below.within); holds = below.holds; none_lower = below.none_lower }

  -- the same of the number that stands for what is found
  found : (n d : ℕ) (P : ℕ → Type 0) → is_some (lowest n f) ≡ true → ((i : ℕ) → Lowest n i → P i) → P (unwrap_or (lowest n f) d)
  found n d P h each = go (lowest n f) refl h
    where
      go : (o : Option ℕ) → lowest n f ≡ o → is_some o ≡ true → P (unwrap_or o d)
      go None e k = absurd (false≢true k)
      go (Some i) e k = each i (lowest_is n i e)

  pub lowest_passes : (n d : ℕ) → is_some (lowest n f) ≡ true → f (unwrap_or (lowest n f) d) ≡ true
  lowest_passes n d h = found n d (λ i. f i ≡ true) h (λ i l. l.holds)

  pub lowest_below : (n d : ℕ) → is_some (lowest n f) ≡ true → unwrap_or (lowest n f) d < n
  lowest_below n d h = found n d (λ i. i < n) h (λ i l. l.within)

  pub lowest_inside : (n : ℕ) → 0 < n → unwrap_or (lowest n f) 0 < n
  lowest_inside n h = go (lowest n f) refl
    where
      go : (o : Option ℕ) → lowest n f ≡ o → unwrap_or o 0 < n
      go None e = h
      go (Some i) e = (lowest_is n i e).within

  pub lowest_none : (n : ℕ) → ((k : ℕ) → f k ≡ false) → lowest n f ≡ None
  lowest_none n h = lowest_absent n (λ k b. h k)

  pub lowest_some : (n i : ℕ) → i < n → f i ≡ true → is_some (lowest n f) ≡ true
  lowest_some n i k h = go (lowest n f) refl
    where
      go : (o : Option ℕ) → lowest n f ≡ o → is_some o ≡ true
      go None e = absurd (true≢false (sym h ∙ lowest_all n i e k))
      go (Some x) e = refl

  -- where none is found, the test passes nowhere, and the other way round
  pub nowhere : (n i : ℕ) → is_some (lowest n f) ≡ false → i < n → f i ≡ false
  nowhere n i h k = go (lowest n f) refl h
    where
      go : (o : Option ℕ) → lowest n f ≡ o → is_some o ≡ false → f i ≡ false
      go None e g = lowest_all n i e k
      go (Some x) e g = absurd (true≢false g)

  pub nowhere_from : (n : ℕ) → ((i : ℕ) → i < n → f i ≡ false) → is_some (lowest n f) ≡ false
  nowhere_from n h = ap is_some (lowest_absent n h)

  -- one number more
  pub every_more : (i : ℕ) → every i f ≡ true → f i ≡ true → every (i + 1) f ≡ true
  every_more i h here = every_from (i + 1) (λ k b. ⊎_elim (λ q. every_at i k h q) (λ q. ap f q ∙ here) (last_or_before k i (omega arith)))

  pub lowest_more : (i : ℕ) → lowest i f ≡ None → f i ≡ false → lowest (i + 1) f ≡ None
  lowest_more i h here = lowest_absent (i + 1) (λ k b. ⊎_elim (λ q. lowest_all i k h q) (λ q. ap f q ∙ here) (last_or_before k i (omega arith)))

  pub lowest_at_most : (n : ℕ) → unwrap_or (lowest n f) 0 ≤ n
  lowest_at_most n = go (lowest n f) refl
    where
      go : (o : Option ℕ) → lowest n f ≡ o → unwrap_or o 0 ≤ n
      go None e = omega arith
      go (Some i) e = omega (arith, (lowest_is n i e).within)

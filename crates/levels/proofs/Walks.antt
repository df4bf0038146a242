-- What a walk over the numbers below n has shown.
use Rattle.std.specs.Prelude.{◌≡◌, ℕ, ◌<◌, ◌≤◌, Bool, true, false, length, Some, None, Option, MatchOption}
use Rattle.std.specs.Bool.{MatchBool}
use Rattle.std.specs.List.{AllWithin, HoldsAt, range_with_len}
use Rattle.std.proofs.lemmas.List.FromFn.{get_or-range_with_len, length-range_with_len}
use Rattle.std.proofs.Common.{subst, zero-add, sym, ◌∙◌, arith}
use Rattle.levels.specs.Scan.{every, lowest}
use Rattle.levels.specs.Scans.{every_from, every_broken, lowest_absent, lowest_found}

module _ (f : ℕ → Bool) where
  -- a search from 0 up that stops at the first number that passes finds the lowest
  pub lowest_from_first : (n : ℕ) (r : Option ℕ)
      → MatchOption r ((k : ℕ) → 0 ≤ k → k < n → k < n → f k ≡ false) (λ i. (0 ≤ i) × (i < n) × (i < n → f i ≡ true) × ((k : ℕ) → 0 ≤ k → k < i → k < n → f k ≡ false))
      → r ≡ lowest n f
  lowest_from_first n None none = sym (lowest_absent f n (λ k b. none k (omega arith) b b))
  lowest_from_first n (Some i) found =
      sym (lowest_found f n i found.1 (lowest_absent f i (λ k b. found.3 k (omega arith) b (omega (arith, found.1)))) (found.2 found.1))

  -- a walk from 0 up that stops at the first number that fails tells whether each passes
  pub every_from_walk : (n : ℕ) (r : Bool)
      → MatchBool r (AllWithin (λ i. i < n → f i ≡ true) (range_with_len 0 n) 0 (length (range_with_len 0 n)))
      ((k : ℕ) × (k < length (range_with_len 0 n)) × HoldsAt (λ i. i < n → f i ≡ false) (range_with_len 0 n) k)
      → r ≡ every n f
  every_from_walk n true all =
      sym (every_from f n (λ i b. subst (λ k. k < n → f k ≡ true) (get_or-range_with_len 0 n i 0 b ∙ zero-add i) (all i 0 (omega arith) (omega (arith, length-range_with_len 0 n))) b))
  every_from_walk n false broken =
      let b : broken.0 < n = omega (arith, length-range_with_len 0 n, broken.1) in
      sym (every_broken f n broken.0 b (subst (λ k. k < n → f k ≡ false) (get_or-range_with_len 0 n broken.0 0 b ∙ zero-add broken.0) (broken.2 0) b))

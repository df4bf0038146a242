-- A text cut at its first mark, and that no piece has a mark in it. Assumes nothing.
use Rattle.std.proofs.Common.{◌≡◌, ℕ, ◌+◌, ◌-◌, ◌<◌, ◌≤◌, Bool, ltb, true, false, cond, eqb, List, [], ◌∷◌, length, take, drop, Some, None, refl, arith}
use Rattle.std.specs.List.{AllByRecursion, onto_first, position, position_or_len}
use Rattle.std.proofs.lemmas.Bool.{eqb-false, ltb-true, ltb-false}
use Rattle.std.proofs.lemmas.List.{take_rest}
use Rattle.std.proofs.lemmas.List.Sums.{fails_before_first}
use Rattle.std.proofs.lemmas.List.Splits.{slice_split_first, slice_split_none, join_with_byte-slice_split}
use Rattle.scripts.specs.Pieces.{pieces_of, Cuts}

-- what `position` finds
pub found : {X : Type 0} (p : X → Bool) (xs : List X) (n : ℕ) → Some n ≡ position p xs → (n ≡ position_or_len p xs) × (n < length xs)
found p xs n e = elim (ltb (position_or_len p xs) (length xs))
    as (λ b. ltb (position_or_len p xs) (length xs) ≡ b → Some n ≡ cond b (Some (position_or_len p xs)) None → (n ≡ position_or_len p xs) × (n < length xs)) [
      | true ↦ (λ t k. let same : n ≡ position_or_len p xs = cc in (same, omega (arith, ltb-true _ _ t)))
      | false ↦ (λ t k. absurd cc)
    ] refl e

pub missed : {X : Type 0} (p : X → Bool) (xs : List X) → None ≡ position p xs → length xs ≤ position_or_len p xs
missed p xs e = elim (ltb (position_or_len p xs) (length xs))
    as (λ b. ltb (position_or_len p xs) (length xs) ≡ b → None ≡ cond b (Some (position_or_len p xs)) None → length xs ≤ position_or_len p xs)
    [ true ↦ (λ _ k. absurd cc) | false ↦ (λ t _. ltb-false _ _ t) ] refl e

module _ (mark : ℕ) where
  -- the two ways of a cut
  pub cut_mark : (xs : List ℕ) (n : ℕ) → Some n ≡ position (λ x. eqb x mark) xs
      → pieces_of mark xs ≡ take n xs ∷ pieces_of mark (take (length xs - (n + 1)) (drop (n + 1) xs))
  cut_mark xs n e =
      let p = found (λ x. eqb x mark) xs n e in
      let k : position_or_len (λ x. eqb x mark) xs < length xs = omega arith in
      rw (take_rest, p.0, slice_split_first (λ x. eqb x mark) xs 0 k)

  pub cut_end : (xs : List ℕ) → None ≡ position (λ x. eqb x mark) xs → pieces_of mark xs ≡ xs ∷ []
  cut_end xs e =
      let all : length xs ≤ position_or_len (λ x. eqb x mark) xs = missed (λ x. eqb x mark) xs e in
      slice_split_none (λ x. eqb x mark) xs (λ k d h. fails_before_first (λ x. eqb x mark) xs k d (omega arith))

  Clean : List (List ℕ) → Type 0
  Clean ps = AllByRecursion (λ p. AllByRecursion (λ x. x ≡ mark → ⊥) p) ps

  clean_onto : (x : ℕ) (ps : List (List ℕ)) → (x ≡ mark → ⊥) → Clean ps → Clean (onto_first x ps)
  unfolding Clean
  clean_onto x [] n h = ((n, tt), tt)
  clean_onto x (p ∷ ps) n h = ((n, h.0), h.1)

  clean : (xs : List ℕ) → Clean (pieces_of mark xs)
  unfolding Clean
  clean [] = (tt, tt)
  clean (x ∷ xs) = elim (eqb x mark)
      as (λ b. eqb x mark ≡ b → Clean (cond b ([] ∷ pieces_of mark xs) (onto_first x (pieces_of mark xs))))
      [ true ↦ (λ _. (tt, clean xs)) | false ↦ (λ e. clean_onto x (pieces_of mark xs) (eqb-false x mark e) (clean xs)) ] refl

  pub cuts : (xs : List ℕ) → Cuts mark (pieces_of mark xs) xs
  unfolding Clean
  cuts xs = record { whole = join_with_byte-slice_split mark xs; clean = clean xs }

-- Lists of entries written one after another.
use Rattle.std.proofs.Common.{◌≡◌, ℕ, zero, suc, ◌+◌, ◌*◌, ◌/◌, ◌<◌, ◌≤◌, List, [], ◌∷◌, ◌++◌, map, length, get_or, take, drop, Some, Option, unwrap_or, sym, ap, ◌∙◌, ap₂, add_comm, mul-zero, zero-add, mul-suc, add-one, arith, length-append, length-drop, take-add}
use Rattle.layout.specs.Decoding.{entries_of}
use lib.Seq.{drop-append-add}
use Rattle.std.specs.List.{range_with_len, flat_map}
use Rattle.std.proofs.lemmas.List.{flat_map_more, take_all, length-take-le, get_or-take, get_or-drop}
use Rattle.std.proofs.lemmas.List.FromFn.{map-range_with_len_more, fill_by_all}

-- Entries of one width.
module _ {X : Type 0} (f : X → List ℕ) (w : ℕ) (d : X) where
  pub joined_length : (xs : List X) → ((k : ℕ) → k < length xs → length (f (get_or xs k d)) ≡ w) → length (flat_map f xs) ≡ w * length xs
  joined_length [] h = omega arith
  joined_length (x ∷ xs) h =
      length-append (f x) (flat_map f xs)
      ∙ (ap₂ (λ a b. a + b) (h 0 (omega arith)) (joined_length xs (λ k lt. h (suc k) (omega arith)))
      ∙ (add_comm w (w * length xs) ∙ sym (mul-suc w (length xs))))

  -- entry i, and what comes after it
  pub joined_drop : (xs : List X) (i : ℕ) → ((k : ℕ) → k < length xs → length (f (get_or xs k d)) ≡ w) → i < length xs → drop (w * i) (flat_map f xs) ≡ f (get_or xs i d) ++ flat_map f (drop (suc i) xs)
  joined_drop [] i h lt = absurd (omega arith)
  joined_drop (x ∷ xs) zero h lt = ap (λ n. drop n (f x ++ flat_map f xs)) (mul-zero w)
  joined_drop (x ∷ xs) (suc i) h lt =
      let e : w * suc i ≡ length (f x) + w * i = mul-suc w i ∙ (add_comm (w * i) w ∙ ap (λ n. n + w * i) (sym (h 0 (omega arith)))) in
      ap (λ n. drop n (f x ++ flat_map f xs)) e ∙ (drop-append-add (f x) (flat_map f xs) (w * i) ∙ joined_drop xs i (λ k l. h (suc k) (omega arith)) (omega arith))

-- Entries that are the blocks of a list.
pub joined_blocks : {X : Type 0} (f : X → List ℕ) (h : ℕ → X) (w : ℕ) (xs : List ℕ) (n : ℕ) → ((i : ℕ) → i < n → f (h i) ≡ take w (drop (w * i) xs)) → flat_map f (map h (range_with_len 0 n)) ≡ take (w * n) xs
joined_blocks f h w xs zero same = sym (ap (λ k. take k xs) (mul-zero w))
joined_blocks f h w xs (suc n) same =
    ap (λ k. flat_map f (map h (range_with_len 0 k))) (sym (add-one n))
    ∙ (ap (flat_map f) (map-range_with_len_more h 0 n n (zero-add n))
    ∙ (sym (flat_map_more f [] (map h (range_with_len 0 n)) (h n))
    ∙ (ap₂ (λ a b. a ++ b) (joined_blocks f h w xs n (λ i lt. same i (omega arith))) (same n (omega arith))
    ∙ (sym (take-add (w * n) w xs) ∙ ap (λ k. take k xs) (sym (mul-suc w n))))))

-- Reading a list of entries, where each is read as it stands in xs.
module _ {X : Type 0} (w : ℕ) (at : List ℕ → ℕ → Option X) (absent : X) where
  pub entries_back : (all : List ℕ) (xs : List X) → length xs ≡ length all / w → ((i : ℕ) → i < length xs → at all i ≡ Some (get_or xs i absent)) → entries_of w at absent all ≡ xs
  unfolding entries_of
  entries_back all xs size back =
      sym (fill_by_all (λ i. unwrap_or (at all i) absent) xs (length all / w) absent size
      (λ i lt. sym (ap (λ o. unwrap_or o absent) (back i (omega (arith, size))))))

  -- Writing what was read, where each entry is written as its block.
  pub entries_written : (bytes : X → List ℕ) (xs : List ℕ) → length xs ≤ w * (length xs / w) → ((i : ℕ) → i < length xs / w → bytes (unwrap_or (at xs i) absent) ≡ take w (drop (w * i) xs)) → flat_map bytes (entries_of w at absent xs) ≡ xs
  unfolding entries_of
  entries_written bytes xs whole block =
      joined_blocks bytes (λ i. unwrap_or (at xs i) absent) w xs (length xs / w) block ∙ take_all (w * (length xs / w)) xs whole

-- a block by its places
pub block_is : (xs : List ℕ) (m k : ℕ) → m + k ≤ length xs → take k (drop m xs) ≡ map (λ j. get_or xs (m + j) 0) (range_with_len 0 k)
block_is xs m k h =
    fill_by_all (λ j. get_or xs (m + j) 0) (take k (drop m xs)) k 0
    (length-take-le k (drop m xs) (rw (length-drop m xs) (omega arith)))
    (λ j lt. get_or-take k (drop m xs) j 0 lt ∙ get_or-drop m xs j 0)

-- How the pass that finds each node's function goes on.
use Rattle.std.proofs.Common.{◌≡◌, ℕ, ◌+◌, ◌-◌, ◌++◌, take, drop, length-drop, ◌<◌, ◌≤◌, List, length, get_or, replicate, sym, ap, ◌∙◌, ⊎_elim, arith}
use borrow.Rule.Slice.PartMut.{mid_of, put_mid, same_len_mid}
use Rattle.std.proofs.Math.ListN.{get_or-append}
use Rattle.std.proofs.lemmas.List.{get_or-replicate, length-replicate, get_or_past, length-take-le, get_or-take, get_or-drop, get_or-append_right}
use Rattle.std.proofs.lemmas.Bool.{cases_lt}
use Rattle.layout.specs.declared.function.Function.{Function}
use Rattle.layout.specs.Code.{Code, no_function, function, body, start, owner}
use Rattle.reading.specs.Sound.{Placed}
use Rattle.reading.proofs.Bodies.{place_is, start_next, body_inside, owner_is, owner_past}

-- below place i the list has each node's function, and 0 from there on
pub record Owned (c : Code) (xs : List ℕ) (i : ℕ) : Type 0 where
  pub size : length xs ≡ 4096
  pub below : (k : ℕ) → k < i → get_or xs k 0 ≡ owner c k
  pub above : (k : ℕ) → i ≤ k → get_or xs k 0 ≡ 0

-- a list of 64 functions that has each one has none past them
pub held_all : (c : Code) (xs : List Function) → length xs ≡ 64 → length c.functions ≤ 64 → ((g : ℕ) → g < 64 → get_or xs g no_function ≡ function c g) → (g : ℕ) → get_or xs g no_function ≡ function c g
held_all c xs size few held g =
    ⊎_elim (λ (q : g < 64). held g q)
    (λ (q : 64 ≤ g).
    let far : length xs ≤ g = omega arith in
    let past : length c.functions ≤ g = omega arith in
    get_or_past xs _ _ far ∙ sym (get_or_past c.functions _ _ past))
    (cases_lt g 64)

pub owned_none : (c : Code) → Owned c (replicate 4096 0) 0
owned_none c = record {
  size = length-replicate {A = ℕ} 4096 0;
  below = λ k lt. absurd (omega arith);
  above = λ k le.
      ⊎_elim (λ (q : k < 4096). get_or-replicate 4096 k 0 0 q)
      (λ (q : 4096 ≤ k). let far : length (replicate {A = ℕ} 4096 0) ≤ k = omega (arith, length-replicate {A = ℕ} 4096 0) in get_or_past (replicate {A = ℕ} 4096 0) _ _ far)
      (cases_lt k 4096);
}

module _ (c : Code) (records : Placed c) where
  -- the functions end with the nodes
  pub start_end : 0 < length c.functions → start c (length c.functions) ≡ length c.nodes
  start_end some =
      let last : length c.functions - 1 < length c.functions = omega arith in
      let e : start c ((length c.functions - 1) + 1) ≡ start c (length c.functions) = ap (λ x. start c x) (omega arith) in
      omega (arith, e, start_next c (length c.functions - 1), (place_is c (length c.functions - 1) records last).ends (omega arith))

  -- the nodes of one function more
  pub owned_more : (xs ys : List ℕ) (g s e : ℕ) → g < length c.functions → length c.nodes ≤ 4096 → s ≡ start c g → e ≡ body c g + 1
      → ys ≡ replicate (length (mid_of s (e - s) xs)) g → Owned c xs s → Owned c (put_mid s (e - s) xs ys) e
  owned_more xs ys g s e inside few es ee eys o =
      let order : s < e = omega (arith, (place_is c g records inside).begins) in
      let room : e ≤ 4096 = omega (arith, body_inside c records g inside) in
      let front : length (take s xs) ≡ s = length-take-le s xs (omega (arith, o.size)) in
      let behind : e - s ≤ length (drop s xs) = omega (arith, length-drop s xs, o.size) in
      let mid : length (mid_of s (e - s) xs) ≡ e - s = length-take-le (e - s) (drop s xs) behind in
      let long : length ys ≡ e - s = ap length eys ∙ (length-replicate (length (mid_of s (e - s) xs)) g ∙ mid) in
      let rest = drop (e - s) (drop s xs) in
      record {
        size = same_len_mid s (e - s) xs ys (long ∙ sym mid) ∙ o.size;
        below = λ k lt.
            ⊎_elim (λ (q : k < s).
            get_or-append (take s xs) (ys ++ rest) 0 k (omega (arith, front)) ∙ (get_or-take s xs k 0 q ∙ o.below k q))
            (λ (q : s ≤ k).
            get_or-append_right (take s xs) (ys ++ rest) s k 0 front q
            ∙ (get_or-append ys rest 0 (k - s) (omega (arith, long))
            ∙ (ap (λ (zs : List ℕ). get_or zs (k - s) 0) eys
            ∙ (get_or-replicate (length (mid_of s (e - s) xs)) (k - s) g 0 (omega (arith, mid))
            ∙ sym (owner_is c records g k inside (omega arith) (omega arith))))))
            (cases_lt k s);
        above = λ k le.
            let far : (e - s) ≤ k - s = omega arith in
            let place : s + ((e - s) + ((k - s) - (e - s))) ≡ k = omega arith in
            get_or-append_right (take s xs) (ys ++ rest) s k 0 front (omega arith)
            ∙ (get_or-append_right ys rest (e - s) (k - s) 0 long far
            ∙ (get_or-drop (e - s) (drop s xs) ((k - s) - (e - s)) 0
            ∙ (get_or-drop s xs ((e - s) + ((k - s) - (e - s))) 0
            ∙ (ap (λ m. get_or xs m 0) place ∙ o.above k (omega arith)))));
      }

  pub owned_all : (xs : List ℕ) (n : ℕ) → n ≡ length c.nodes → Owned c xs n → (i : ℕ) → get_or xs i 0 ≡ owner c i
  owned_all xs n e o i =
      ⊎_elim (λ (q : i < n). o.below i q) (λ (q : n ≤ i). o.above i q ∙ sym (owner_past c records i (omega arith))) (cases_lt i n)

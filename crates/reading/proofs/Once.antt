-- Each node is named by one other at most.
use Rattle.std.proofs.Common.{◌≡◌, ℕ, zero, suc, ◌+◌, ◌<◌, ◌≤◌, true, false, eqb, length, Some, None, Option, sym, refl, ⊎_elim, arith}
use Rattle.std.proofs.lemmas.Bool.{and_from, not_from_false, both_ways, lt-ltb, eqb-true, ne_eqb, cases_eq, cases_lt, cases_order, cases_Bool, cond-false}
use Rattle.layout.specs.declared.parts.Part.{Part}
use Rattle.layout.specs.Code.{Code, node, body, start, owner}
use Rattle.layout.specs.Tree.{parts, target, hit, times, namings}
use Rattle.reading.specs.Naming.{NamingsStand}
use Rattle.reading.specs.OnceRule.{once_broken}
use Rattle.reading.specs.Sound.{FewFunctions, Placed, NamesFit, NamedOnce}
use Rattle.reading.proofs.Facts.{PartIs, names}
use Rattle.reading.proofs.Bodies.{up, start_above, owner_ends, owner_inside}

count_below : (c : Code) (n i j : ℕ) → i < n → times (parts (node c i)) j ≤ namings c n j
unfolding namings
count_below c zero i j h = absurd (omega arith)
count_below c (suc n) i j h =
    ⊎_elim (λ (q : i ≡ n). rw q (omega arith)) (λ (q : i ≡ n → ⊥). let less : i < n = omega arith in omega (arith, count_below c n i j less)) (cases_eq i n)

two_below : (c : Code) (n p q j : ℕ) → p < q → q < n → times (parts (node c p)) j + times (parts (node c q)) j ≤ namings c n j
unfolding namings
two_below c zero p q j lt h = absurd (omega arith)
two_below c (suc n) p q j lt h =
    ⊎_elim (λ (e : q ≡ n). let low : p < n = omega arith in rw e (omega (arith, count_below c n p j low)))
    (λ (e : q ≡ n → ⊥). let less : q < n = omega arith in omega (arith, two_below c n p q j lt less))
    (cases_eq q n)

module _ (c : Code) (few : FewFunctions c) (records : Placed c) where
  module _ (fit : NamesFit c) where
    -- what names node j lies in a function that begins at or before j
    from_start : (p j : ℕ) → p < length c.nodes → 0 < times (parts (node c p)) j → (start c (owner c p) ≤ j) × (j < p)
    from_start p j h named =
        let all = names c p (node c p) fit h refl in
        ⊎_elim (λ (q : 0 < hit (target (parts (node c p)).0) j). part (parts (node c p)).0 all.0 q)
        (λ (q : hit (target (parts (node c p)).0) j ≤ 0).
        ⊎_elim (λ (r : 0 < hit (target (parts (node c p)).1) j). part (parts (node c p)).1 all.1 r)
        (λ (r : hit (target (parts (node c p)).1) j ≤ 0).
        let third : 0 < hit (target (parts (node c p)).2) j = omega (arith, named, q, r) in
        part (parts (node c p)).2 all.2 third)
        (cases_lt 0 (hit (target (parts (node c p)).1) j)))
        (cases_lt 0 (hit (target (parts (node c p)).0) j))
      where
        at : (b : ℕ) → 0 < hit (Some b) j → b ≡ j
        at b q = ⊎_elim (λ (e : eqb b j ≡ true). eqb-true b j e) (λ (e : eqb b j ≡ false). absurd (omega (arith, q, cond-false {A = ℕ} (eqb b j) 1 0 e))) (cases_Bool (eqb b j))

        part : (x : Option Part) → PartIs c (start c (owner c p)) p x → 0 < hit (target x) j → (start c (owner c p) ≤ j) × (j < p)
        part None is q = absurd (omega arith)
        part (Some x) is q = (omega (arith, is.0, at x.node q), omega (arith, is.1, at x.node q))

    -- a body is not named
    body_unnamed : (p j : ℕ) → p < length c.nodes → 0 < times (parts (node c p)) j → j ≡ body c (owner c j) → ⊥
    body_unnamed p j h named e =
        let low = from_start p j h named in
        let high = owner_ends c records few p h in
        ⊎_elim (λ (q : owner c j < owner c p). omega (arith, low.0, e, start_above c records (owner c j) (owner c p) q (owner_inside c p few)))
        (λ (q : owner c p ≤ owner c j). omega (arith, low.1, high, e, up c records (owner c p) (owner c j) q (owner_inside c j few)))
        (cases_lt (owner c j) (owner c p))

    module _ (marks : NamedOnce c) where
      one_naming : (p j : ℕ) → p < length c.nodes → 0 < times (parts (node c p)) j → namings c (length c.nodes) j ≡ 1
      one_naming p j h named =
          let low = (from_start p j h named).1 in
          let inside : j < length c.nodes = omega arith in
          ⊎_elim (λ (q : eqb (namings c (length c.nodes) j) 1 ≡ true). eqb-true _ _ q)
          (λ (q : eqb (namings c (length c.nodes) j) 1 ≡ false).
          absurd (both_ways (once_broken c j) (marks j inside) (and_from _ _ (lt-ltb _ _ inside) (and_from _ _ (not_from_false _ (ne_eqb _ _ (body_unnamed p j h named))) (not_from_false _ q)))))
          (cases_Bool (eqb (namings c (length c.nodes) j) 1))

      pub named_by_one : (j p q : ℕ) → p < length c.nodes → q < length c.nodes → 0 < times (parts (node c p)) j → 0 < times (parts (node c q)) j → p ≡ q
      named_by_one j p q hp hq np nq =
          let one = one_naming p j hp np in
          ⊎_elim (λ (e : p ≡ q). e)
          (⊎_elim (λ (lt : p < q). absurd (omega (arith, one, np, nq, two_below c (length c.nodes) p q j lt hq)))
          (λ (lt : q < p). absurd (omega (arith, one, np, nq, two_below c (length c.nodes) q p j lt hp))))
          (cases_order p q)

      pub named_below : (i j : ℕ) → i < length c.nodes → 0 < times (parts (node c i)) j → j < i
      named_below i j h named = (from_start i j h named).1

-- To be named once is to be named by one node, once, and by no other.
none_below : (c : Code) (n j : ℕ) → ((k : ℕ) → k < n → times (parts (node c k)) j ≡ 0) → namings c n j ≡ 0
unfolding namings
none_below c zero j h = refl
none_below c (suc n) j h = omega (arith, none_below c n j (λ k lt. h k (omega arith)), h n (omega arith))

from_one : (c : Code) (n j : ℕ) → namings c n j ≡ 1 → (i : ℕ) × (i < n) × (times (parts (node c i)) j ≡ 1) × ((k : ℕ) → k < n → 0 < times (parts (node c k)) j → k ≡ i)
unfolding namings
from_one c zero j e = absurd (omega arith)
from_one c (suc n) j e =
    ⊎_elim (λ (q : 0 < times (parts (node c n)) j). (
      n,
      omega arith,
      omega (arith, e, q),
      λ k lt named.
          ⊎_elim (λ (r : k ≡ n). r) (λ (r : k ≡ n → ⊥). let less : k < n = omega arith in absurd (omega (arith, e, q, named, count_below c n k j less))) (cases_eq k n),
    ))
    (λ (q : times (parts (node c n)) j ≤ 0).
    let b = from_one c n j (omega (arith, e, q)) in (
      b.0,
      omega (arith, b.1),
      b.2,
      λ k lt named.
          ⊎_elim (λ (r : k ≡ n). absurd (omega (arith, q, rw r at named))) (λ (r : k ≡ n → ⊥). b.3 k (omega arith) named) (cases_eq k n),
    ))
    (cases_lt 0 (times (parts (node c n)) j))

to_one : (c : Code) (n j i : ℕ) → i < n → times (parts (node c i)) j ≡ 1 → ((k : ℕ) → k < n → 0 < times (parts (node c k)) j → k ≡ i) → namings c n j ≡ 1
unfolding namings
to_one c zero j i h one alone = absurd (omega arith)
to_one c (suc n) j i h one alone =
    ⊎_elim (λ (q : i ≡ n).
    let here : times (parts (node c n)) j ≡ 1 = rw (← q) one in
    let rest : namings c n j ≡ 0 = none_below c n j (λ k lt.
    ⊎_elim (λ (r : 0 < times (parts (node c k)) j). absurd (omega (arith, alone k (omega arith) r)))
    (λ (r : times (parts (node c k)) j ≤ 0). omega arith)
    (cases_lt 0 (times (parts (node c k)) j))) in
    omega (arith, here, rest))
    (λ (q : i ≡ n → ⊥).
    let none : times (parts (node c n)) j ≡ 0 =
    ⊎_elim (λ (r : 0 < times (parts (node c n)) j). absurd (q (sym (alone n (omega arith) r))))
    (λ (r : times (parts (node c n)) j ≤ 0). omega arith)
    (cases_lt 0 (times (parts (node c n)) j)) in
    omega (arith, none, to_one c n j i (omega arith) one (λ k lt named. alone k (omega arith) named)))
    (cases_eq i n)

pub namings_stand : NamingsStand
namings_stand c j = (
  (λ e. let b = from_one c (length c.nodes) j e in (b.0, record { there = b.1; once = b.2; alone = b.3 })),
  (λ i o. to_one c (length c.nodes) j i o.there o.once o.alone),
)

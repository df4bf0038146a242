-- Marks without a mistake are a lattice. Assumes nothing.
use Rattle.std.specs.Prelude.{◌≡◌, ℕ, zero, suc, ◌<◌, ◌≤◌, Bool, true, false, cond, not, ◌&&◌, ◌||◌, List, [], length, is_some, Some, None, Option, nat_lt, slice_index, slice_index_or, refl}
use Rattle.std.proofs.Common.{sym, ap, ◌∙◌, ⊎_elim, arith}
use Rattle.std.specs.Option.{unwrap_or}
use Rattle.std.proofs.lemmas.Bool.{and_parts, and_from, and_cases, and_left, and_right, not-true, not-false, both_ways, eqb-true, ltb-true, lt-ltb, false≢true}
use Rattle.levels.specs.Order.{Laws}
use Rattle.levels.specs.Marks.{marked, toward, past_both, follows, is_bound, bound, is_end, end, unmarked, mutual_marks, broken_chain, no_bound, some_level, is_lattice}
use Rattle.levels.specs.Bounds.{HoldsBounds}
use Rattle.levels.specs.Tables.{rank, ranks}
use Rattle.levels.specs.Scans.{every_at, every_from, lowest_passes, lowest_below, lowest_some, lowest_none, nowhere, last_or_before}

implied : (x y : Bool) → (not x || y) ≡ true → x ≡ true → y ≡ true
implied true y h e = h
implied false y h e = absurd (false≢true e)

-- what is left of a failed conjunction whose first part holds
rest_fails : (x y : Bool) → (x && y) ≡ false → x ≡ true → y ≡ false
rest_fails x y h e = ⊎_elim (λ l. absurd (both_ways x l e)) (λ r. r) (and_cases x y h)

module _ (rows : List ℕ) where
  turned : (up : Bool) (a b : ℕ) → toward (not up) rows a b ≡ toward up rows b a
  turned true a b = refl
  turned false a b = refl

  off_left : (i j : ℕ) → nat_lt i (length rows) ≡ false → marked rows i j ≡ false
  off_left i j h = and_left _ _ (and_left _ _ h)

  off_right : (i j : ℕ) → nat_lt j (length rows) ≡ false → marked rows i j ≡ false
  off_right i j h = and_left _ _ (and_right (nat_lt i (length rows)) _ h)

  inside : (i j : ℕ) → marked rows i j ≡ true → (nat_lt i (length rows) ≡ true) × (nat_lt j (length rows) ≡ true)
  inside i j h = and_parts _ _ (and_parts _ _ h).0

  inside_toward : (up : Bool) (i j : ℕ) → toward up rows i j ≡ true → nat_lt j (length rows) ≡ true
  inside_toward true i j h = (inside i j h).1
  inside_toward false i j h = (inside j i h).0

  off : (up : Bool) (a b : ℕ) → (nat_lt a (length rows) && nat_lt b (length rows)) ≡ false → bound up rows a b ≡ None
  off true a b h = lowest_none (is_bound true rows a b) (length rows) (λ c. and_left _ _
      (⊎_elim (λ l. and_left _ _ (off_left a c l)) (λ r. and_right (marked rows a c) _ (off_left b c r)) (and_cases _ _ h)))
  off false a b h = lowest_none (is_bound false rows a b) (length rows) (λ c. and_left _ _
      (⊎_elim (λ l. and_left _ _ (off_right c a l)) (λ r. and_right (marked rows c a) _ (off_right c b r)) (and_cases _ _ h)))

  pub off_bound : (up : Bool) (a b d : ℕ) → (nat_lt a (length rows) && nat_lt b (length rows)) ≡ false → rank d ≡ rank (unwrap_or (bound up rows a b) d)
  off_bound up a b d h = sym (ap (λ o. rank (unwrap_or o d)) (off up a b h))

  module _ (good : is_lattice rows ≡ true) where
    first_three : ((not (some_level rows (unmarked rows)) ≡ true)
        × (not (some_level rows (λ i. some_level rows (mutual_marks rows i))) ≡ true)
        × (not (some_level rows (λ i. some_level rows (λ j. some_level rows (broken_chain rows i j)))) ≡ true)
        × (not (some_level rows (λ i. some_level rows (no_bound rows i))) ≡ true))
    first_three =
        let p = and_parts (not (some_level rows (unmarked rows))) _ good in
        let q = and_parts (not (some_level rows (λ i. some_level rows (mutual_marks rows i)))) _ p.1 in
        let r = and_parts (not (some_level rows (λ i. some_level rows (λ j. some_level rows (broken_chain rows i j))))) _ q.1 in
        (p.0, q.0, r.0, r.1)

    own : (a : ℕ) → a < length rows → marked rows a a ≡ true
    own a h = not-false _ (nowhere (unmarked rows) (length rows) a (not-true _ first_three.0) h)

    apart : (a b : ℕ) → marked rows a b ≡ true → marked rows b a ≡ true → a ≡ b
    apart a b h k =
        let outer = nowhere (λ i. some_level rows (mutual_marks rows i)) (length rows) a (not-true _ first_three.1) (ltb-true _ _ (inside a b h).0) in
        let inner = nowhere (mutual_marks rows a) (length rows) b outer (ltb-true _ _ (inside a b h).1) in
        eqb-true a b (not-false _ (rest_fails _ _ inner (and_from _ _ h k)))

    chained : (a b c : ℕ) → marked rows a b ≡ true → marked rows b c ≡ true → marked rows a c ≡ true
    chained a b c h k =
        let one = nowhere (λ i. some_level rows (λ j. some_level rows (broken_chain rows i j))) (length rows) a (not-true _ first_three.2) (ltb-true _ _ (inside a b h).0) in
        let two = nowhere (λ j. some_level rows (broken_chain rows a j)) (length rows) b one (ltb-true _ _ (inside a b h).1) in
        let three = nowhere (broken_chain rows a b) (length rows) c two (ltb-true _ _ (inside b c k).1) in
        not-false _ (rest_fails _ _ three (and_from _ _ h k))

    chained_toward : (up : Bool) (a b c : ℕ) → toward up rows a b ≡ true → toward up rows b c ≡ true → toward up rows a c ≡ true
    chained_toward true a b c h k = chained a b c h k
    chained_toward false a b c h k = chained c b a k h

    bounds : (a b : ℕ) → a < length rows → b < length rows → (is_some (bound true rows a b) ≡ true) × (is_some (bound false rows a b) ≡ true)
    bounds a b h k =
        let one = nowhere (λ i. some_level rows (no_bound rows i)) (length rows) a (not-true _ first_three.3) h in
        and_parts _ _ (not-false _ (nowhere (no_bound rows a) (length rows) b one k))

    has_bound : (up : Bool) (a b : ℕ) → a < length rows → b < length rows → is_some (bound up rows a b) ≡ true
    has_bound true a b h k = (bounds a b h k).0
    has_bound false a b h k = (bounds a b h k).1

    the_bound : (up : Bool) (a b d : ℕ) → a < length rows → b < length rows → is_bound up rows a b (unwrap_or (bound up rows a b) d) ≡ true
    the_bound up a b d h k = lowest_passes (is_bound up rows a b) (length rows) d (has_bound up a b h k)

    past : (up : Bool) (a b d : ℕ) → a < length rows → b < length rows
        → (toward up rows a (unwrap_or (bound up rows a b) d) ≡ true) × (toward up rows b (unwrap_or (bound up rows a b) d) ≡ true)
    past up a b d h k = and_parts _ _ (and_parts _ _ (the_bound up a b d h k)).0

    least : (up : Bool) (a b c d : ℕ) → a < length rows → b < length rows → c < length rows
        → toward up rows a c ≡ true → toward up rows b c ≡ true → toward up rows (unwrap_or (bound up rows a b) d) c ≡ true
    least up a b c d h k l p q =
        implied (past_both up rows a b c) _
        (every_at (follows up rows a b (unwrap_or (bound up rows a b) d)) (length rows) c (and_parts _ _ (the_bound up a b d h k)).1 l)
        (and_from _ _ p q)

    -- what a table of bounds holds is the bound, whatever stands in for a missing one
    pub held_bound : (up : Bool) (held : List (List ℕ)) (a b d : ℕ) → HoldsBounds up rows held → (nat_lt a (length rows) && nat_lt b (length rows)) ≡ true
        → rank (slice_index (slice_index_or held a []) b) ≡ rank (unwrap_or (bound up rows a b) d)
    held_bound up held a b d holds h =
        let p = and_parts _ _ h in
        ap rank (holds a b (ltb-true _ _ p.0, ltb-true _ _ p.1)
        ∙ any_default (bound up rows a b) (has_bound up a b (ltb-true _ _ p.0) (ltb-true _ _ p.1)))
      where
        any_default : (o : Option ℕ) → is_some o ≡ true → unwrap_or o 0 ≡ unwrap_or o d
        any_default (Some x) g = refl
        any_default None g = absurd (false≢true g)

    -- and so what is answered from it, the lowest level where one of the two is none
    pub held_or : (up : Bool) (held : List (List ℕ)) (a b d : ℕ) → HoldsBounds up rows held
        → cond (nat_lt a (length rows) && nat_lt b (length rows)) (rank (slice_index (slice_index_or held a []) b)) (rank d) ≡ rank (unwrap_or (bound up rows a b) d)
    held_or up held a b d holds = go (nat_lt a (length rows) && nat_lt b (length rows)) refl
      where
        go : (t : Bool) → (nat_lt a (length rows) && nat_lt b (length rows)) ≡ t
            → cond t (rank (slice_index (slice_index_or held a []) b)) (rank d) ≡ rank (unwrap_or (bound up rows a b) d)
        go true e = held_bound up held a b d holds e
        go false e = off_bound up a b d e

    -- a level from which the levels below k lie that way: the bound, the other way, of one such and the next
    record Reach (up : Bool) (k : ℕ) : Type 0 where
      pub from : ℕ
      pub level : from < length rows
      pub all : (i : ℕ) → i < k → toward up rows from i ≡ true

    further : (up : Bool) (k : ℕ) → Reach up k → suc k ≤ length rows → Reach up (suc k)
    further up k r few =
        let c : ℕ = unwrap_or (bound (not up) rows r.from k) 0 in
        let p = past (not up) r.from k 0 r.level few in record {
          from = c;
          level = ltb-true _ _ (inside_toward (not up) k c p.1);
          all = λ i h. ⊎_elim
              (λ b. chained_toward up c r.from i (sym (turned up r.from c) ∙ p.0) (r.all i b))
              (λ e. ap (toward up rows c) e ∙ sym (turned up k c) ∙ p.1)
              (last_or_before (λ _. true) i k h);
        }

    reach : (up : Bool) (k : ℕ) → 0 < length rows → k ≤ length rows → Reach up k
    reach up zero some few = record { from = 0; level = some; all = λ i h. absurd (none h) }
      where
        none : {i : ℕ} → i < 0 → ⊥
        none h = omega arith
    reach up (suc k) some few = further up k (reach up k some (shorter few)) few
      where
        shorter : suc k ≤ length rows → k ≤ length rows
        shorter h = omega arith

    module _ (some : 0 < length rows) where
      has_end : (up : Bool) → is_some (end up rows) ≡ true
      has_end up =
          let r = reach up (length rows) some (all_of (length rows)) in
          lowest_some (is_end up rows) (length rows) r.from r.level (every_from (toward up rows r.from) (length rows) r.all)
        where
          all_of : (n : ℕ) → n ≤ n
          all_of n = omega arith

      the_end : (up : Bool) (a : ℕ) → a < length rows → toward up rows (unwrap_or (end up rows) 0) a ≡ true
      the_end up a h =
          every_at (toward up rows (unwrap_or (end up rows) 0)) (length rows) a (lowest_passes (is_end up rows) (length rows) 0 (has_end up)) h

      pub rank_laws : Laws (ranks rows)
      rank_laws = record {
        levels = λ a b h. inside a.number b.number h;
        reflexive = λ a h. own a.number (ltb-true _ _ h);
        antisymmetric = λ a b h k. ap rank (apart a.number b.number h k);
        transitive = λ a b c h k. chained a.number b.number c.number h k;
        lowest = λ a h. the_end true a.number (ltb-true _ _ h);
        highest = λ a h. the_end false a.number (ltb-true _ _ h);
        join_left = λ a b h k. (past true a.number b.number _ (ltb-true _ _ h) (ltb-true _ _ k)).0;
        join_right = λ a b h k. (past true a.number b.number _ (ltb-true _ _ h) (ltb-true _ _ k)).1;
        join_least = λ a b c h k.
            let x = inside a.number c.number h in
            let y = inside b.number c.number k in
            least true a.number b.number c.number _ (ltb-true _ _ x.0) (ltb-true _ _ y.0) (ltb-true _ _ x.1) h k;
        meet_left = λ a b h k. (past false a.number b.number _ (ltb-true _ _ h) (ltb-true _ _ k)).0;
        meet_right = λ a b h k. (past false a.number b.number _ (ltb-true _ _ h) (ltb-true _ _ k)).1;
        meet_greatest = λ a b c h k.
            let x = inside c.number a.number h in
            let y = inside c.number b.number k in
            least false a.number b.number c.number _ (ltb-true _ _ x.1) (ltb-true _ _ y.1) (ltb-true _ _ x.0) h k;
        low_level = lt-ltb _ _ (lowest_below (is_end true rows) (length rows) 0 (has_end true));
        join_off = λ a b h. sym (off_bound true a.number b.number _ h);
        meet_off = λ a b h. sym (off_bound false a.number b.number _ h);
      }

-- The search for mistakes finds none just where the marks are a lattice, and they are one lattice only. Assumes nothing.
use Rattle.std.specs.Prelude.{◌≡◌, ℕ, ◌<◌, Bool, true, false, not, ◌&&◌, ◌||◌, List, length, is_some, Decides, nat_lt, refl}
use Rattle.std.proofs.Common.{sym, ap, ◌∙◌}
use Rattle.std.proofs.lemmas.Bool.{and_parts, and_from, eq-eqb, ltb-true, lt-ltb, not_from_true, not_from_false}
use Rattle.levels.specs.Order.{Order}
use Rattle.levels.specs.Marks.{marked, past_both, follows, is_bound, bound, unmarked, mutual_marks, broken_chain, no_bound, some_level, well_shaped, is_lattice}
use Rattle.levels.specs.Tables.{rank, ranks, OfMarks, MarksALattice, MeansTheMarks}
use Rattle.levels.specs.declared.table.Rank.{Rank}
use Rattle.levels.specs.Scans.{every_from, lowest_some, nowhere_from}
use Rattle.levels.specs.OrderLaws.{same_order}
use Rattle.levels.specs.RankLaws.{rank_laws}

implies : (x y : Bool) → (x ≡ true → y ≡ true) → (not x || y) ≡ true
implies true y h = h refl
implies false y h = refl

-- a conjunction fails where its first part rules out its second
excludes : (x y : Bool) → (x ≡ true → y ≡ false) → (x && y) ≡ false
excludes true y h = h refl
excludes false y h = refl

pub some_rows : (rows : List ℕ) → well_shaped rows ≡ true → 0 < length rows
some_rows rows h = ltb-true _ _ (and_parts (nat_lt 0 (length rows)) _ (and_parts _ _ h).0).0

module _ (rows : List ℕ) (o : Order Rank) (m : OfMarks rows o) where
  is : (a : ℕ) → a < length rows → o.is_level (rank a) ≡ true
  is a h = m.numbers (rank a) ∙ lt-ltb _ _ h

  number : (a : Rank) → o.is_level a ≡ true → a.number < length rows
  number a h = ltb-true _ _ (sym (m.numbers a) ∙ h)

  to : (a b : Rank) → o.le a b ≡ true → marked rows a.number b.number ≡ true
  to a b h = sym (m.order a b) ∙ h

  from : (a b : ℕ) → marked rows a b ≡ true → o.le (rank a) (rank b) ≡ true
  from a b h = m.order (rank a) (rank b) ∙ h

  joins : (a b : ℕ) → a < length rows → b < length rows → is_some (bound true rows a b) ≡ true
  joins a b h k =
      let c : Rank = o.join (rank a) (rank b) in
      let left = m.laws.join_left (rank a) (rank b) (is a h) (is b k) in
      lowest_some (is_bound true rows a b) (length rows) c.number (number c (m.laws.levels _ _ left).1)
      (and_from _ _ (and_from _ _ (to _ _ left) (to _ _ (m.laws.join_right (rank a) (rank b) (is a h) (is b k))))
      (every_from (follows true rows a b c.number) (length rows) (λ d l. implies (past_both true rows a b d) _ (λ p.
      let q = and_parts (marked rows a d) (marked rows b d) p in to c (rank d) (m.laws.join_least (rank a) (rank b) (rank d) (from a d q.0) (from b d q.1))))))

  meets : (a b : ℕ) → a < length rows → b < length rows → is_some (bound false rows a b) ≡ true
  meets a b h k =
      let c : Rank = o.meet (rank a) (rank b) in
      let left = m.laws.meet_left (rank a) (rank b) (is a h) (is b k) in
      lowest_some (is_bound false rows a b) (length rows) c.number (number c (m.laws.levels _ _ left).0)
      (and_from _ _ (and_from _ _ (to _ _ left) (to _ _ (m.laws.meet_right (rank a) (rank b) (is a h) (is b k))))
      (every_from (follows false rows a b c.number) (length rows) (λ d l. implies (past_both false rows a b d) _ (λ p.
      let q = and_parts (marked rows d a) (marked rows d b) p in to (rank d) c (m.laws.meet_greatest (rank a) (rank b) (rank d) (from d a q.0) (from d b q.1))))))

  never : (f : ℕ → Bool) → ((i : ℕ) → i < length rows → f i ≡ false) → not (some_level rows f) ≡ true
  never f h = not_from_false _ (nowhere_from f (length rows) h)

  pub no_mistake : is_lattice rows ≡ true
  no_mistake = and_from _ _
      (never (unmarked rows) (λ i h. not_from_true _ (to (rank i) (rank i) (m.laws.reflexive (rank i) (is i h)))))
      (and_from _ _
      (never (λ i. some_level rows (mutual_marks rows i)) (λ i h. nowhere_from (mutual_marks rows i) (length rows) (λ j k.
      excludes (marked rows i j && marked rows j i) _ (λ e. let q = and_parts (marked rows i j) (marked rows j i) e in
      not_from_true _ (eq-eqb i j (ap (λ (r : Rank). r.number) (m.laws.antisymmetric (rank i) (rank j) (from i j q.0) (from j i q.1))))))))
      (and_from _ _
      (never (λ i. some_level rows (λ j. some_level rows (broken_chain rows i j))) (λ i h. nowhere_from (λ j. some_level rows (broken_chain rows i j)) (length rows) (λ j k.
      nowhere_from (broken_chain rows i j) (length rows) (λ x l. excludes (marked rows i j && marked rows j x) _ (λ e. let q = and_parts (marked rows i j) (marked rows j x) e in
      not_from_true _ (to (rank i) (rank x) (m.laws.transitive (rank i) (rank j) (rank x) (from i j q.0) (from j x q.1))))))))
      (never (λ i. some_level rows (no_bound rows i)) (λ i h. nowhere_from (no_bound rows i) (length rows) (λ j k.
      not_from_true _ (and_from _ _ (joins i j h k) (meets i j h k)))))))

module _ (rows : List ℕ) (shaped : well_shaped rows ≡ true) where
  pub means_the_marks : is_lattice rows ≡ true → MeansTheMarks rows (ranks rows)
  means_the_marks good = record { one = the; only = λ o m. same_order o (ranks rows) m.laws the.laws m.numbers m.order }
    where
      the : OfMarks rows (ranks rows)
      the = record { laws = rank_laws rows good (some_rows rows shaped); numbers = λ a. refl; order = λ a b. refl }

  pub exact : Decides (is_lattice rows) (MarksALattice rows)
  exact = (λ good. (ranks rows, (means_the_marks good).one), λ m. no_mistake rows m.0 m.1)

-- Two lattices side by side are a lattice. Assumes nothing.
use Rattle.std.specs.Prelude.{◌≡◌, true}
use Rattle.std.proofs.Common.{ap₂}
use Rattle.std.proofs.lemmas.Bool.{and_parts, and_from, cond-true, cond-false}
use Rattle.levels.specs.Order.{Order, Laws}
use Rattle.levels.specs.Pair.{both}

module _ {A B : Type 0} {p : Order A} {q : Order B} (left : Laws p) (right : Laws q) where
  abbrev pair : Order (A × B)
  pair = both p q

  joined : (a b : A × B) → pair.is_level a ≡ true → pair.is_level b ≡ true → pair.join a b ≡ (p.join a.0 b.0, q.join a.1 b.1)
  joined a b h k = cond-true _ _ _ (and_from _ _ h k)

  met : (a b : A × B) → pair.is_level a ≡ true → pair.is_level b ≡ true → pair.meet a b ≡ (p.meet a.0 b.0, q.meet a.1 b.1)
  met a b h k = cond-true _ _ _ (and_from _ _ h k)

  split : (a b : A × B) → pair.le a b ≡ true → (p.le a.0 b.0 ≡ true) × (q.le a.1 b.1 ≡ true)
  split a b h = and_parts _ _ h

  level : (a : A × B) → pair.is_level a ≡ true → (p.is_level a.0 ≡ true) × (q.is_level a.1 ≡ true)
  level a h = and_parts _ _ h

  sides : (a b : A × B) → pair.le a b ≡ true → (pair.is_level a ≡ true) × (pair.is_level b ≡ true)
  sides a b h =
      let l = left.levels a.0 b.0 (split a b h).0 in
      let r = right.levels a.1 b.1 (split a b h).1 in
      (and_from _ _ l.0 r.0, and_from _ _ l.1 r.1)

  pub pair_laws : Laws (both p q)
  pair_laws = record {
    levels = sides;
    reflexive = λ a h. and_from _ _ (left.reflexive a.0 (level a h).0) (right.reflexive a.1 (level a h).1);
    antisymmetric = λ a b h k.
        ap₂ {C = A × B} (λ (x : A) (y : B). (x, y)) (left.antisymmetric a.0 b.0 (split a b h).0 (split b a k).0)
        (right.antisymmetric a.1 b.1 (split a b h).1 (split b a k).1);
    transitive = λ a b c h k.
        and_from _ _ (left.transitive a.0 b.0 c.0 (split a b h).0 (split b c k).0)
        (right.transitive a.1 b.1 c.1 (split a b h).1 (split b c k).1);
    lowest = λ a h. and_from _ _ (left.lowest a.0 (level a h).0) (right.lowest a.1 (level a h).1);
    highest = λ a h. and_from _ _ (left.highest a.0 (level a h).0) (right.highest a.1 (level a h).1);
    join_left = λ a b h k. rw (joined a b h k)
        (and_from _ _ (left.join_left a.0 b.0 (level a h).0 (level b k).0) (right.join_left a.1 b.1 (level a h).1 (level b k).1));
    join_right = λ a b h k. rw (joined a b h k)
        (and_from _ _ (left.join_right a.0 b.0 (level a h).0 (level b k).0) (right.join_right a.1 b.1 (level a h).1 (level b k).1));
    join_least = λ a b c h k. rw (joined a b (sides a c h).0 (sides b c k).0)
        (and_from _ _ (left.join_least a.0 b.0 c.0 (split a c h).0 (split b c k).0) (right.join_least a.1 b.1 c.1 (split a c h).1 (split b c k).1));
    meet_left = λ a b h k. rw (met a b h k)
        (and_from _ _ (left.meet_left a.0 b.0 (level a h).0 (level b k).0) (right.meet_left a.1 b.1 (level a h).1 (level b k).1));
    meet_right = λ a b h k. rw (met a b h k)
        (and_from _ _ (left.meet_right a.0 b.0 (level a h).0 (level b k).0) (right.meet_right a.1 b.1 (level a h).1 (level b k).1));
    meet_greatest = λ a b c h k. rw (met a b (sides c a h).1 (sides c b k).1)
        (and_from _ _ (left.meet_greatest a.0 b.0 c.0 (split c a h).0 (split c b k).0) (right.meet_greatest a.1 b.1 c.1 (split c a h).1 (split c b k).1));
    low_level = and_from _ _ left.low_level right.low_level;
    join_off = λ a b h. cond-false _ _ _ h;
    meet_off = λ a b h. cond-false _ _ _ h;
  }

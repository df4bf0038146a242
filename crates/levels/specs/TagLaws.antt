-- The sets within a mask are a lattice under inclusion. Assumes nothing.
use Rattle.std.specs.Prelude.{◌≡◌, ℕ, true, ◌&&◌, bit_and, bit_or}
use Rattle.std.proofs.Math.Path.{refl, ap}
use Rattle.std.proofs.Common.{sym, ◌∙◌}
use Rattle.std.specs.Int.Bits.{and_comm, and_self}
use Rattle.std.proofs.lemmas.Bool.{eqb-true, eq-eqb, and_parts, and_from, cond-true, cond-false}
use Rattle.levels.specs.Order.{Laws}
use Rattle.levels.specs.Tags.{included, set_of, subsets}
use Rattle.levels.specs.declared.tags.TagSet.{TagSet}
use Rattle.levels.specs.BitSets.{within_trans, or_within, absorb, within_or_right, and_within_left, and_within_right, within_and}

module _ (mask : ℕ) where
  Le : TagSet → TagSet → Type 0
  Le a b = (subsets mask).le a b ≡ true

  Is : TagSet → Type 0
  Is a = (subsets mask).is_level a ≡ true

  record Parts (a b : TagSet) : Type 0 where
    pub left : bit_and a.bits mask ≡ a.bits
    pub right : bit_and b.bits mask ≡ b.bits
    pub order : bit_and a.bits b.bits ≡ a.bits

  parts : (a b : TagSet) → Le a b → Parts a b
  unfolding Le
  parts a b h =
      let both = and_parts (included a.bits mask && included b.bits mask) (included a.bits b.bits) h in
      let sides = and_parts (included a.bits mask) (included b.bits mask) both.0 in
      record { left = eqb-true _ _ sides.0; right = eqb-true _ _ sides.1; order = eqb-true _ _ both.1 }

  whole : (a b : TagSet) → Parts a b → Le a b
  unfolding Le
  whole a b p = and_from _ _ (and_from _ _ (eq-eqb _ _ p.left) (eq-eqb _ _ p.right)) (eq-eqb _ _ p.order)

  level : (a : TagSet) → Is a → bit_and a.bits mask ≡ a.bits
  unfolding Is
  level a h = eqb-true _ _ h

  joined : (a b : TagSet) → Is a → Is b → (subsets mask).join a b ≡ set_of (bit_or a.bits b.bits)
  unfolding Is
  joined a b h k = cond-true _ _ _ (and_from _ _ h k)

  met : (a b : TagSet) → Is a → Is b → (subsets mask).meet a b ≡ set_of (bit_and a.bits b.bits)
  unfolding Is
  met a b h k = cond-true _ _ _ (and_from _ _ h k)

  sides : (a b : TagSet) → Le a b → Is a × Is b
  unfolding Is
  sides a b h = let p = parts a b h in (eq-eqb _ _ p.left, eq-eqb _ _ p.right)

  pub tag_laws : Laws (subsets mask)
  unfolding Is Le
  tag_laws = record {
    levels = sides;
    reflexive = λ a h. whole a a (record { left = level a h; right = level a h; order = and_self a.bits });
    antisymmetric = λ a b h k. ap set_of (sym (parts a b h).order ∙ and_comm a.bits b.bits ∙ (parts b a k).order);
    transitive = λ a b c h k.
        let p = parts a b h in
        let q = parts b c k in
        whole a c (record { left = p.left; right = q.right; order = within_trans a.bits b.bits c.bits p.order q.order });
    lowest = λ a h. whole (set_of 0) a (record { left = refl; right = level a h; order = refl });
    highest = λ a h. whole a (set_of mask) (record { left = level a h; right = and_self mask; order = level a h });
    join_left = λ a b h k. rw (joined a b h k) (whole a (set_of (bit_or a.bits b.bits))
        (record { left = level a h; right = or_within a.bits b.bits mask (level a h) (level b k); order = absorb a.bits b.bits }));
    join_right = λ a b h k. rw (joined a b h k) (whole b (set_of (bit_or a.bits b.bits))
        (record { left = level b k; right = or_within a.bits b.bits mask (level a h) (level b k); order = within_or_right a.bits b.bits }));
    join_least = λ a b c h k.
        let p = parts a c h in
        let q = parts b c k in
        rw (joined a b (sides a c h).0 (sides b c k).0) (whole (set_of (bit_or a.bits b.bits)) c
        (record { left = or_within a.bits b.bits mask p.left q.left; right = p.right; order = or_within a.bits b.bits c.bits p.order q.order }));
    meet_left = λ a b h k. rw (met a b h k) (whole (set_of (bit_and a.bits b.bits)) a
        (record { left = within_trans _ b.bits mask (and_within_right a.bits b.bits) (level b k); right = level a h; order = and_within_left a.bits b.bits }));
    meet_right = λ a b h k. rw (met a b h k) (whole (set_of (bit_and a.bits b.bits)) b
        (record { left = within_trans _ b.bits mask (and_within_right a.bits b.bits) (level b k); right = level b k; order = and_within_right a.bits b.bits }));
    meet_greatest = λ a b c h k.
        let p = parts c a h in
        let q = parts c b k in
        rw (met a b (sides c a h).1 (sides c b k).1) (whole c (set_of (bit_and a.bits b.bits))
        (record { left = p.left; right = within_trans _ b.bits mask (and_within_right a.bits b.bits) q.right; order = within_and a.bits b.bits c.bits p.order q.order }));
    low_level = refl;
    join_off = λ a b h. cond-false _ _ _ h;
    meet_off = λ a b h. cond-false _ _ _ h;
  }

-- Two lattices with the same levels and the same comparison give every answer alike. Assumes nothing.
use Rattle.std.specs.Prelude.{◌≡◌, Bool, true, ◌&&◌}
use Rattle.std.proofs.Common.{sym, ap₂, ◌∙◌, ⊎_elim}
use Rattle.std.proofs.lemmas.Bool.{and_parts, cases_Bool}
use Rattle.levels.specs.Order.{Order, Laws, Same}

module _ {Level : Type 0} (o p : Order Level) (lo : Laws o) (lp : Laws p)
    (levels : (a : Level) → o.is_level a ≡ p.is_level a) (les : (a b : Level) → o.le a b ≡ p.le a b) where
  to : {a b : Level} → o.le a b ≡ true → p.le a b ≡ true
  to {a} {b} h = sym (les a b) ∙ h

  from : {a b : Level} → p.le a b ≡ true → o.le a b ≡ true
  from {a} {b} h = les a b ∙ h

  same_low : o.low ≡ p.low
  same_low =
      lo.antisymmetric _ _ (lo.lowest p.low (levels p.low ∙ lp.low_level))
      (from (lp.lowest o.low (sym (levels o.low) ∙ lo.low_level)))

  same_high : o.high ≡ p.high
  same_high =
      let ho = (lo.levels _ _ (lo.highest o.low lo.low_level)).1 in
      let hp = (lp.levels _ _ (lp.highest p.low lp.low_level)).1 in
      lo.antisymmetric _ _ (from (lp.highest o.high (sym (levels o.high) ∙ ho)))
      (lo.highest p.high (levels p.high ∙ hp))

  both : (a b : Level) → (o.is_level a && o.is_level b) ≡ (p.is_level a && p.is_level b)
  both a b = ap₂ (λ (x y : Bool). x && y) (levels a) (levels b)

  same_join : (a b : Level) → o.join a b ≡ p.join a b
  same_join a b = ⊎_elim on (λ off. lo.join_off a b off ∙ same_low ∙ sym (lp.join_off a b (sym (both a b) ∙ off)))
      (cases_Bool (o.is_level a && o.is_level b))
    where
      on : (o.is_level a && o.is_level b) ≡ true → o.join a b ≡ p.join a b
      on h =
          let x = and_parts (o.is_level a) (o.is_level b) h in
          let y = and_parts (p.is_level a) (p.is_level b) (sym (both a b) ∙ h) in
          lo.antisymmetric _ _
          (lo.join_least a b (p.join a b) (from (lp.join_left a b y.0 y.1)) (from (lp.join_right a b y.0 y.1)))
          (from (lp.join_least a b (o.join a b) (to (lo.join_left a b x.0 x.1)) (to (lo.join_right a b x.0 x.1))))

  same_meet : (a b : Level) → o.meet a b ≡ p.meet a b
  same_meet a b = ⊎_elim on (λ off. lo.meet_off a b off ∙ same_low ∙ sym (lp.meet_off a b (sym (both a b) ∙ off)))
      (cases_Bool (o.is_level a && o.is_level b))
    where
      on : (o.is_level a && o.is_level b) ≡ true → o.meet a b ≡ p.meet a b
      on h =
          let x = and_parts (o.is_level a) (o.is_level b) h in
          let y = and_parts (p.is_level a) (p.is_level b) (sym (both a b) ∙ h) in
          lo.antisymmetric _ _
          (from (lp.meet_greatest a b (o.meet a b) (to (lo.meet_left a b x.0 x.1)) (to (lo.meet_right a b x.0 x.1))))
          (lo.meet_greatest a b (p.meet a b) (from (lp.meet_left a b y.0 y.1)) (from (lp.meet_right a b y.0 y.1)))

  pub same_order : Same o p
  same_order = record { is_level = levels; le = les; join = same_join; meet = same_meet; low = same_low; high = same_high }

-- The computed scopes are those in words.
use Rattle.std.proofs.Common.{◌≡◌, ℕ, zero, suc, ◌+◌, ◌-◌, ◌/◌, ◌%◌, ◌^◌, ◌<◌, ◌≤◌, true, false, cond, ◌&&◌, eqb, ltb, ◌⊎◌, length, Some, None, Option, sym, refl, ap, ◌∙◌, subst, inl, inr, ⊎_elim, mul-div_cancel, arith, pow_pos, pow-add}
use native.Mathlib.Nat.{div-eq_of_lt, div_self, mul-mod_left}
use lib.Bits.{bit_or}
use lib.Pow.{pow-lt}
use Rattle.std.proofs.lemmas.Nat.{or_shr, or_mod}
use Rattle.std.proofs.lemmas.Bool.{and_parts, and_from, eqb-true, eq-eqb, lt-ltb, ltb-true, ltb-false, cases_Bool, cases_eq, cases_order, cond-true, cond-false}
use Rattle.layout.specs.declared.node.Command.TheVariants.{Nothing, SetSlot, SetFigure, If, While, Then, Let, Call, Test}
use Rattle.layout.specs.declared.node.Node.{Node}
use Rattle.layout.specs.declared.node.Node.TheVariants.{Expression as Exp, Command as Com, Argument}
use Rattle.layout.specs.Code.{Code, node}
use Rattle.layout.specs.Tree.{parts, times}
use Rattle.reading.specs.ScopeRule.{parent, adding, holds, within, below_parent, scope}
use Rattle.reading.specs.Opened.{Opened, here, under}
use Rattle.reading.proofs.Parents.{parent_names, scope_below}

bit : ℕ → ℕ → ℕ
bit s a = (s / 2 ^ a) % 2

or_bit : (s t a : ℕ) → (bit_or s t / 2 ^ a) % 2 ≡ bit_or ((s / 2 ^ a) % 2) ((t / 2 ^ a) % 2)
or_bit s t a = ap (λ x. x % 2) (or_shr s t a) ∙ or_mod (s / 2 ^ a) (t / 2 ^ a) 1

one_bit : (a : ℕ) → (2 ^ a / 2 ^ a) % 2 ≡ 1
one_bit a = ap (λ x. x % 2) (div_self (pow_pos a))

no_bit : (a b : ℕ) → (a ≡ b → ⊥) → (2 ^ b / 2 ^ a) % 2 ≡ 0
no_bit a b ne =
    ⊎_elim (λ (e : a ≡ b). absurd (ne e))
    (⊎_elim (λ (lt : a < b).
    let k : ℕ = b - (a + 1) in
    let e : b ≡ (b - (a + 1)) + 1 + a = omega arith in
    ap (λ x. x % 2) (ap (λ x. 2 ^ x / 2 ^ a) e ∙ (ap (λ x. x / 2 ^ a) (pow-add 2 ((b - (a + 1)) + 1) a) ∙ mul-div_cancel (2 ^ ((b - (a + 1)) + 1)) (pow_pos a)))
    ∙ (ap (λ x. x % 2) (pow-add 2 (b - (a + 1)) 1) ∙ mul-mod_left (2 ^ (b - (a + 1))) 2))
    (λ (lt : b < a). ap (λ x. x % 2) (div-eq_of_lt (pow-lt lt))))
    (cases_order a b)

small_bit : (x : ℕ) → bit_or (x % 2) 1 ≡ 1
small_bit x = ⊎_elim (λ (e : x % 2 ≡ 0). rw e) (λ (e : x % 2 ≡ 0 → ⊥). let one : x % 2 ≡ 1 = omega arith in rw one) (cases_eq (x % 2) 0)

keeps_bit : (x : ℕ) → bit_or (x % 2) 0 ≡ x % 2
keeps_bit x = ⊎_elim (λ (e : x % 2 ≡ 0). rw e) (λ (e : x % 2 ≡ 0 → ⊥). let one : x % 2 ≡ 1 = omega arith in rw one) (cases_eq (x % 2) 0)

-- a set with a slot added holds that slot, and what it held
pub holds_added : (s a : ℕ) → a < 16 → holds (adding a s) a ≡ true
holds_added s a h =
    rw (cond-true (ltb a 16) (bit_or s (2 ^ a)) s (lt-ltb a 16 h))
    (and_from _ _ (lt-ltb a 16 h) (eq-eqb _ _ (or_bit s (2 ^ a) a ∙ (ap (λ x. bit_or ((s / 2 ^ a) % 2) x) (one_bit a) ∙ small_bit (s / 2 ^ a)))))

same_bit : (s a b : ℕ) → (a ≡ b → ⊥) → (bit_or s (2 ^ b) / 2 ^ a) % 2 ≡ (s / 2 ^ a) % 2
same_bit s a b ne = or_bit s (2 ^ b) a ∙ (ap (λ x. bit_or ((s / 2 ^ a) % 2) x) (no_bit a b ne) ∙ keeps_bit (s / 2 ^ a))

holds_other : (s a b : ℕ) → (a ≡ b → ⊥) → holds (adding b s) a ≡ holds s a
holds_other s a b ne =
    ⊎_elim (λ (q : ltb b 16 ≡ true). ap (λ t. holds t a) (cond-true _ _ s q) ∙ ap (λ x. ltb a 16 && eqb x 1) (same_bit s a b ne))
    (λ (q : ltb b 16 ≡ false). ap (λ t. holds t a) (cond-false _ (bit_or s (2 ^ b)) s q))
    (cases_Bool (ltb b 16))

holds_small : (s a : ℕ) → holds s a ≡ true → a < 16
holds_small s a e = ltb-true a 16 (and_parts (ltb a 16) _ e).0

holds_kept : (s a b : ℕ) → holds s a ≡ true → holds (adding b s) a ≡ true
holds_kept s a b e =
    ⊎_elim (λ (q : a ≡ b). rw (← q) (holds_added s a (holds_small s a e))) (λ (q : a ≡ b → ⊥). holds_other s a b q ∙ e) (cases_eq a b)

-- a let of slot a whose part c is j
abbrev Lets : Node → ℕ → ℕ → Type 0
Lets n a j = (b : ℕ) × (n ≡ Com (Let a b j))

let_holds : (a b x j s d : ℕ) → holds (cond (eqb x j) (adding a s) s) d ≡ true → Lets (Com (Let a b x)) d j ⊎ (holds s d ≡ true)
let_holds a b x j s d e =
    ⊎_elim (λ (q : eqb x j ≡ true).
    let f : holds (adding a s) d ≡ true = sym (ap (λ t. holds t d) (cond-true _ (adding a s) s q)) ∙ e in
    ⊎_elim (λ (r : d ≡ a). inl (b, rw (r, ← (eqb-true x j q)))) (λ (r : d ≡ a → ⊥). inr (sym (holds_other s d a r) ∙ f)) (cases_eq d a))
    (λ (q : eqb x j ≡ false). inr (sym (ap (λ t. holds t d) (cond-false _ (adding a s) s q)) ∙ e))
    (cases_Bool (eqb x j))

within_holds : (n : Node) (j s d : ℕ) → holds (within n j s) d ≡ true → Lets n d j ⊎ (holds s d ≡ true)
within_holds (Exp x) j s d e = inr e
within_holds (Com Nothing) j s d e = inr e
within_holds (Com (SetSlot a b)) j s d e = inr e
within_holds (Com (SetFigure a b)) j s d e = inr e
within_holds (Com (If a b x)) j s d e = inr e
within_holds (Com (While a b)) j s d e = inr e
within_holds (Com (Then a b)) j s d e = inr e
within_holds (Com (Let a b x)) j s d e = let_holds a b x j s d e
within_holds (Com (Call a g o)) j s d e = inr e
within_holds (Com (Test a b x)) j s d e = inr e
within_holds (Argument b o) j s d e = inr e

within_keeps : (n : Node) (j s d : ℕ) → holds s d ≡ true → holds (within n j s) d ≡ true
within_keeps (Exp x) j s d e = e
within_keeps (Com Nothing) j s d e = e
within_keeps (Com (SetSlot a b)) j s d e = e
within_keeps (Com (SetFigure a b)) j s d e = e
within_keeps (Com (If a b x)) j s d e = e
within_keeps (Com (While a b)) j s d e = e
within_keeps (Com (Then a b)) j s d e = e
within_keeps (Com (Let a b x)) j s d e =
    ⊎_elim (λ (q : eqb x j ≡ true). ap (λ t. holds t d) (cond-true _ (adding a s) s q) ∙ holds_kept s d a e) (λ (q : eqb x j ≡ false). ap (λ t. holds t d) (cond-false _ (adding a s) s q) ∙ e) (cases_Bool (eqb x j))
within_keeps (Com (Call a g o)) j s d e = e
within_keeps (Com (Test a b x)) j s d e = e
within_keeps (Argument b o) j s d e = e

none_held : (a : ℕ) → holds 0 a ≡ true → ⊥
none_held a e =
    let one = eqb-true ((0 / 2 ^ a) % 2) 1 (and_parts (ltb a 16) _ e).1 in
    let nil : 0 / 2 ^ a ≡ 0 = div-eq_of_lt (pow_pos a) in
    let z : ◌≡◌ {A = ℕ} 0 1 = sym (ap (λ x. x % 2) nil) ∙ one in omega arith

-- what is usable by the scopes lies inside part c of a let
pub scope_opened : (c : Code) (k j a : ℕ) → holds (scope c k j) a ≡ true → Opened c a j
unfolding scope
scope_opened c zero j a e = absurd (none_held a e)
scope_opened c (suc k) j a e = go (parent c (length c.nodes) j) refl e (λ p h. scope_opened c k p a h)
  where
    go : (o : Option ℕ) → parent c (length c.nodes) j ≡ o → holds (below_parent o (λ p. within (node c p) j (scope c k p))) a ≡ true → ((p : ℕ) → holds (scope c k p) a ≡ true → Opened c a p) → Opened c a j
    go None par h more = absurd (none_held a h)
    go (Some p) par h more =
        let up = parent_names c (length c.nodes) j p par in
        ⊎_elim (λ (q : Lets (node c p) a j). here up.0 q.1) (λ (q : holds (scope c k p) a ≡ true). under up.0 up.1 (more p q)) (within_holds (node c p) j (scope c k p) a h)

parent_some : (c : Code) (n j p : ℕ) → p < n → 0 < times (parts (node c p)) j → (q : ℕ) × (parent c n j ≡ Some q)
unfolding parent
parent_some c zero j p h e = absurd (omega arith)
parent_some c (suc n) j p h e =
    ⊎_elim (λ (q : ltb 0 (times (parts (node c n)) j) ≡ true). (n, cond-true _ _ _ q))
    (λ (q : ltb 0 (times (parts (node c n)) j) ≡ false).
    let none : times (parts (node c n)) j ≤ 0 = ltb-false 0 (times (parts (node c n)) j) q in
    let less : p < n = ⊎_elim (λ (r : p ≡ n). absurd (omega (arith, none, rw r at e))) (λ (r : p ≡ n → ⊥). omega arith) (cases_eq p n) in
    let r = parent_some c n j p less e in (r.0, cond-false _ _ _ q ∙ r.1))
    (cases_Bool (ltb 0 (times (parts (node c n)) j)))

-- Where each node is named by one other at most, and what is named lies lower, what lies inside part c of a let is usable by the scopes.
module _ (c : Code) (lower : (i j : ℕ) → i < length c.nodes → 0 < times (parts (node c i)) j → j < i) (once : (j p q : ℕ) → p < length c.nodes → q < length c.nodes → 0 < times (parts (node c p)) j → 0 < times (parts (node c q)) j → p ≡ q) where
  the_parent : (j p : ℕ) → p < length c.nodes → 0 < times (parts (node c p)) j → parent c (length c.nodes) j ≡ Some p
  the_parent j p h named =
      let r = parent_some c (length c.nodes) j p h named in
      let up = parent_names c (length c.nodes) j r.0 r.1 in
      r.1 ∙ ap (λ q. Some q) (once j r.0 p up.0 h up.1 named)

  scope_at : (j p : ℕ) → p < length c.nodes → 0 < times (parts (node c p)) j → scope c (length c.nodes) j ≡ within (node c p) j (scope c (length c.nodes) p)
  scope_at j p h named =
      let less : j < p = lower p j h named in
      let inside : j < length c.nodes = omega arith in
      scope_below c lower j inside ∙ ap (λ o. below_parent o (λ q. within (node c q) j (scope c (length c.nodes) q))) (the_parent j p h named)

  names_part : (a b j : ℕ) → 0 < times (parts (Com (Let a b j))) j
  names_part a b j = let own : ◌≡◌ {A = ℕ} (cond (eqb j j) 1 0) 1 = cond-true {A = ℕ} (eqb j j) 1 0 (eq-eqb j j refl) in omega arith

  pub opened_scope : {a j : ℕ} → a < 16 → Opened c a j → holds (scope c (length c.nodes) j) a ≡ true
  opened_scope {a} {j} small (here {l} {b} h e) =
      let named : 0 < times (parts (node c l)) j = subst (λ (n : Node). 0 < times (parts n) j) (sym e) (names_part a b j) in
      ap (λ s. holds s a) (scope_at j l h named ∙ (ap (λ (n : Node). within n j (scope c (length c.nodes) l)) e ∙ cond-true _ _ _ (eq-eqb j j refl))) ∙ holds_added _ a small
  opened_scope {a} {j} small (under {p} h named o) =
      ap (λ s. holds s a) (scope_at j p h named) ∙ within_keeps (node c p) j _ a (opened_scope small o)

-- What is named lies lower, and so a walk up ends.
use Rattle.std.proofs.Common.{◌≡◌, ℕ, zero, suc, ◌+◌, ◌<◌, ◌≤◌, Bool, true, false, cond, ◌&&◌, eqb, ltb, leb, length, Some, None, Option, sym, refl, ap, ◌∙◌, ⊎_elim, arith}
use Rattle.std.proofs.lemmas.Bool.{and_parts, not-false, ltb-true, eqb-true, cases_Bool, cond-true, cond-false, cases_lt}
use Rattle.std.proofs.lemmas.Bool.Decides.{nat_tests}
use Rattle.std.proofs.lemmas.Option.{none-some}
use Rattle.layout.specs.declared.parts.Part.{Part}
use Rattle.layout.specs.Code.{Code, node, start, owner, is_a}
use Rattle.layout.specs.Tree.{parts, target, hit, times}
use Rattle.reading.specs.Folding.{step_at, steps_at, folded}
use Rattle.reading.specs.NamingRule.{lies, part_fits, all_fit, ends_well, naming_broken}
use Rattle.reading.specs.ScopeRule.{parent, within, below_parent, scope}

-- a part that fits and is node j lies below
hit_lower : (c : Code) (low i j b : ℕ) → lies low i b ≡ true → 0 < hit (Some b) j → j < i
hit_lower c low i j b e h =
    ⊎_elim (λ (q : eqb b j ≡ true). omega (arith, eqb-true b j q, ltb-true b i (and_parts (leb low b) (ltb b i) e).1))
    (λ (q : eqb b j ≡ false). absurd (omega (arith, h, cond-false {A = ℕ} (eqb b j) 1 0 q)))
    (cases_Bool (eqb b j))

part_lower : (c : Code) (low i j : ℕ) (p : Option Part) → part_fits c low i p ≡ true → 0 < hit (target p) j → j < i
part_lower c low i j None e h = absurd (omega arith)
part_lower c low i j (Some p) e h = hit_lower c low i j p.node (and_parts _ (is_a p.sort (node c p.node)) e).0 h

pub named_lower : (c : Code) (i j : ℕ) → naming_broken c i ≡ false → 0 < times (parts (node c i)) j → j < i
named_lower c i j e h =
    let fits = (and_parts (ends_well c i) (all_fit c (start c (owner c i)) i (parts (node c i))) (not-false _ e)).1 in
    let front = and_parts (part_fits c (start c (owner c i)) i (parts (node c i)).0) (part_fits c (start c (owner c i)) i (parts (node c i)).1 && part_fits c (start c (owner c i)) i (parts (node c i)).2) fits in
    let back = and_parts (part_fits c (start c (owner c i)) i (parts (node c i)).1) (part_fits c (start c (owner c i)) i (parts (node c i)).2) front.1 in
    ⊎_elim (λ (q : 0 < hit (target (parts (node c i)).0) j). part_lower c _ i j _ front.0 q)
    (λ (q : hit (target (parts (node c i)).0) j ≤ 0).
    ⊎_elim (λ (r : 0 < hit (target (parts (node c i)).1) j). part_lower c _ i j _ back.0 r)
    (λ (r : hit (target (parts (node c i)).1) j ≤ 0).
    let third : 0 < hit (target (parts (node c i)).2) j = omega (arith, h, q, r) in
    part_lower c _ i j _ back.1 third)
    (cases_lt 0 (hit (target (parts (node c i)).1) j)))
    (cases_lt 0 (hit (target (parts (node c i)).0) j))

-- a parent names its part
pub parent_names : (c : Code) (n j p : ℕ) → parent c n j ≡ Some p → (p < n) × (0 < times (parts (node c p)) j)
unfolding parent
parent_names c zero j p e = absurd (none-some p e)
parent_names c (suc n) j p e =
    ⊎_elim (λ (q : ltb 0 (times (parts (node c n)) j) ≡ true).
    let here : n ≡ p = same_some n p (sym (cond-true _ _ _ q) ∙ e) in
    rw (← here) (omega arith, ltb-true _ _ q))
    (λ (q : ltb 0 (times (parts (node c n)) j) ≡ false).
    let rest = parent_names c n j p (sym (cond-false _ _ _ q) ∙ e) in
    (omega (arith, rest.0), rest.1))
    (cases_Bool (ltb 0 (times (parts (node c n)) j)))
  where
    same_some : (x y : ℕ) → ◌≡◌ {A = Option ℕ} (Some x) (Some y) → x ≡ y
    same_some x y h = cc

below_same : (o : Option ℕ) (f g : ℕ → ℕ) → ((p : ℕ) → o ≡ Some p → f p ≡ g p) → below_parent o f ≡ below_parent o g
below_same None f g h = refl
below_same (Some p) f g h = h p refl

-- Where what is named lies lower, the walk up from any node of a program ends.
module _ (c : Code) (lower : (i j : ℕ) → i < length c.nodes → 0 < times (parts (node c i)) j → j < i) where
  pub scope_stable : (k j : ℕ) → j < length c.nodes → length c.nodes ≤ k + j → scope c k j ≡ scope c (suc k) j
  unfolding scope
  scope_stable zero j h far = absurd (omega arith)
  scope_stable (suc k) j h far =
      below_same (parent c (length c.nodes) j) _ _ (λ p e.
      let up = parent_names c (length c.nodes) j p e in
      let high : j < p = lower p j up.0 up.1 in
      ap (λ s. within (node c p) j s) (scope_stable k p up.0 (omega arith)))

  pub scope_below : (j : ℕ) → j < length c.nodes → scope c (length c.nodes) j ≡ below_parent (parent c (length c.nodes) j) (λ p. within (node c p) j (scope c (length c.nodes) p))
  unfolding scope
  scope_below j h = scope_stable (length c.nodes) j h (omega arith)

-- the node that names comes in place of what was there
abbrev pub adopted : Option ℕ → ℕ → Option ℕ
adopted o i = Some i

step_adopts : (i : ℕ) (o : Option ℕ) (j : ℕ) (w : Option ℕ) → step_at adopted i o j w ≡ cond (ltb 0 (hit o j)) (Some i) w
step_adopts i None j w = refl
step_adopts i (Some b) j w = by_bit (eqb b j)
  where
    by_bit : (x : Bool) → cond x (Some i) w ≡ cond (ltb 0 (cond x 1 0)) (Some i) w
    by_bit true = refl
    by_bit false = refl

steps_adopt : (i : ℕ) (ps : Option Part × Option Part × Option Part) (j : ℕ) (w : Option ℕ) → steps_at adopted i ps j w ≡ cond (ltb 0 (times ps j)) (Some i) w
steps_adopt i ps j w =
    step_adopts i (target ps.2) j _
    ∙ (ap (λ v. cond (ltb 0 (hit (target ps.2) j)) (Some i) v) (step_adopts i (target ps.1) j _ ∙ ap (λ v. cond (ltb 0 (hit (target ps.1) j)) (Some i) v) (step_adopts i (target ps.0) j w))
    ∙ joined (hit (target ps.0) j) (hit (target ps.1) j) (hit (target ps.2) j) (times ps j) (Some i) w (omega arith))
  where
    joined : (a b d t : ℕ) (u v : Option ℕ) → a + b + d ≡ t → cond (ltb 0 d) u (cond (ltb 0 b) u (cond (ltb 0 a) u v)) ≡ cond (ltb 0 t) u v
    joined a b d t u v e = grind (arith, nat_tests)

pub parent_folded : (c : Code) (n j : ℕ) → folded adopted None c n j ≡ parent c n j
unfolding folded parent
parent_folded c zero j = refl
parent_folded c (suc n) j =
    steps_adopt n (parts (node c n)) j (folded adopted None c n j)
    ∙ ap (λ w. cond (ltb 0 (times (parts (node c n)) j)) (Some n) w) (parent_folded c n j)

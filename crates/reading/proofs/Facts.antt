-- What a program that was read has, in plain numbers. For the layers above.
use Rattle.std.proofs.Common.{◌≡◌, ℕ, ◌<◌, ◌≤◌, Bool, true, false, not, ◌&&◌, ltb, leb, length, Some, None, Option, sym, ap, ◌∙◌, subst, ⊎_elim, arith}
use Rattle.std.proofs.lemmas.Bool.{and_parts, and_from, or_cases, not-false, not-true, not_from_false, both_ways, ltb-true, lt-ltb, leb-true, leb-false, false≢true, eqb-false, cases_Bool}
use Rattle.layout.specs.declared.parts.Part.{Part}
use Rattle.layout.specs.declared.parts.Sort.TheVariants.{Expression as OfExpression, Command as OfCommand}
use Rattle.layout.specs.declared.node.Node.{Node}
use Rattle.layout.specs.declared.node.Node.TheVariants.{Expression as Exp, Command as Com, Argument}
use Rattle.layout.specs.declared.node.Expression.{Expression}
use Rattle.layout.specs.declared.node.Command.{Command}
use Rattle.layout.specs.declared.node.Command.TheVariants.{Call}
use Rattle.layout.specs.Code.{Code, node, function, body, start, owner, is_a, as_expression, as_command}
use Rattle.layout.specs.Tree.{parts, slot_of}
use Rattle.reading.specs.CodeRule.{past}
use Rattle.reading.specs.NamingRule.{lies, part_fits, all_fit, is_body, ends_well}
use Rattle.reading.specs.CallRule.{chained, calls_well}
use Rattle.reading.specs.ScopeRule.{scoped, scope_broken}
use Rattle.reading.specs.Sound.{FewFunctions, SlotsFit, SlotsThere, NamesFit, CallsFit, InScope}
use Rattle.reading.proofs.Bodies.{owner_inside}

-- what is so of a part: it lies between, and is of its sort
abbrev pub PartIs : Code → ℕ → ℕ → Option Part → Type 0
PartIs c low i None = Unit {0}
PartIs c low i (Some p) = (low ≤ p.node) × (p.node < i) × (is_a p.sort (node c p.node) ≡ true)

abbrev pub PartsAre : Code → ℕ → ℕ → Option Part × Option Part × Option Part → Type 0
PartsAre c low i p = PartIs c low i p.0 × PartIs c low i p.1 × PartIs c low i p.2

lies_between : (c : Code) (low i b : ℕ) (s : Bool) → (lies low i b && s) ≡ true → (low ≤ b) × (b < i) × (s ≡ true)
lies_between c low i b s e =
    let both = and_parts (lies low i b) s e in
    let ends = and_parts (leb low b) (ltb b i) both.0 in
    (leb-true low b ends.0, ltb-true b i ends.1, both.1)

part_is : (c : Code) (low i : ℕ) (p : Option Part) → part_fits c low i p ≡ true → PartIs c low i p
part_is c low i None e = tt
part_is c low i (Some p) e = lies_between c low i p.node (is_a p.sort (node c p.node)) e

parts_are : (c : Code) (low i : ℕ) (p : Option Part × Option Part × Option Part) → all_fit c low i p ≡ true → PartsAre c low i p
parts_are c low i p e =
    let front = and_parts (part_fits c low i p.0) (part_fits c low i p.1 && part_fits c low i p.2) e in
    let back = and_parts (part_fits c low i p.1) (part_fits c low i p.2) front.1 in
    (part_is c low i p.0 front.0, part_is c low i p.1 back.0, part_is c low i p.2 back.1)

-- what a node names lies lower, in its function, and is of the right sort
pub names : (c : Code) (i : ℕ) (n : Node) → NamesFit c → i < length c.nodes → node c i ≡ n → PartsAre c (start c (owner c i)) i (parts n)
names c i n fit h e =
    let all = parts_are c (start c (owner c i)) i (parts (node c i)) (and_parts (ends_well c i) _ (not-false _ (fit i h))).1 in
    subst (λ (m : Node). PartsAre c (start c (owner c i)) i (parts m)) e all

-- the slots of a function
pub record Slots (c : Code) (g : ℕ) : Type 0 where
  pub parameters : (function c g).parameters ≤ 8
  pub result : (function c g).parameters < (function c g).slots
  pub slots : (function c g).slots ≤ 16

pub slots_are : (c : Code) (g : ℕ) → SlotsFit c → g < length c.functions → Slots c g
slots_are c g fit h =
    let b = and_parts (leb (function c g).parameters 8) _ (not-false _ (fit g h)) in
    let d = and_parts (ltb (function c g).parameters (function c g).slots) _ b.1 in
    let m = and_parts (leb (function c g).slots 16) _ d.1 in
    record { parameters = leb-true _ _ b.0; result = ltb-true _ _ d.0; slots = leb-true _ _ m.0 }

past_small : (m a : ℕ) (o : Option ℕ) → o ≡ Some a → past m o ≡ false → a < m
past_small m a o e h = leb-false m a (rw e at h)

-- the slot that a node uses is one of its function's, of which there are at most 16
pub slot_small : (c : Code) (i a : ℕ) → FewFunctions c → SlotsFit c → SlotsThere c → i < length c.nodes → slot_of (node c i) ≡ Some a → (a < (function c (owner c i)).slots) × (a < 16)
slot_small c i a few fit slots h e =
    let small = past_small (function c (owner c i)).slots a (slot_of (node c i)) e (slots i h) in
    let most = (slots_are c (owner c i) fit (owner_inside c i few)).slots in
    (small, omega arith)

pub is_exp : (n : Node) (e : Expression) → is_a OfExpression n ≡ true → as_expression n ≡ e → n ≡ Exp e
is_exp (Exp x) e h q = ap Exp q
is_exp (Com x) e h q = absurd (false≢true h)
is_exp (Argument b o) e h q = absurd (false≢true h)

pub is_com : (n : Node) (e : Command) → is_a OfCommand n ≡ true → as_command n ≡ e → n ≡ Com e
is_com (Exp x) e h q = absurd (false≢true h)
is_com (Com x) e h q = ap Com q
is_com (Argument b o) e h q = absurd (false≢true h)

-- a body is a command
pub body_command : (c : Code) (i : ℕ) → NamesFit c → i < length c.nodes → i ≡ body c (owner c i) → is_a OfCommand (node c i) ≡ true
body_command c i fit h e =
    ⊎_elim (λ (q : not (is_body c i) ≡ true). absurd (eqb-false _ _ (not-true _ q) e)) (λ (q : is_a OfCommand (node c i) ≡ true). q)
    (or_cases _ _ (and_parts (ends_well c i) _ (not-false _ (fit i h))).0)

-- a call names a lower function, and has as many arguments as that has parameters
pub call_is : (c : Code) (i a g : ℕ) (o : Option ℕ) → CallsFit c → i < length c.nodes → node c i ≡ Com (Call a g o) → (g < owner c i) × (chained c (function c g).parameters o ≡ true)
call_is c i a g o fit h e =
    let fits : calls_well c i (Com (Call a g o)) ≡ true = sym (ap (λ (n : Node). calls_well c i n) e) ∙ not-false _ (fit i h) in
    let both = and_parts (ltb g (owner c i)) (chained c (function c g).parameters o) fits in
    (ltb-true _ _ both.0, both.1)

-- what is used at a node is usable there, and what a let takes is not
pub scoped_is : (c : Code) (i : ℕ) (n : Node) → InScope c → i < length c.nodes → node c i ≡ n → scoped c i n ≡ true
scoped_is c i n fit h e =
    ⊎_elim (λ (q : scoped c i (node c i) ≡ true). subst (λ (m : Node). scoped c i m ≡ true) e q)
    (λ (q : scoped c i (node c i) ≡ false). absurd (both_ways (scope_broken c i) (fit i h) (and_from _ _ (lt-ltb _ _ h) (not_from_false _ q))))
    (cases_Bool (scoped c i (node c i)))

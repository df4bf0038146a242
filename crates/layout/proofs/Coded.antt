-- What a node is written as is read as that node, and only that is.
use Rattle.std.proofs.Common.{◌≡◌, ℕ, ◌+◌, ◌*◌, ◌/◌, ◌%◌, ◌<◌, eqb, Some, None, Option, refl, ap, arith}
use Rattle.std.specs.Option.{option_map, option_or}
use Rattle.std.proofs.lemmas.Bool.{ne_eqb, cond-false}
use Rattle.std.proofs.lemmas.Bool.Decides.{nat_tests}
use Rattle.layout.specs.declared.node.Operator.{Operator}
use Rattle.layout.specs.declared.node.Operator.TheVariants.{Add, Subtract, Multiply, Divide, Less, Equal}
use Rattle.layout.specs.declared.node.Expression.{Expression}
use Rattle.layout.specs.declared.node.Expression.TheVariants.{Constant, Slot, Figure, Operation}
use Rattle.layout.specs.declared.node.Command.{Command}
use Rattle.layout.specs.declared.node.Command.TheVariants.{Nothing, SetSlot, SetFigure, If, While, Then, Let, Call, Test}
use Rattle.layout.specs.declared.node.Node.{Node}
use Rattle.layout.specs.declared.node.Node.TheVariants.{Expression as Exp, Command as Com, Argument}
use Rattle.layout.specs.declared.operands.Operands.{Operands}
use Rattle.layout.specs.Decoding.{linked, operator_of, expression_of, command_of, argument_of, node_of}
use Rattle.layout.specs.Encoding.{link, operator_code, coded, expression_operands, command_operands, operands}

same_some : {A : Type 0} {x y : A} → ◌≡◌ {A = Option A} (Some x) (Some y) → x ≡ y
same_some e = cc

operator_back : (k : ℕ) (o : Operator) → operator_of k ≡ Some o → operator_code o ≡ k
operator_back k o e = grind (arith, nat_tests)

link_linked : (n : ℕ) → link (linked n) ≡ n
link_linked n = grind (arith, nat_tests)

module _ (k a b c d : ℕ) where
  expression_back : (e : Expression) → d < 65536 → expression_of (coded k a b c d) ≡ Some e → expression_operands e ≡ coded k a b c d
  expression_back e small h = grind (arith, nat_tests, operator_back)

  command_back : (e : Command) → command_of (coded k a b c d) ≡ Some e → command_operands e ≡ coded k a b c d
  command_back e h = grind (arith, nat_tests, link_linked)

  argument_back : (n : Node) → argument_of (coded k a b c d) ≡ Some n → operands n ≡ coded k a b c d
  argument_back n h = grind (arith, nat_tests, link_linked)

-- operands that are read as a node are those that it is written as
pub node_back : (o : Operands) (n : Node) → o.d < 65536 → node_of o ≡ Some n → operands n ≡ o
unfolding node_of
node_back o n small h = go (expression_of o) (command_of o) refl refl h
  where
    go : (x : Option Expression) (y : Option Command) → expression_of o ≡ x → command_of o ≡ y → option_or (option_or (option_map Exp x) (option_map Com y)) (argument_of o) ≡ Some n → operands n ≡ o
    go None None ex ey h = argument_back o.code o.a o.b o.c o.d n h
    go None (Some e) ex ey h = rw (← same_some h) (command_back o.code o.a o.b o.c o.d e ey)
    go (Some e) y ex ey h = rw (← same_some h) (expression_back o.code o.a o.b o.c o.d e small ex)

-- a link that can be told from no node
abbrev pub Linked : Option ℕ → Type 0
Linked None = Unit {0}
Linked (Some n) = n < 65535

linked_link : (o : Option ℕ) → Linked o → linked (link o) ≡ o
linked_link None h = refl
linked_link (Some n) h = cond-false (eqb n 65535) None (Some n) (ne_eqb n 65535 (λ e. omega arith))

abbrev pub Writable : Node → Type 0
Writable (Exp e) = Unit {0}
Writable (Com Nothing) = Unit {0}
Writable (Com (SetSlot a b)) = Unit {0}
Writable (Com (SetFigure a b)) = Unit {0}
Writable (Com (If b c d)) = Unit {0}
Writable (Com (While b c)) = Unit {0}
Writable (Com (Then b c)) = Unit {0}
Writable (Com (Let a b c)) = Unit {0}
Writable (Com (Call a g o)) = Linked o
Writable (Com (Test a b c)) = Unit {0}
Writable (Argument b o) = Linked o

-- the code and operands of a node are read as that node
pub operands_read : (n : Node) → Writable n → node_of (operands n) ≡ Some n
unfolding node_of
operands_read (Exp (Constant v)) h = let e : 65536 * (v / 65536) + v % 65536 ≡ v = omega arith in ap (λ x. Some (Exp (Constant x))) e
operands_read (Exp (Slot a)) h = refl
operands_read (Exp (Figure a)) h = refl
operands_read (Exp (Operation Add b c)) h = refl
operands_read (Exp (Operation Subtract b c)) h = refl
operands_read (Exp (Operation Multiply b c)) h = refl
operands_read (Exp (Operation Divide b c)) h = refl
operands_read (Exp (Operation Less b c)) h = refl
operands_read (Exp (Operation Equal b c)) h = refl
operands_read (Com Nothing) h = refl
operands_read (Com (SetSlot a b)) h = refl
operands_read (Com (SetFigure a b)) h = refl
operands_read (Com (If b c d)) h = refl
operands_read (Com (While b c)) h = refl
operands_read (Com (Then b c)) h = refl
operands_read (Com (Let a b c)) h = refl
operands_read (Com (Call a g o)) h = ap (λ x. Some (Com (Call a g x))) (linked_link o h)
operands_read (Com (Test a b c)) h = refl
operands_read (Argument b o) h = ap (λ x. Some (Argument b x)) (linked_link o h)

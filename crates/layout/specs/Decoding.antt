-- The byte layout: how eight bytes are a node, twenty-four a function, and three byte lists a program.
use Rattle.std.specs.Prelude.{ℕ, ◌+◌, ◌*◌, ◌/◌, Bool, cond, ◌&&◌, ◌||◌, List, map, length, take, drop, Some, None, Option, ◌==◌, nat_le, nat_lt, slice_index}
use Rattle.std.specs.List.{range_with_len}
use Rattle.std.specs.Bool.{then_some}
use Rattle.std.specs.Option.{option_map, option_or, unwrap_or}
use Rattle.levels.specs.Scan.{every}
use Rattle.layout.specs.declared.node.Operator.{Operator}
use Rattle.layout.specs.declared.node.Operator.TheVariants.{Add, Subtract, Multiply, Divide, Less, Equal}
use Rattle.layout.specs.declared.node.Expression.{Expression}
use Rattle.layout.specs.declared.node.Expression.TheVariants.{Constant, Slot, Figure, Operation}
use Rattle.layout.specs.declared.node.Command.{Command}
use Rattle.layout.specs.declared.node.Command.TheVariants.{Nothing, SetSlot, SetFigure, If, While, Then, Let, Call, Test}
use Rattle.layout.specs.declared.node.Node.{Node}
use Rattle.layout.specs.declared.node.Node.TheVariants.{Expression as Exp, Command as Com, Argument}
use Rattle.layout.specs.declared.operands.Operands.{Operands}
use Rattle.layout.specs.declared.function.Function.{Function}
use Rattle.layout.specs.Code.{Code, code, no_node, no_function}

-- one byte, and two bytes, the higher first
abbrev pub byte : List ℕ → ℕ → ℕ
byte xs i = slice_index xs i

abbrev pub word : List ℕ → ℕ → ℕ
word xs i = 256 * slice_index xs i + slice_index xs (i + 1)

-- 65,535 stands for no node
abbrev pub linked : ℕ → Option ℕ
linked n = cond (n == 65535) None (Some n)

abbrev pub operator_of : ℕ → Option Operator
operator_of code =
    cond (code == 0x10) (Some Add)
    (cond (code == 0x11) (Some Subtract)
    (cond (code == 0x12) (Some Multiply)
    (cond (code == 0x13) (Some Divide)
    (cond (code == 0x14) (Some Less)
    (cond (code == 0x15) (Some Equal) None)))))

abbrev pub operation_of : Option Operator → Operands → Option Expression
operation_of None o = None
operation_of (Some x) o = then_some (o.a == 0 && o.d == 0) (Operation x o.b o.c)

-- an operand that is not used is 0
abbrev pub expression_of : Operands → Option Expression
expression_of o =
    cond (o.code == 0x01) (then_some (o.a == 0 && o.b == 0) (Constant (65536 * o.c + o.d)))
    (cond (o.code == 0x02) (then_some (o.b == 0 && (o.c == 0 && o.d == 0)) (Slot o.a))
    (cond (o.code == 0x03) (then_some (o.b == 0 && (o.c == 0 && o.d == 0)) (Figure o.a))
    (operation_of (operator_of o.code) o)))

abbrev pub command_of : Operands → Option Command
command_of o =
    cond (o.code == 0x20) (then_some (o.a == 0 && (o.b == 0 && (o.c == 0 && o.d == 0))) Nothing)
    (cond (o.code == 0x21) (then_some (o.c == 0 && o.d == 0) (SetSlot o.a o.b))
    (cond (o.code == 0x22) (then_some (o.c == 0 && o.d == 0) (SetFigure o.a o.b))
    (cond (o.code == 0x23) (then_some (o.a == 0) (If o.b o.c o.d))
    (cond (o.code == 0x24) (then_some (o.a == 0 && o.d == 0) (While o.b o.c))
    (cond (o.code == 0x25) (then_some (o.a == 0 && o.d == 0) (Then o.b o.c))
    (cond (o.code == 0x26) (then_some (o.d == 0) (Let o.a o.b o.c))
    (cond (o.code == 0x27) (then_some (o.d == 0) (Call o.a o.b (linked o.c)))
    (cond (o.code == 0x28) (then_some (o.d == 0) (Test o.a o.b o.c)) None))))))))

abbrev pub argument_of : Operands → Option Node
argument_of o = then_some (o.code == 0x30 && (o.a == 0 && o.d == 0)) (Argument o.b (linked o.c))

-- the node of a code and four operands, if there is one
unfoldable pub node_of : Operands → Option Node
node_of o =
    option_or (option_or (option_map Exp (expression_of o)) (option_map Com (command_of o))) (argument_of o)

-- the bytes reach to the end of entry i, of so many bytes each
abbrev pub has : ℕ → List ℕ → ℕ → Bool
has width xs i = nat_le (width * i + width) (length xs)

-- the code and operands at place i
abbrev pub operands_at : List ℕ → ℕ → Operands
operands_at xs i = record {
  code = byte xs (8 * i);
  a = byte xs (8 * i + 1);
  b = word xs (8 * i + 2);
  c = word xs (8 * i + 4);
  d = word xs (8 * i + 6);
}

-- the node that the bytes have at place i, if they are there and are one
unfoldable pub node_at : List ℕ → ℕ → Option Node
node_at xs i = cond (has 8 xs i) (node_of (operands_at xs i)) None

-- the numbers that the bytes have at the place of function g
unfoldable pub record_at : List ℕ → ℕ → Function
record_at xs g = record {
  app = byte xs (24 * g);
  parameters = byte xs (24 * g + 1);
  slots = byte xs (24 * g + 2);
  effect = byte xs (24 * g + 3);
  body = word xs (24 * g + 4);
  types = take 16 (drop (24 * g + 8) xs);
}

-- its two bytes that stand for nothing are 0
abbrev pub padded : List ℕ → ℕ → Bool
padded xs g = byte xs (24 * g + 6) == 0 && byte xs (24 * g + 7) == 0

-- a function has at most 8 parameters, a slot more than parameters and at most 16, and a slot that it has not has no type
abbrev pub untyped : Function → ℕ → Bool
untyped f j = nat_lt j f.slots || slice_index f.types j == 0

abbrev pub slots_fit : Function → Bool
slots_fit f = nat_le f.parameters 8 && (nat_lt f.parameters f.slots && (nat_le f.slots 16 && every 16 (untyped f)))

-- the function that the bytes have at place g, if they are there and keep its layout
abbrev pub function_at : List ℕ → ℕ → Option Function
function_at xs g =
    then_some (has 24 xs g && (padded xs g && slots_fit (record_at xs g))) (record_at xs g)

-- entries of one width stand one after another; what is none is read as absent
unfoldable pub entries_of : {X : Type 0} → ℕ → (List ℕ → ℕ → Option X) → X → List ℕ → List X
entries_of width at absent xs = map (λ i. unwrap_or (at xs i) absent) (range_with_len 0 (length xs / width))

abbrev pub nodes_of : List ℕ → List Node
nodes_of = entries_of 8 node_at no_node

abbrev pub functions_of : List ℕ → List Function
functions_of = entries_of 24 function_at no_function

-- what the three byte lists stand for
abbrev pub decoded : List ℕ → List ℕ → List ℕ → Code
decoded ns gs ps = code (nodes_of ns) (functions_of gs) ps

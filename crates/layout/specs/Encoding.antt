-- How a program is written: each node in eight bytes, each function in twenty-four, each app in one.
use Rattle.std.specs.Prelude.{ℕ, ◌/◌, ◌%◌, List, [], ◌∷◌, ◌++◌, Some, None, Option, vec_items}
use Rattle.std.specs.List.{flat_map}
use Rattle.layout.specs.declared.node.Operator.{Operator}
use Rattle.layout.specs.declared.node.Operator.TheVariants.{Add, Subtract, Multiply, Divide, Less, Equal}
use Rattle.layout.specs.declared.node.Expression.{Expression}
use Rattle.layout.specs.declared.node.Expression.TheVariants.{Constant, Slot, Figure, Operation}
use Rattle.layout.specs.declared.node.Command.{Command}
use Rattle.layout.specs.declared.node.Command.TheVariants.{Nothing, SetSlot, SetFigure, If, While, Then, Let, Call, Test}
use Rattle.layout.specs.declared.node.Node.{Node}
use Rattle.layout.specs.declared.node.Node.TheVariants.{Expression as Exp, Command as Com, Argument}
use Rattle.layout.specs.declared.operands.Operands.{Operands}
use Rattle.layout.specs.declared.lists.Lists.{Lists as Lent}
use Rattle.layout.specs.declared.lists.OwnedLists.{OwnedLists}
use Rattle.layout.specs.declared.function.Function.{Function}
use Rattle.layout.specs.Code.{Code}

-- no node is written as 65,535
abbrev pub link : Option ℕ → ℕ
link None = 65535
link (Some n) = n

abbrev pub operator_code : Operator → ℕ
operator_code Add = 0x10
operator_code Subtract = 0x11
operator_code Multiply = 0x12
operator_code Divide = 0x13
operator_code Less = 0x14
operator_code Equal = 0x15

-- what is written of a code and four operands
abbrev pub coded : ℕ → ℕ → ℕ → ℕ → ℕ → Operands
coded code a b c d = record { code = code; a = a; b = b; c = c; d = d }

abbrev pub expression_operands : Expression → Operands
expression_operands (Constant v) = coded 0x01 0 0 (v / 65536) (v % 65536)
expression_operands (Slot a) = coded 0x02 a 0 0 0
expression_operands (Figure a) = coded 0x03 a 0 0 0
expression_operands (Operation o b c) = coded (operator_code o) 0 b c 0

abbrev pub command_operands : Command → Operands
command_operands Nothing = coded 0x20 0 0 0 0
command_operands (SetSlot a b) = coded 0x21 a b 0 0
command_operands (SetFigure a b) = coded 0x22 a b 0 0
command_operands (If b c d) = coded 0x23 0 b c d
command_operands (While b c) = coded 0x24 0 b c 0
command_operands (Then b c) = coded 0x25 0 b c 0
command_operands (Let a b c) = coded 0x26 a b c 0
command_operands (Call a g o) = coded 0x27 a g (link o) 0
command_operands (Test a b c) = coded 0x28 a b c 0

abbrev pub operands : Node → Operands
operands (Exp e) = expression_operands e
operands (Com e) = command_operands e
operands (Argument b o) = coded 0x30 0 b (link o) 0

-- an operand of two bytes has the higher first
abbrev pub eight : Operands → List ℕ
eight o = o.code ∷ o.a ∷ o.b / 256 ∷ o.b % 256 ∷ o.c / 256 ∷ o.c % 256 ∷ o.d / 256 ∷ o.d % 256 ∷ []

abbrev pub node_bytes : Node → List ℕ
node_bytes n = eight (operands n)

abbrev pub function_head : Function → List ℕ
function_head f = f.app ∷ f.parameters ∷ f.slots ∷ f.effect ∷ f.body / 256 ∷ f.body % 256 ∷ 0 ∷ 0 ∷ []

abbrev pub function_bytes : Function → List ℕ
function_bytes f = function_head f ++ f.types

-- three byte lists
pub record Lists : Type 0 where
  pub nodes : List ℕ
  pub functions : List ℕ
  pub apps : List ℕ

abbrev pub lists : List ℕ → List ℕ → List ℕ → Lists
lists ns gs ps = record { nodes = ns; functions = gs; apps = ps }

-- the lists that are lent, and those with their memory
abbrev pub lists_of : Lent → Lists
lists_of l = lists l.nodes.now l.functions.now l.apps.now

abbrev pub written_lists : OwnedLists → Lists
written_lists w = lists (vec_items w.nodes) (vec_items w.functions) (vec_items w.apps)

abbrev pub no_lists : Lists
no_lists = lists [] [] []

abbrev pub encoded : Code → Lists
encoded c = lists (flat_map node_bytes c.nodes) (flat_map function_bytes c.functions) c.apps

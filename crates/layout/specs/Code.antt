-- A program: its nodes, functions and apps, and which function a node belongs to.
use Rattle.std.specs.Prelude.{ℕ, ◌+◌, ◌-◌, Bool, true, false, cond, List, length, replicate, ◌==◌, nat_le, slice_index_or}
use Rattle.std.specs.Option.{unwrap_or}
use Rattle.levels.specs.Scan.{lowest}
use Rattle.layout.specs.declared.node.Expression.{Expression}
use Rattle.layout.specs.declared.node.Expression.TheVariants.{Constant}
use Rattle.layout.specs.declared.node.Command.{Command}
use Rattle.layout.specs.declared.node.Command.TheVariants.{Nothing}
use Rattle.layout.specs.declared.node.Node.{Node}
use Rattle.layout.specs.declared.node.Node.TheVariants.{Expression as Exp, Command as Com, Argument}
use Rattle.layout.specs.declared.parts.Sort.{Sort}
use Rattle.layout.specs.declared.parts.Sort.TheVariants.{Expression as OfExpression, Command as OfCommand, Argument as OfArgument}
use Rattle.layout.specs.declared.function.Function.{Function}

pub record Code : Type 0 where
  pub nodes : List Node
  pub functions : List Function
  pub apps : List ℕ

abbrev pub code : List Node → List Function → List ℕ → Code
code ns gs ps = record { nodes = ns; functions = gs; apps = ps }

-- a look-up past the end gives a nothing, and a function with no slots
abbrev pub no_node : Node
no_node = Com Nothing

abbrev pub node : Code → ℕ → Node
node c i = slice_index_or c.nodes i no_node

abbrev pub no_function : Function
no_function = record { app = 0; parameters = 0; slots = 0; effect = 0; body = 0; types = replicate 16 0 }

abbrev pub function : Code → ℕ → Function
function c g = slice_index_or c.functions g no_function

-- a function's last node
abbrev pub body : Code → ℕ → ℕ
body c g = (function c g).body

-- a function's nodes run from after the previous function's body to its own
abbrev pub start : Code → ℕ → ℕ
start c g = cond (g == 0) 0 (body c (g - 1) + 1)

-- the function that a node belongs to: the first that does not end before it
unfoldable pub owner : Code → ℕ → ℕ
owner c i = unwrap_or (lowest (length c.functions) (λ g. nat_le i (body c g))) 0

-- of which sort a node is
abbrev pub sort : Node → Sort
sort (Exp e) = OfExpression
sort (Com e) = OfCommand
sort (Argument b o) = OfArgument

abbrev pub same_sort : Sort → Sort → Bool
same_sort OfExpression OfExpression = true
same_sort OfCommand OfCommand = true
same_sort OfArgument OfArgument = true
same_sort s t = false

abbrev pub is_a : Sort → Node → Bool
is_a s n = same_sort (sort n) s

-- the expression or the command that a number names, where a node of that sort is due
abbrev pub as_expression : Node → Expression
as_expression (Exp e) = e
as_expression (Com e) = Constant 0
as_expression (Argument b o) = Constant 0

abbrev pub as_command : Node → Command
as_command (Exp e) = Nothing
as_command (Com e) = e
as_command (Argument b o) = Nothing

abbrev pub expression : Code → ℕ → Expression
expression c i = as_expression (node c i)

abbrev pub command : Code → ℕ → Command
command c i = as_command (node c i)

-- What the nodes of a program name: the tree, and how often each node is named in it.
use Rattle.std.specs.Prelude.{ℕ, zero, suc, ◌+◌, cond, Some, None, Option, ◌==◌}
use Rattle.layout.specs.declared.node.Expression.{Expression}
use Rattle.layout.specs.declared.node.Expression.TheVariants.{Constant, Slot, Figure, Operation}
use Rattle.layout.specs.declared.node.Command.{Command}
use Rattle.layout.specs.declared.node.Command.TheVariants.{Nothing, SetSlot, SetFigure, If, While, Then, Let, Call, Test}
use Rattle.layout.specs.declared.node.Node.{Node}
use Rattle.layout.specs.declared.node.Node.TheVariants.{Expression as Exp, Command as Com, Argument}
use Rattle.layout.specs.declared.parts.Part.{Part}
use Rattle.layout.specs.declared.parts.Sort.{Sort}
use Rattle.layout.specs.declared.parts.Sort.TheVariants.{Expression as OfExpression, Command as OfCommand, Argument as OfArgument}
use Rattle.layout.specs.Code.{Code, node}

abbrev pub a_part : Sort → ℕ → Option Part
a_part s b = Some (record { sort = s; node = b })

abbrev pub next_part : Option ℕ → Option Part
next_part None = None
next_part (Some b) = a_part OfArgument b

-- the nodes that a node names, each with the sort that it has to be of
abbrev pub expression_parts : Expression → Option Part × Option Part × Option Part
expression_parts (Constant v) = (None, None, None)
expression_parts (Slot a) = (None, None, None)
expression_parts (Figure a) = (None, None, None)
expression_parts (Operation o b c) = (a_part OfExpression b, a_part OfExpression c, None)

abbrev pub command_parts : Command → Option Part × Option Part × Option Part
command_parts Nothing = (None, None, None)
command_parts (SetSlot a b) = (a_part OfExpression b, None, None)
command_parts (SetFigure a b) = (a_part OfExpression b, None, None)
command_parts (If b c d) = (a_part OfExpression b, a_part OfCommand c, a_part OfCommand d)
command_parts (While b c) = (a_part OfExpression b, a_part OfCommand c, None)
command_parts (Then b c) = (a_part OfCommand b, a_part OfCommand c, None)
command_parts (Let a b c) = (a_part OfExpression b, a_part OfCommand c, None)
command_parts (Call a g o) = (next_part o, None, None)
command_parts (Test a b c) = (a_part OfCommand b, a_part OfCommand c, None)

abbrev pub parts : Node → Option Part × Option Part × Option Part
parts (Exp e) = expression_parts e
parts (Com e) = command_parts e
parts (Argument b o) = (a_part OfExpression b, next_part o, None)

-- the slot that a node reads, sets, fills or makes usable
abbrev pub expression_slot : Expression → Option ℕ
expression_slot (Constant v) = None
expression_slot (Slot a) = Some a
expression_slot (Figure a) = None
expression_slot (Operation o b c) = None

abbrev pub command_slot : Command → Option ℕ
command_slot Nothing = None
command_slot (SetSlot a b) = Some a
command_slot (SetFigure a b) = None
command_slot (If b c d) = None
command_slot (While b c) = None
command_slot (Then b c) = None
command_slot (Let a b c) = Some a
command_slot (Call a g o) = Some a
command_slot (Test a b c) = None

abbrev pub slot_of : Node → Option ℕ
slot_of (Exp e) = expression_slot e
slot_of (Com e) = command_slot e
slot_of (Argument b o) = None

-- the node that a part is
abbrev pub target : Option Part → Option ℕ
target None = None
target (Some p) = Some p.node

abbrev pub hit : Option ℕ → ℕ → ℕ
hit None j = 0
hit (Some b) j = cond (b == j) 1 0

-- how often a node with these parts names node j
abbrev pub times : Option Part × Option Part × Option Part → ℕ → ℕ
times p j = hit (target p.0) j + hit (target p.1) j + hit (target p.2) j

-- how often the nodes below i name node j: the sum over them
unfoldable pub namings : Code → ℕ → ℕ → ℕ
namings c zero j = 0
namings c (suc i) j = namings c i j + times (parts (node c i)) j

-- the argument after an argument
abbrev pub following : Node → Option (Option ℕ)
following (Exp e) = None
following (Com e) = None
following (Argument b o) = Some o

abbrev pub next_of : Code → Option ℕ → Option (Option ℕ)
next_of c None = None
next_of c (Some b) = following (node c b)

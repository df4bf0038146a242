-- Rule 10: a slot is used only where it is usable, and a let takes none that is usable already.
use Rattle.std.specs.Prelude.{ℕ, zero, suc, ◌/◌, ◌%◌, ◌^◌, Bool, true, cond, not, ◌&&◌, ◌||◌, length, Some, None, Option, ◌==◌, bit_or, nat_le, nat_lt}
use Rattle.layout.specs.declared.node.Expression.{Expression}
use Rattle.layout.specs.declared.node.Expression.TheVariants.{Constant, Slot, Figure, Operation}
use Rattle.layout.specs.declared.node.Command.{Command}
use Rattle.layout.specs.declared.node.Command.TheVariants.{Nothing, SetSlot, SetFigure, If, While, Then, Let, Call, Test}
use Rattle.layout.specs.declared.node.Node.{Node}
use Rattle.layout.specs.declared.node.Node.TheVariants.{Expression as Exp, Command as Com, Argument}
use Rattle.layout.specs.Code.{Code, node, function, owner}
use Rattle.layout.specs.Tree.{parts, times}

-- the highest node below i that names node j; rule 9 has seen to it that no other does
unfoldable pub parent : Code → ℕ → ℕ → Option ℕ
parent c zero j = None
parent c (suc i) j = cond (nat_lt 0 (times (parts (node c i)) j)) (Some i) (parent c i j)

-- sets of slots, each a number whose bit a stands for slot a
abbrev pub adding : ℕ → ℕ → ℕ
adding a s = cond (nat_lt a 16) (bit_or s (2 ^ a)) s

abbrev pub holds : ℕ → ℕ → Bool
holds s a = nat_lt a 16 && (s / 2 ^ a) % 2 == 1

-- what is usable in the part j of a command where s is usable: a let adds its slot for its part c
abbrev pub within_command : Command → ℕ → ℕ → ℕ
within_command Nothing j s = s
within_command (SetSlot a b) j s = s
within_command (SetFigure a b) j s = s
within_command (If b c d) j s = s
within_command (While b c) j s = s
within_command (Then b c) j s = s
within_command (Let a b c) j s = cond (c == j) (adding a s) s
within_command (Call a g o) j s = s
within_command (Test a b c) j s = s

abbrev pub within : Node → ℕ → ℕ → ℕ
within (Exp e) j s = s
within (Com e) j s = within_command e j s
within (Argument b o) j s = s

abbrev pub below_parent : Option ℕ → (ℕ → ℕ) → ℕ
below_parent None f = 0
below_parent (Some p) f = f p

-- the locals usable at node j, as seen from k nodes up
unfoldable pub scope : Code → ℕ → ℕ → ℕ
scope c zero j = 0
scope c (suc k) j = below_parent (parent c (length c.nodes) j) (λ p. within (node c p) j (scope c k p))

-- parameters and the result are usable everywhere, a local where a let has opened it
abbrev pub usable : Code → ℕ → ℕ → Bool
usable c j a = nat_le a (function c (owner c j)).parameters || holds (scope c (length c.nodes) j) a

abbrev pub expression_scoped : Code → ℕ → Expression → Bool
expression_scoped c i (Constant v) = true
expression_scoped c i (Slot a) = usable c i a
expression_scoped c i (Figure a) = true
expression_scoped c i (Operation o b d) = true

abbrev pub command_scoped : Code → ℕ → Command → Bool
command_scoped c i Nothing = true
command_scoped c i (SetSlot a b) = usable c i a
command_scoped c i (SetFigure a b) = true
command_scoped c i (If b x d) = true
command_scoped c i (While b x) = true
command_scoped c i (Then b x) = true
command_scoped c i (Let a b x) = not (usable c i a)
command_scoped c i (Call a g o) = usable c i a
command_scoped c i (Test a b x) = true

abbrev pub scoped : Code → ℕ → Node → Bool
scoped c i (Exp e) = expression_scoped c i e
scoped c i (Com e) = command_scoped c i e
scoped c i (Argument b o) = true

-- node i is there, and uses a slot that is not usable, or lets one that is
abbrev pub scope_broken : Code → ℕ → Bool
scope_broken c i = nat_lt i (length c.nodes) && not (scoped c i (node c i))

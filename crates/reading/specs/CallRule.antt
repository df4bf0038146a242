-- Rule 8: a call names a function lower than its own, and has as many arguments as that has parameters.
use Rattle.std.specs.Prelude.{ℕ, zero, suc, Bool, true, false, not, ◌&&◌, is_some, Some, None, Option, nat_lt}
use Rattle.layout.specs.declared.node.Command.{Command}
use Rattle.layout.specs.declared.node.Command.TheVariants.{Nothing, SetSlot, SetFigure, If, While, Then, Let, Call, Test}
use Rattle.layout.specs.declared.node.Node.{Node}
use Rattle.layout.specs.declared.node.Node.TheVariants.{Expression as Exp, Command as Com, Argument}
use Rattle.layout.specs.Code.{Code, node, function, owner}
use Rattle.layout.specs.Tree.{next_of}

abbrev pub goes_on : Option (Option ℕ) → (Option ℕ → Bool) → Bool
goes_on None f = false
goes_on (Some n) f = f n

-- the chain that begins there has exactly so many arguments
unfoldable pub chained : Code → ℕ → Option ℕ → Bool
chained c zero o = not (is_some o)
chained c (suc k) o = goes_on (next_of c o) (λ n. chained c k n)

abbrev pub call_fits : Code → ℕ → Command → Bool
call_fits c i Nothing = true
call_fits c i (SetSlot a b) = true
call_fits c i (SetFigure a b) = true
call_fits c i (If b x d) = true
call_fits c i (While b x) = true
call_fits c i (Then b x) = true
call_fits c i (Let a b x) = true
call_fits c i (Call a g o) = nat_lt g (owner c i) && chained c (function c g).parameters o
call_fits c i (Test a b x) = true

abbrev pub calls_well : Code → ℕ → Node → Bool
calls_well c i (Exp e) = true
calls_well c i (Com e) = call_fits c i e
calls_well c i (Argument b o) = true

abbrev pub call_broken : Code → ℕ → Bool
call_broken c i = not (calls_well c i (node c i))

use Rattle.std.proofs.Common.{ℕ, List, Result}
use Rattle.scripts.specs.Pieces.{pieces_left}
use Rattle.scripts.specs.Scenes.{scene}
use Rattle.scripts.specs.Scripts.{Performs, lines_of}
use Rattle.scripts.specs.declared.fault.LineFault.{LineFault}
use Rattle.scripts.proofs.script.obey_all.Given as goal

-- whatever the lines that are left leave, the script leaves
abbrev pub invariant-loop-text : goal.invariant-loop-text
invariant-loop-text l =
    (r : Result (Unit {0}) LineFault) (text : List ℕ) → Performs (pieces_left l.text-iterator) (scene l.session) l.line r text
    → Performs (lines_of l.script) (scene l.initial.session) 0 r text

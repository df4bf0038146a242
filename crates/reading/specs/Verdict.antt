-- The verdict on three byte lists: the first broken rule at its lowest place, or the program that they are.
use Rattle.std.specs.Prelude.{ℕ, cond, List, length, Some, None, Ok, Err, Option, Result}
use Rattle.std.specs.Option.{option_map}
use Rattle.levels.specs.Scan.{lowest, or_else}
use Rattle.levels.specs.Refusals.{broken}
use Rattle.levels.specs.declared.refusal.Refusal.{Refusal}
use Rattle.levels.specs.declared.refusal.Place.TheVariants.{Whole, Node, Function}
use Rattle.layout.specs.Code.{Code}
use Rattle.layout.specs.Decoding.{decoded}
use Rattle.reading.specs.SizeRule.{sizes_fit}
use Rattle.reading.specs.RecordRule.{record_broken}
use Rattle.reading.specs.CodeRule.{code_broken}
use Rattle.reading.specs.NamingRule.{naming_broken}
use Rattle.reading.specs.CallRule.{call_broken}
use Rattle.reading.specs.OnceRule.{once_broken}
use Rattle.reading.specs.ScopeRule.{scope_broken}

abbrev pub at_function : ℕ → Option ℕ → Option Refusal
at_function number place = option_map (λ g. broken number (Function g)) place

abbrev pub at_node : ℕ → Option ℕ → Option Refusal
at_node number place = option_map (λ i. broken number (Node i)) place

-- what each rule refuses of a program: its lowest place that breaks it
abbrev pub rule5 : List ℕ → Code → Option Refusal
rule5 gs c = at_function 5 (lowest (length c.functions) (record_broken gs c))

abbrev pub rule6 : List ℕ → Code → Option Refusal
rule6 ns c = at_node 6 (lowest (length c.nodes) (code_broken ns c))

abbrev pub rule7 : Code → Option Refusal
rule7 c = at_node 7 (lowest (length c.nodes) (naming_broken c))

abbrev pub rule8 : Code → Option Refusal
rule8 c = at_node 8 (lowest (length c.nodes) (call_broken c))

abbrev pub rule9 : Code → Option Refusal
rule9 c = at_node 9 (lowest (length c.nodes) (once_broken c))

abbrev pub rule10 : Code → Option Refusal
rule10 c = at_node 10 (lowest (length c.nodes) (scope_broken c))

-- rules 6 to 10, each over the whole program before the next
unfoldable pub judged_nodes : List ℕ → Code → Option Refusal
judged_nodes ns c = or_else (rule6 ns c) (or_else (rule7 c) (or_else (rule8 c) (or_else (rule9 c) (rule10 c))))

-- rule 5 before them
unfoldable pub judged : List ℕ → List ℕ → Code → Option Refusal
judged ns gs c = or_else (rule5 gs c) (judged_nodes ns c)

-- rule 4 alone
abbrev pub sizes_refused : List ℕ → List ℕ → List ℕ → Option Refusal
sizes_refused ns gs ps = cond (sizes_fit (length ns) (length gs) (length ps)) None (Some (broken 4 Whole))

-- rule 4 before all
abbrev pub refused : List ℕ → List ℕ → List ℕ → Option Refusal
refused ns gs ps =
    cond (sizes_fit (length ns) (length gs) (length ps)) (judged ns gs (decoded ns gs ps)) (Some (broken 4 Whole))

abbrev pub unless : Option Refusal → Code → Result Code Refusal
unless None c = Ok c
unless (Some r) c = Err r

abbrev pub verdict : List ℕ → List ℕ → List ℕ → Result Code Refusal
verdict ns gs ps = unless (refused ns gs ps) (decoded ns gs ps)

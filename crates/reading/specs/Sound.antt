-- What reading has seen of a program, for all who use one.
use Rattle.std.specs.Prelude.{◌≡◌, ℕ, ◌<◌, ◌≤◌, Bool, false, not, length}
use Rattle.layout.specs.Code.{Code, function}
use Rattle.layout.specs.Decoding.{slots_fit}
use Rattle.reading.specs.RecordRule.{placed}
use Rattle.reading.specs.CodeRule.{slot_broken}
use Rattle.reading.specs.NamingRule.{naming_broken}
use Rattle.reading.specs.CallRule.{call_broken}
use Rattle.reading.specs.OnceRule.{once_broken}
use Rattle.reading.specs.ScopeRule.{scope_broken}

-- 1 to 4,096 nodes, 1 to 64 functions, 1 to 16 apps
abbrev pub FewNodes : Code → Type 0
FewNodes c = (1 ≤ length c.nodes) × (length c.nodes ≤ 4096)

abbrev pub FewFunctions : Code → Type 0
FewFunctions c = (1 ≤ length c.functions) × (length c.functions ≤ 64)

abbrev pub FewApps : Code → Type 0
FewApps c = (1 ≤ length c.apps) × (length c.apps ≤ 16)

-- a rule is broken at no place below n
abbrev pub Never : ℕ → (ℕ → Bool) → Type 0
Never n f = (i : ℕ) → i < n → f i ≡ false

-- at most 8 parameters, more slots than parameters and at most 16, no type for a slot that is not there
abbrev pub SlotsFit : Code → Type 0
SlotsFit c = Never (length c.functions) (λ g. not (slots_fit (function c g)))

-- a type for each of 16 slots
abbrev pub TypesWhole : Code → Type 0
TypesWhole c = (g : ℕ) → g < length c.functions → length (function c g).types ≡ 16

-- the app is there, bodies rise, the last body is the last node
abbrev pub Placed : Code → Type 0
Placed c = Never (length c.functions) (λ g. not (placed c g))

-- a node's slot is one of its function's
abbrev pub SlotsThere : Code → Type 0
SlotsThere c = Never (length c.nodes) (slot_broken c)

-- what a node names is lower, of its own function and of the right sort; a body is a command
abbrev pub NamesFit : Code → Type 0
NamesFit c = Never (length c.nodes) (naming_broken c)

-- a call names a lower function and has as many arguments as that has parameters
abbrev pub CallsFit : Code → Type 0
CallsFit c = Never (length c.nodes) (call_broken c)

-- every node but a body is named exactly once
abbrev pub NamedOnce : Code → Type 0
NamedOnce c = Never (length c.nodes) (once_broken c)

-- a slot is used only where it is usable, and no let takes a usable one
abbrev pub InScope : Code → Type 0
InScope c = Never (length c.nodes) (scope_broken c)

-- all of it
pub record Sound (c : Code) : Type 0 where
  pub few_nodes : FewNodes c
  pub few_functions : FewFunctions c
  pub few_apps : FewApps c
  pub slots_fit : SlotsFit c
  pub types_whole : TypesWhole c
  pub placed : Placed c
  pub slots_there : SlotsThere c
  pub names_fit : NamesFit c
  pub calls_fit : CallsFit c
  pub named_once : NamedOnce c
  pub in_scope : InScope c

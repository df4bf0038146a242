-- Rule 7: what a node names is lower, of its own function and of the right sort, and a body is a command.
use Rattle.std.specs.Prelude.{ℕ, Bool, true, not, ◌&&◌, ◌||◌, Some, None, Option, ◌==◌, nat_le, nat_lt}
use Rattle.layout.specs.declared.parts.Part.{Part}
use Rattle.layout.specs.declared.parts.Sort.TheVariants.{Command as OfCommand}
use Rattle.layout.specs.Code.{Code, node, is_a, body, start, owner}
use Rattle.layout.specs.Tree.{parts}

-- node b lies below node i of a function that begins at low
abbrev pub lies : ℕ → ℕ → ℕ → Bool
lies low i b = nat_le low b && nat_lt b i

abbrev pub part_fits : Code → ℕ → ℕ → Option Part → Bool
part_fits c low i None = true
part_fits c low i (Some p) = lies low i p.node && is_a p.sort (node c p.node)

abbrev pub all_fit : Code → ℕ → ℕ → Option Part × Option Part × Option Part → Bool
all_fit c low i p = part_fits c low i p.0 && (part_fits c low i p.1 && part_fits c low i p.2)

-- node i is its function's body
abbrev pub is_body : Code → ℕ → Bool
is_body c i = i == body c (owner c i)

abbrev pub ends_well : Code → ℕ → Bool
ends_well c i = not (is_body c i) || is_a OfCommand (node c i)

abbrev pub naming_broken : Code → ℕ → Bool
naming_broken c i = not (ends_well c i && all_fit c (start c (owner c i)) i (parts (node c i)))

-- Rule 6: a node has a known code and zeros for operands that it has not, and its slot is one of its function's.
use Rattle.std.specs.Prelude.{ℕ, Bool, false, not, ◌||◌, List, is_some, Some, None, Option, nat_le}
use Rattle.layout.specs.Code.{Code, node, function, owner}
use Rattle.layout.specs.Tree.{slot_of}
use Rattle.layout.specs.Decoding.{node_at}

-- a slot that a function of m slots has not
abbrev pub past : ℕ → Option ℕ → Bool
past m None = false
past m (Some a) = nat_le m a

abbrev pub slot_broken : Code → ℕ → Bool
slot_broken c i = past (function c (owner c i)).slots (slot_of (node c i))

abbrev pub code_broken : List ℕ → Code → ℕ → Bool
code_broken ns c i = not (is_some (node_at ns i)) || slot_broken c i

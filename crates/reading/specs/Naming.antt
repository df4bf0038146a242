-- To be named exactly once, in words: one node names it, once, and no other does.
use Rattle.std.specs.Prelude.{◌≡◌, ℕ, ◌<◌, length}
use Rattle.layout.specs.Code.{Code, node}
use Rattle.layout.specs.Tree.{parts, times, namings}

pub record OnceBy (c : Code) (j i : ℕ) : Type 0 where
  pub there : i < length c.nodes
  pub once : times (parts (node c i)) j ≡ 1
  pub alone : (k : ℕ) → k < length c.nodes → 0 < times (parts (node c k)) j → k ≡ i

-- The count by which nodes are judged is 1 exactly then.
abbrev pub NamingsStand : Type 0
NamingsStand =
    (c : Code) (j : ℕ)
    → (namings c (length c.nodes) j ≡ 1 → (i : ℕ) × OnceBy c j i)
    × ((i : ℕ) → OnceBy c j i → namings c (length c.nodes) j ≡ 1)

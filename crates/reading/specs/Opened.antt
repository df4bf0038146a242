-- Where a local is usable, in words: inside part c of a let of that slot.
use Rattle.std.specs.Prelude.{◌≡◌, ℕ, ◌<◌, true, length}
use Rattle.layout.specs.declared.node.Command.TheVariants.{Let}
use Rattle.layout.specs.declared.node.Node.TheVariants.{Command as Com}
use Rattle.layout.specs.Code.{Code, node}
use Rattle.layout.specs.Tree.{parts, times}
use Rattle.reading.specs.ScopeRule.{holds, scope}
use Rattle.reading.specs.Sound.{FewFunctions, Placed, NamesFit, NamedOnce}

-- node j is part c of a let of slot a, or is named by a node that lies inside one
pub data Opened (c : Code) (a : ℕ) : ℕ → Type 0 where
  here : {l b j : ℕ} → l < length c.nodes → node c l ≡ Com (Let a b j) → Opened c a j
  under : {p j : ℕ} → p < length c.nodes → 0 < times (parts (node c p)) j → Opened c a p → Opened c a j

-- In a program the scope of a node by which slots are judged has just the slots that lets have opened there.
abbrev pub ScopesStand : Type 0
ScopesStand =
    (c : Code) → FewFunctions c → Placed c → NamesFit c → NamedOnce c → (j a : ℕ) → a < 16
    → (holds (scope c (length c.nodes) j) a ≡ true → Opened c a j)
    × (Opened c a j → holds (scope c (length c.nodes) j) a ≡ true)

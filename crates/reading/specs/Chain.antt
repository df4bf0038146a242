-- A chain of arguments, in words: so many arguments, each naming the next, the last none.
use Rattle.std.specs.Prelude.{◌≡◌, ℕ, suc, true, Some, None, Option}
use Rattle.layout.specs.declared.node.Node.TheVariants.{Argument}
use Rattle.layout.specs.Code.{Code, node}
use Rattle.reading.specs.CallRule.{chained}

pub data Chain (c : Code) : ℕ → Option ℕ → Type 0 where
  over : Chain c 0 None
  more : {k b v : ℕ} {o : Option ℕ} → node c b ≡ Argument v o → Chain c k o → Chain c (suc k) (Some b)

-- The test by which calls are judged is this.
abbrev pub ChainsStand : Type 0
ChainsStand =
    (c : Code) (k : ℕ) (o : Option ℕ) → (chained c k o ≡ true → Chain c k o) × (Chain c k o → chained c k o ≡ true)

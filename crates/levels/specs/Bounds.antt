-- What a table of bounds holds. Assumes nothing.
use Rattle.std.specs.Prelude.{◌≡◌, ℕ, ◌<◌, Bool, List, [], length, slice_index, slice_index_or}
use Rattle.std.specs.Option.{unwrap_or}
use Rattle.levels.specs.Marks.{bound}

-- the row of a holds the bound of a with each level
abbrev pub HoldsRow : Bool → List ℕ → ℕ → List ℕ → Type 0
HoldsRow up rows a held = (b : ℕ) → b < length rows → slice_index held b ≡ unwrap_or (bound up rows a b) 0

-- each row does
abbrev pub HoldsBounds : Bool → List ℕ → List (List ℕ) → Type 0
HoldsBounds up rows held =
    (a b : ℕ) → (a < length rows) × (b < length rows) → slice_index (slice_index_or held a []) b ≡ unwrap_or (bound up rows a b) 0

-- The writer's two laws: reading what was written gives the program back, and writing what was read gives the bytes back.
use Rattle.std.specs.Prelude.{◌≡◌, ℕ, ◌<◌, List, length, Ok, slice_index}
use Rattle.layout.specs.Code.{Code}
use Rattle.layout.specs.Encoding.{lists, encoded}
use Rattle.reading.specs.Sound.{Sound}
use Rattle.reading.specs.Verdict.{verdict}

abbrev pub ReadsBack : Code → Type 0
ReadsBack c = verdict (encoded c).nodes (encoded c).functions (encoded c).apps ≡ Ok c

-- a list of bytes
abbrev pub Bytes : List ℕ → Type 0
Bytes xs = (k : ℕ) → k < length xs → slice_index xs k < 256

abbrev pub ReadingStands : Type 0
ReadingStands = (c : Code) → Sound c → ReadsBack c

abbrev pub WritingStands : Type 0
WritingStands =
    (ns gs ps : List ℕ) (c : Code) → Bytes ns → Bytes gs → verdict ns gs ps ≡ Ok c → encoded c ≡ lists ns gs ps

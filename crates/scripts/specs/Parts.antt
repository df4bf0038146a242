-- The numbers of a level: one to four, with slashes between. Assumes nothing.
use Rattle.std.specs.Prelude.{ℕ, List, length, take, Some, None, Option, nat_le}
use Rattle.levels.specs.Scan.{when}
use Rattle.scripts.specs.declared.parts.Parts.{Parts}
use Rattle.scripts.specs.Numbers.{each, number_of}
use Rattle.scripts.specs.Pieces.{pieces_of}

-- a list that is no longer than this
abbrev pub at_most : ℕ → Option (List ℕ) → Option (List ℕ)
at_most most None = None
at_most most (Some ns) = when (nat_le (length ns) most) ns

-- the numbers between the slashes of a word, where each piece is a NUMBER and there are at most four
abbrev pub parts_of : List ℕ → Option (List ℕ)
parts_of word = at_most 4 (each number_of (pieces_of 47 word))

-- the numbers that were read
abbrev pub numbers_in : Parts → List ℕ
numbers_in p = take p.count p.numbers

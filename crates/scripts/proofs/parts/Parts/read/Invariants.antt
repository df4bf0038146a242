use Rattle.std.proofs.Common.{◌≡◌, ℕ, ◌≤◌, length, List, ◌++◌, Option}
use Rattle.std.specs.Option.{option_map}
use Rattle.scripts.specs.Numbers.{each, number_of}
use Rattle.scripts.specs.Parts.{numbers_in}
use Rattle.scripts.specs.Pieces.{pieces_of, pieces_left}
use Rattle.scripts.proofs.parts.Parts.read.Given as goal

-- the numbers that were read, before those that are still to come
abbrev pub followed : List ℕ → Option (List ℕ) → Option (List ℕ)
followed numbers more = option_map (λ l. numbers ++ l) more

abbrev pub invariant-loop-piece : goal.invariant-loop-piece
invariant-loop-piece l = (length (numbers_in l.parts) ≤ 4) × (followed (numbers_in l.parts) (each number_of (pieces_left l.piece-iterator)) ≡ each number_of (pieces_of 47 l.word))

-- A text cut at each mark: a script into lines, a line into words, a level into numbers. Assumes nothing.
use Rattle.std.specs.Prelude.{◌≡◌, ℕ, Bool, not, List, [], Some, None, Option, ◌==◌, ◌≢◌}
use Rattle.std.specs.Option.{option_map}
use Rattle.std.specs.List.{AllByRecursion, slice_split, join_with_byte}
use Rattle.scripts.specs.declared.pieces.Pieces.{Pieces}

-- the pieces before, between and after the marks: one more than there are marks
abbrev pub pieces_of : ℕ → List ℕ → List (List ℕ)
pieces_of mark text = slice_split (λ x. x == mark) text

-- the law of the pieces: no piece has a mark in it, and with the marks between them they are the text
pub record Cuts (mark : ℕ) (ps : List (List ℕ)) (text : List ℕ) : Type 0 where
  pub whole : join_with_byte mark ps ≡ text
  pub clean : AllByRecursion (λ p. AllByRecursion (λ x. x ≢ mark) p) ps

-- a byte that is no mark
abbrev pub other : ℕ → ℕ → Bool
other mark x = not (x == mark)

-- the pieces of what follows a mark, where there is a mark
abbrev pub pieces_after : ℕ → Option (List ℕ) → List (List ℕ)
pieces_after mark None = []
pieces_after mark (Some text) = pieces_of mark text

-- the pieces that are still to come
abbrev pub pieces_left : Pieces → List (List ℕ)
pieces_left p = pieces_after p.mark (option_map (λ x. x.now) p.rest)

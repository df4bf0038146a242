-- The words of a line. Assumes nothing.
use Rattle.std.specs.Prelude.{ℕ, Bool, true, false, List, [], ◌∷◌, filter}
use Rattle.scripts.specs.Pieces.{pieces_of, other}
use Rattle.scripts.specs.declared.words.Words.{Words}

-- a text that is not empty
abbrev pub some_bytes : List ℕ → Bool
some_bytes [] = false
some_bytes (x ∷ xs) = true

-- the words of a text: its pieces between spaces that are not empty
abbrev pub words_of : List ℕ → List (List ℕ)
words_of text = filter some_bytes (pieces_of 32 text)

-- a text without its spaces
abbrev pub unspaced : List ℕ → List ℕ
unspaced text = filter (other 32) text

-- the words that are still to come
abbrev pub words_left : Words → List (List ℕ)
words_left w = words_of w.rest.now

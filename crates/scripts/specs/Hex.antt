-- HEX: the digits of a line's words pair up into bytes. Assumes nothing.
use Rattle.std.specs.Prelude.{◌≡◌, ℕ, ◌+◌, ◌*◌, ◌%◌, cond, List, [], ◌∷◌, ◌++◌, length, Some, None, Ok, Err, Option, Result, MatchResult, ◌==◌}
use Rattle.std.specs.List.{flat_map}
use Rattle.scripts.specs.declared.hex.HexFault.{HexFault}
use Rattle.scripts.specs.declared.hex.HexFault.TheVariants.{NoDigit, OddCount, Memory}
use Rattle.scripts.specs.declared.number.Base.TheVariants.{Sixteen}
use Rattle.scripts.specs.Numbers.{digits_of}
use Rattle.scripts.specs.Words.{words_of}

-- each two digits a byte, the high half first
abbrev pub in_pairs : List ℕ → List ℕ
in_pairs [] = []
in_pairs (a ∷ []) = []
in_pairs (a ∷ b ∷ ds) = (16 * a + b) ∷ in_pairs ds

-- the bytes of the digits, or why there are none
abbrev pub bytes_of : Option (List ℕ) → Result (List ℕ) HexFault
bytes_of None = Err NoDigit
bytes_of (Some ds) = cond (length ds % 2 == 0) (Ok (in_pairs ds)) (Err OddCount)

-- the bytes that the words of a text write, the spaces left out
abbrev pub hex_of : List ℕ → Result (List ℕ) HexFault
hex_of text = bytes_of (digits_of Sixteen (flat_map (λ word. word) (words_of text)))

-- the bytes were added to the end of a list; with a fault, or for want of memory, none was
abbrev pub Appended : Result (List ℕ) HexFault → Result (Unit {0}) HexFault → List ℕ → List ℕ → Type 0
Appended (Ok bytes) r old new = MatchResult r (λ _. new ≡ old ++ bytes) (λ e. (e ≡ Memory) × (new ≡ old))
Appended (Err fault) r old new = (r ≡ Err fault) × (new ≡ old)

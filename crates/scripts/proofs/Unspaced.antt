-- A line without its spaces: it is the bytes of its words, and what decides how many digits it has. Assumes nothing.
use Rattle.std.proofs.Common.{◌≡◌, ℕ, Bool, suc, true, false, cond, not, eqb, ◌&&◌, ◌||◌, List, [], ◌∷◌, ◌++◌, length, is_some, Some, None, Option, filter, refl, ap, ◌∙◌}
use Rattle.std.specs.List.{flat_map, list_all, onto_first}
use Rattle.std.specs.Option.{option_map}
use Rattle.scripts.specs.declared.number.Base.TheVariants.{Sixteen}
use Rattle.scripts.specs.Numbers.{before, each, digit_of, digits_of}
use Rattle.scripts.specs.Pieces.{pieces_of}
use Rattle.scripts.specs.Hex.{bytes_of, hex_of}
use Rattle.scripts.specs.Words.{some_bytes, words_of, unspaced}

-- the words of a text one after the other are the text without its spaces
joined_pieces : (text : List ℕ) → flat_map (λ w. w) (pieces_of 32 text) ≡ unspaced text
joined_pieces [] = refl
joined_pieces (x ∷ xs) = elim (eqb x 32)
    as (λ b. flat_map (λ w. w) (cond b ([] ∷ pieces_of 32 xs) (onto_first x (pieces_of 32 xs))) ≡ cond (not b) (x ∷ unspaced xs) (unspaced xs))
    [ true ↦ joined_pieces xs | false ↦ front (pieces_of 32 xs) ∙ ap (λ l. x ∷ l) (joined_pieces xs) ]
  where
    front : (ps : List (List ℕ)) → flat_map (λ w. w) (onto_first x ps) ≡ x ∷ flat_map (λ w. w) ps
    front [] = refl
    front (p ∷ ps) = refl

joined_some : (ps : List (List ℕ)) → flat_map (λ w. w) (filter some_bytes ps) ≡ flat_map (λ w. w) ps
joined_some [] = refl
joined_some ([] ∷ ps) = joined_some ps
joined_some ((x ∷ xs) ∷ ps) = ap (λ l. (x ∷ xs) ++ l) (joined_some ps)

joined_words : (text : List ℕ) → flat_map (λ w. w) (words_of text) ≡ unspaced text
joined_words text = joined_some (pieces_of 32 text) ∙ joined_pieces text

-- so HEX reads the digits of the line without its spaces
pub hex_is : (text : List ℕ) → hex_of text ≡ bytes_of (digits_of Sixteen (unspaced text))
hex_is text = ap (λ l. bytes_of (digits_of Sixteen l)) (joined_words text)

-- a byte of HEX
abbrev pub is_hex : ℕ → Bool
is_hex b = eqb b 32 || is_some (digit_of Sixteen b)

-- the count of the digits, where all but the spaces are digits
pub counted : (text : List ℕ) → option_map length (digits_of Sixteen (unspaced text)) ≡ cond (list_all is_hex text) (Some (length (unspaced text))) None
counted [] = refl
counted (x ∷ xs) = elim (eqb x 32)
    as (λ b. option_map length (each (digit_of Sixteen) (cond (not b) (x ∷ unspaced xs) (unspaced xs)))
    ≡ cond ((b || is_some (digit_of Sixteen x)) && list_all is_hex xs) (Some (length (cond (not b) (x ∷ unspaced xs) (unspaced xs)))) None)
    [ true ↦ counted xs | false ↦ more (counted xs) (digit_of Sixteen x) ]
  where
    longer : (d : ℕ) (ds : Option (List ℕ)) (b : Bool) → option_map length ds ≡ cond b (Some (length (unspaced xs))) None
        → option_map length (option_map (λ l. d ∷ l) ds) ≡ cond b (Some (length (x ∷ unspaced xs))) None
    longer d None true e = cc
    longer d None false e = refl
    longer d (Some l) true e = let same : length l ≡ length (unspaced xs) = cc in ap (λ n. Some (suc n)) same
    longer d (Some l) false e = cc

    more : option_map length (digits_of Sixteen (unspaced xs)) ≡ cond (list_all is_hex xs) (Some (length (unspaced xs))) None → (o : Option ℕ)
        → option_map length (before o (digits_of Sixteen (unspaced xs))) ≡ cond (is_some o && list_all is_hex xs) (Some (length (x ∷ unspaced xs))) None
    more e None = refl
    more e (Some d) = longer d (digits_of Sixteen (unspaced xs)) (list_all is_hex xs) e

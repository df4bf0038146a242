-- LATTICE: the words of a lattice, and what the making of it answers. Assumes nothing.
use Rattle.std.specs.Prelude.{◌≡◌, ℕ, if◌then◌else◌, ◌⊎◌, List, [], ◌∷◌, Some, None, Ok, Err, codes, Option, Result, MatchResult, nat_le}
use Rattle.std.specs.Option.{option_map}
use Rattle.std.specs.Str.{bytes_eq}
use Rattle.levels.specs.Refusals.{answer}
use Rattle.levels.specs.Tables.{rows_of, table_verdict}
use Rattle.levels.specs.declared.either.Either.{Either}
use Rattle.levels.specs.declared.either.Either.TheVariants.{Left, Right}
use Rattle.levels.specs.declared.pair.Pair.{Pair}
use Rattle.levels.specs.declared.refusal.Refusal.{Refusal}
use Rattle.levels.specs.declared.table.OrderTable.{OrderTable}
use Rattle.levels.specs.declared.table.TableFault.{TableFault}
use Rattle.levels.specs.declared.tags.Tags.{Tags}
use Rattle.scripts.specs.Numbers.{number_of}
use Rattle.scripts.specs.Spelled.{after, alone}
use Rattle.scripts.specs.declared.fault.ScriptFault.{ScriptFault}
use Rattle.scripts.specs.declared.fault.ScriptFault.TheVariants.{NoLattice, Memory}

abbrev pub Word : Type 0
Word = List ℕ

-- A lattice by what it was made of: tags by their mask, a table by its rows, a pair by its two sides.
abbrev pub LeafText : Type 0
LeafText = Either ℕ (List ℕ)

-- a side of a pair: a lattice that is no pair, or a pair of two
abbrev pub SideText : Type 0
SideText = Either LeafText (LeafText × LeafText)

abbrev pub ShapeText : Type 0
ShapeText = Either LeafText (SideText × SideText)

abbrev pub Leaf : Type 0
Leaf = Either Tags OrderTable

abbrev pub Side : Type 0
Side = Either Leaf (Pair Leaf Leaf)

abbrev pub Shape : Type 0
Shape = Either Leaf (Pair Side Side)

abbrev pub leaf_text : Leaf → LeafText
leaf_text (Left tags) = Left tags.mask
leaf_text (Right table) = Right (rows_of table)

-- a lattice that is none or a pair, by the texts of its sides
abbrev pub pair_or_one : {S T X Y : Type 0} → (S → X) → (T → Y) → Either S (Pair T T) → Either X (Y × Y)
pair_or_one one side (Left s) = Left (one s)
pair_or_one one side (Right p) = Right (side p.left, side p.right)

abbrev pub side_text : Side → SideText
side_text side = pair_or_one leaf_text leaf_text side

abbrev pub shape_text : Shape → ShapeText
shape_text shape = pair_or_one leaf_text side_text shape

-- What words say: the answer of the making, and the words that are left. None where the words are at fault.
abbrev pub Said : Type 0 → Type 0
Said X = Option (Result X Refusal × List Word)

-- a row before more rows; a number over 65535 is at fault
abbrev pub row_before : ℕ → Option (List ℕ × List Word) → Option (List ℕ × List Word)
row_before n more = if nat_le n 65535 then option_map (λ found. (n ∷ found.0, found.1)) more else None

-- the rows end at a word that is no number
abbrev pub row_or_end : Option ℕ → List Word → Option (List ℕ × List Word) → Option (List ℕ × List Word)
row_or_end None words more = Some ([], words)
row_or_end (Some n) words more = row_before n more

-- the rows of a table, and the words that are left
abbrev pub rows_in : List Word → Option (List ℕ × List Word)
rows_in [] = Some ([], [])
rows_in (word ∷ words) = row_or_end (number_of word) (word ∷ words) (rows_in words)

-- tags and their mask
abbrev pub tags_in : List Word → Said LeafText
tags_in [] = None
tags_in (word ∷ words) = option_map (λ mask. (Ok (Left mask), words)) (number_of word)

-- rows, and whether they make a table
abbrev pub table_in : List Word → Said LeafText
table_in words = option_map (λ found. (answer Right (λ e. e) (table_verdict found.0), found.1)) (rows_in words)

-- a lattice that is no pair
abbrev pub leaf_in : List Word → Said LeafText
leaf_in [] = None
leaf_in (word ∷ words) =
    if bytes_eq word (codes "tags") then tags_in words else (if bytes_eq word (codes "rows") then table_in words else None)

-- the pair of two lattices that were made, or the first fault; and a lattice that is no pair
abbrev pub paired : {R S T : Type 0} → Result S TableFault → Result T TableFault → Result (Either R (Pair S T)) TableFault
paired (Err e) other = Err e
paired (Ok s) (Err e) = Err e
paired (Ok s) (Ok t) = Ok (Right (record { left = s; right = t }))

abbrev pub unpaired : {S T : Type 0} → Result S TableFault → Result (Either S T) TableFault
unpaired (Err e) = Err e
unpaired (Ok s) = Ok (Left s)

-- the first refusal of two makings
abbrev pub both_made : {X Y : Type 0} → Result X Refusal → Result Y Refusal → Result (X × Y) Refusal
both_made (Err e) other = Err e
both_made (Ok x) (Err e) = Err e
both_made (Ok x) (Ok y) = Ok (x, y)

-- two lattices, one after the other
abbrev pub two_in : {X : Type 0} → (List Word → Said X) → List Word → Said (X × X)
two_in side words = after (side words) (λ first. option_map (λ second. (both_made first.0 second.0, second.1)) (side first.1))

-- a pair of such sides, or a lattice that is no pair
abbrev pub pair_in : {X : Type 0} → (List Word → Said X) → List Word → Said (Either LeafText (X × X))
pair_in side [] = None
pair_in side (word ∷ words) =
    if bytes_eq word (codes "pair")
    then option_map (λ made. (answer Right (λ e. e) made.0, made.1)) (two_in side words)
    else option_map (λ made. (answer Left (λ e. e) made.0, made.1)) (leaf_in (word ∷ words))

abbrev pub side_in : List Word → Said SideText
side_in words = pair_in leaf_in words

-- a LATTICE, and the words that are left
abbrev pub shape_in : List Word → Said ShapeText
shape_in words = pair_in side_in words

-- a LATTICE with no word after it
abbrev pub lattice_of : List Word → Option (Result ShapeText Refusal)
lattice_of words = after (shape_in words) (λ made. alone made.0 made.1)

-- words at fault, or want of memory
abbrev pub Fails : {X : Type 0} → ScriptFault → Option X → Type 0
Fails e said = (e ≡ Memory) ⊎ ((e ≡ NoLattice) × (said ≡ None))

-- what was made of words is what they say
abbrev pub Makes : {T X : Type 0} → (T → X) → Result T ScriptFault → Option X → Type 0
Makes value r said = MatchResult r (λ x. Some (value x) ≡ said) (λ e. Fails e said)

-- so it is with the words that are left
abbrev pub Reads : {T X : Type 0} → (T → X) → Result T ScriptFault → Option (X × List Word) → List Word → Type 0
Reads value r said left = Makes (λ x. (value x, left)) r said

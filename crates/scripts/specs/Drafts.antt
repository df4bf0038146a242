-- The book that a script chooses and its levels. Assumes nothing.
use Rattle.std.specs.Prelude.{◌≡◌, ℕ, if◌then◌else◌, ◌⊎◌, List, [], ◌∷◌, ◌++◌, Some, None, Ok, Err, codes, Option, Result, MatchResult}
use Rattle.std.specs.Option.{option_map, ok_or}
use Rattle.std.specs.Str.{bytes_eq}
use Rattle.scripts.specs.Numbers.{each, number_of}
use Rattle.levels.specs.declared.either.Either.{Either}
use Rattle.levels.specs.declared.table.Rank.{Rank}
use Rattle.levels.specs.declared.tags.TagSet.{TagSet}
use Rattle.scripts.specs.Shapes.{Word, Leaf, Side, Shape}
use Rattle.scripts.specs.Spelled.{level_of, spelled_tags, spelled_rank, spelled_pair, spelled_either}
use Rattle.scripts.specs.declared.draft.BookKind.{BookKind}
use Rattle.scripts.specs.declared.draft.BookKind.TheVariants.{Row, Fixed}
use Rattle.scripts.specs.declared.draft.BookPlan.{BookPlan}
use Rattle.scripts.specs.declared.fault.ScriptFault.{ScriptFault}
use Rattle.scripts.specs.declared.fault.ScriptFault.TheVariants.{MissingWord, ExtraWord, NoNumber, NoLevel, NoBook, Memory}

-- what follows from an answer that is no fault
infixl 10 ◌>>=◌
abbrev pub ◌>>=◌ : {X Y : Type 0} → Result X ScriptFault → (X → Result Y ScriptFault) → Result Y ScriptFault
Err e >>= f = Err e
Ok x >>= f = f x

-- what the first word says, and the words that are left
abbrev pub first : {X : Type 0} → (Word → Result X ScriptFault) → List Word → Result (X × List Word) ScriptFault
first read [] = Err MissingWord
first read (word ∷ words) = do
  x ← read word
  Ok (x, words)

-- what was read of words is what they say first, with the words that are left
abbrev pub ReadsFirst : {T X : Type 0} → (T → X) → Result T ScriptFault → Result (X × List Word) ScriptFault → List Word → Type 0
ReadsFirst value r said left = MatchResult r (λ x. said ≡ Ok (value x, left)) (λ e. said ≡ Err e)

-- the number that the first word writes
abbrev pub number_first : List Word → Result (ℕ × List Word) ScriptFault
number_first words = first (λ word. ok_or (number_of word) NoNumber) words

-- no word is left
abbrev pub last : {X : Type 0} → X → List Word → Result X ScriptFault
last x [] = Ok x
last x (word ∷ words) = Err ExtraWord

-- which of the two books
abbrev pub kind_of : Word → Result BookKind ScriptFault
kind_of word = if bytes_eq word (codes "row") then Ok Row else (if bytes_eq word (codes "fixed") then Ok Fixed else Err NoBook)

abbrev pub kind_first : List Word → Result (BookKind × List Word) ScriptFault
kind_first words = first kind_of words

-- the book and its three numbers
abbrev pub plan_of : List Word → Result BookPlan ScriptFault
plan_of words = do
  kind ← kind_first words
  permissions ← number_first kind.1
  types ← number_first permissions.1
  figures ← number_first types.1
  last (record { kind = kind.0; numbers = record { permissions = permissions.0; types = types.0; figures = figures.0 } }) figures.1

-- the levels that words write
abbrev pub levels_of : {L : Type 0} → (List ℕ → Option (L × List ℕ)) → List Word → Option (List L)
levels_of spelled words = each (level_of spelled) words

-- they were added to the end of a list; else a word is no level, or memory was lacking
abbrev pub Adds : {U L : Type 0} → Result U ScriptFault → Option (List L) → List L → List L → Type 0
Adds r given old new = MatchResult r (λ _. Some new ≡ option_map (λ more. old ++ more) given) (λ e. (e ≡ Memory) ⊎ ((e ≡ NoLevel) × (given ≡ None)))

-- the level of any lattice of a script that numbers write
abbrev pub spelled_leaf : Leaf → List ℕ → Option (Either TagSet Rank × List ℕ)
spelled_leaf leaf = spelled_either (λ _. spelled_tags) (λ _. spelled_rank) leaf

abbrev pub spelled_side : Side → List ℕ → Option (Either (Either TagSet Rank) (Either TagSet Rank × Either TagSet Rank) × List ℕ)
spelled_side side = spelled_either spelled_leaf (λ p. spelled_pair (spelled_leaf p.left) (spelled_leaf p.right)) side

abbrev pub spelled_shape : Shape → List ℕ → Option (Either (Either TagSet Rank) (Either (Either TagSet Rank) (Either TagSet Rank × Either TagSet Rank) × Either (Either TagSet Rank) (Either TagSet Rank × Either TagSet Rank)) × List ℕ)
spelled_shape shape = spelled_either spelled_leaf (λ p. spelled_pair (spelled_side p.left) (spelled_side p.right)) shape

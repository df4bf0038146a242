-- How levels are written: by one number, or one for each side with slashes between. Assumes nothing.
use Rattle.std.specs.Prelude.{ℕ, List, [], ◌∷◌, ◌++◌, Some, None, codes, Option, nat_le}
use Rattle.std.specs.Borrow.{Bor}
use Rattle.std.specs.Option.{option_map}
use Rattle.levels.specs.Scan.{when}
use Rattle.levels.specs.Tables.{rank}
use Rattle.levels.specs.Tags.{set_of}
use Rattle.scripts.specs.Parts.{parts_of}
use Rattle.levels.specs.declared.either.Either.{Either}
use Rattle.levels.specs.declared.either.Either.TheVariants.{Left, Right}
use Rattle.levels.specs.declared.table.Rank.{Rank}
use Rattle.levels.specs.declared.tags.TagSet.{TagSet}

-- what follows from a value that is there
abbrev pub after : {X Y : Type 0} → Option X → (X → Option Y) → Option Y
after None f = None
after (Some x) f = f x

-- a level from the first number, and the numbers that are left
abbrev pub of_first : {X : Type 0} → (ℕ → Option X) → List ℕ → Option (X × List ℕ)
of_first f [] = None
of_first f (n ∷ ns) = option_map (λ x. (x, ns)) (f n)

-- a level of tags is any number
abbrev pub spelled_tags : List ℕ → Option (TagSet × List ℕ)
spelled_tags numbers = of_first (λ n. Some (set_of n)) numbers

-- a level of a table is a number of at most 255
abbrev pub spelled_rank : List ℕ → Option (Rank × List ℕ)
spelled_rank numbers = of_first (λ n. when (nat_le n 255) (rank n)) numbers

-- a second level after a first one
abbrev pub and_then : {X Y : Type 0} → Option (X × List ℕ) → (List ℕ → Option (Y × List ℕ)) → Option ((X × Y) × List ℕ)
and_then None right = None
and_then (Some found) right = option_map (λ other. ((found.0, other.0), other.1)) (right found.1)

-- a level of a pair is one of the left side and then one of the right
abbrev pub spelled_pair : {X Y : Type 0} → (List ℕ → Option (X × List ℕ)) → (List ℕ → Option (Y × List ℕ)) → List ℕ → Option ((X × Y) × List ℕ)
spelled_pair left right numbers = and_then (left numbers) right

-- what is true of the one that was chosen
abbrev pub by_choice : {S T X : Type 0} → (S → X) → (T → X) → Either S T → X
by_choice f g (Left s) = f s
by_choice f g (Right t) = g t

-- a level of the one of two lattices that was chosen
abbrev pub spelled_either : {S T X Y : Type 0} → (S → List ℕ → Option (X × List ℕ)) → (T → List ℕ → Option (Y × List ℕ)) → Either S T → List ℕ → Option (Either X Y × List ℕ)
spelled_either f g (Left s) numbers = option_map (λ found. (Left found.0, found.1)) (f s numbers)
spelled_either f g (Right t) numbers = option_map (λ found. (Right found.0, found.1)) (g t numbers)

-- the text of a level of a pair
abbrev pub pair_text : {X Y : Type 0} → (X → List ℕ) → (Y → List ℕ) → X × Y → List ℕ
pair_text left right level = left level.0 ++ (codes "/" ++ right level.1)

-- what was found, with the numbers that are left as a list
abbrev pub with_rest : {X : Type 0} → X × Bor (List ℕ) → X × List ℕ
with_rest found = (found.0, found.1.now)

-- a value after which nothing is left
abbrev pub alone : {X Y : Type 0} → X → List Y → Option X
alone x [] = Some x
alone x (y ∷ ys) = None

-- the level that all of the numbers write
abbrev pub whole : {X : Type 0} → (List ℕ → Option (X × List ℕ)) → List ℕ → Option X
whole spelled numbers = after (spelled numbers) (λ found. alone found.0 found.1)

-- the level that a word writes
abbrev pub level_of : {X : Type 0} → (List ℕ → Option (X × List ℕ)) → List ℕ → Option X
level_of spelled word = after (parts_of word) (whole spelled)

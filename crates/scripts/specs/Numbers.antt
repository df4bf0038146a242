-- The digits of a text and the number that a word writes. Assumes nothing.
use Rattle.std.specs.Prelude.{ℕ, ◌+◌, ◌-◌, Bool, cond, ◌&&◌, List, [], ◌∷◌, drop, Some, None, Option, ◌==◌, nat_lt, slice_index}
use Rattle.std.specs.Option.{option_map}
use Rattle.std.specs.Int.{is_in_range}
use Rattle.std.specs.Int.Digits.{number_from_digits}
use Rattle.levels.specs.Scan.{when}
use Rattle.scripts.specs.declared.number.Base.{Base}
use Rattle.scripts.specs.declared.number.Base.TheVariants.{Ten, Sixteen}

-- how many digits a base has
abbrev pub radix : Base → ℕ
radix Ten = 10
radix Sixteen = 16

-- the value of a digit: 0 to 9, a to f and A to F
abbrev pub digit_value : ℕ → Option ℕ
digit_value b =
    cond (is_in_range 48 57 b) (Some (b - 48))
    (cond (is_in_range 97 102 b) (Some (b - 97 + 10))
    (cond (is_in_range 65 70 b) (Some (b - 65 + 10)) None))

-- a number that is below this
abbrev pub below : ℕ → Option ℕ → Option ℕ
below most None = None
below most (Some n) = when (nat_lt n most) n

-- the value of a digit of a base
abbrev pub digit_of : Base → ℕ → Option ℕ
digit_of base b = below (radix base) (digit_value b)

-- one more at the front of a list
abbrev pub before : {Y : Type 0} → Option Y → Option (List Y) → Option (List Y)
before None ds = None
before (Some d) ds = option_map (λ l. d ∷ l) ds

-- what each of a list gives, where all give something
abbrev pub each : {X Y : Type 0} → (X → Option Y) → List X → Option (List Y)
each f [] = Some []
each f (x ∷ xs) = before (f x) (each f xs)

-- the values of the digits of a text, where each byte is a digit
abbrev pub digits_of : Base → List ℕ → Option (List ℕ)
digits_of base text = each (digit_of base) text

-- the number that the digits write, where it has 32 bits
abbrev pub written : Base → Option (List ℕ) → Option ℕ
written base ds = below 4294967296 (option_map (number_from_digits (radix base)) ds)

-- a text of digits, at least one
abbrev pub numeral_of : Base → List ℕ → Option ℕ
numeral_of base [] = None
numeral_of base (b ∷ bs) = written base (digits_of base (b ∷ bs))

-- the word begins with 0x
abbrev pub prefixed : List ℕ → Bool
prefixed word = slice_index word 0 == 48 && slice_index word 1 == 120

-- a NUMBER: decimal, or hexadecimal after 0x
abbrev pub number_of : List ℕ → Option ℕ
number_of word = cond (prefixed word) (numeral_of Sixteen (drop 2 word)) (numeral_of Ten word)

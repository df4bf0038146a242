-- What the books of rows and the fixed books say, each in its own words. Assumes nothing.
use Rattle.std.specs.Prelude.{◌≡◌, ℕ, ◌+◌, ◌*◌, ◌^◌, true, cond, ◌&&◌, List, length, None, Ok, nat_lt, refl}
use Rattle.std.specs.List.{slice_get}
use Rattle.std.proofs.Common.{arith}
use Rattle.std.proofs.lemmas.Bool.Decides.{nat_tests}
use Rattle.std.proofs.lemmas.Option.{slice_get_past}
use Rattle.books.specs.Lists.{row_book, fixed_book, row_fits, fixed_fits}
use Rattle.books.specs.Made.{row_verdict, fixed_verdict}
use Rattle.books.specs.declared.numbers.Numbers.{Numbers}

-- the level of type t at set s stands at place t·2^n + s
pub row_level : {L : Type 0} (n types : ℕ) (levels figures : List L) (t s : ℕ)
    → (row_book n types levels figures).level t s ≡ cond (nat_lt t types && nat_lt s (2 ^ n)) (slice_get levels (t * 2 ^ n + s)) None
row_level n types levels figures t s = refl

-- the level of type t, at every set, stands at place t
pub fixed_level : {L : Type 0} (n : ℕ) (levels figures : List L) (t s : ℕ)
    → (fixed_book n levels figures).level t s ≡ cond (nat_lt s (2 ^ n)) (slice_get levels t) None
fixed_level n levels figures t s = grind (arith, nat_tests, slice_get_past)

-- of lists that fit, the books are those of rows and the fixed ones
pub row_told : {L : Type 0} (numbers : Numbers) (levels figures : List L) → row_fits numbers (length levels) (length figures) ≡ true
    → row_verdict numbers levels figures ≡ Ok (row_book numbers.permissions numbers.types levels figures)
row_told numbers levels figures fit = grind arith

pub fixed_told : {L : Type 0} (numbers : Numbers) (levels figures : List L) → fixed_fits numbers (length levels) (length figures) ≡ true
    → fixed_verdict numbers levels figures ≡ Ok (fixed_book numbers.permissions levels figures)
fixed_told numbers levels figures fit = grind arith

-- Books that are given as lists. Assumes nothing.
use Rattle.std.specs.Prelude.{ℕ, ◌^◌, Bool, cond, ◌&&◌, List, length, None, ◌==◌, nat_le, nat_lt}
use Rattle.std.specs.List.{slice_get}
use Rattle.books.specs.Book.{Book}
use Rattle.books.specs.Places.{Places, rows, fixed}
use Rattle.books.specs.declared.numbers.Numbers.{Numbers}

-- the levels of the types stand at these places of the list
abbrev pub list_book : {L : Type 0} → Places → ℕ → ℕ → List L → List L → Book L
list_book places n types levels figures = record {
  permissions = n;
  types = types;
  figures = length figures;
  level = λ t s. cond (nat_lt t types && nat_lt s (2 ^ n)) (slice_get levels (places.place (2 ^ n) t s)) None;
  figure = λ i. slice_get figures i;
}

-- of rows
abbrev pub row_book : {L : Type 0} → ℕ → ℕ → List L → List L → Book L
row_book n types levels figures = list_book rows n types levels figures

-- of one level a type
abbrev pub fixed_book : {L : Type 0} → ℕ → List L → List L → Book L
fixed_book n levels figures = list_book fixed n (length levels) levels figures

-- at most 6 permissions, 1 to 256 types, at most 32 figures
abbrev pub within_limits : Numbers → Bool
within_limits numbers =
    nat_le numbers.permissions 6 && ((nat_le 1 numbers.types && nat_le numbers.types 256) && nat_le numbers.figures 32)

-- the numbers keep their limits, and the two lists have the lengths that the numbers ask
abbrev pub list_fits : Places → Numbers → ℕ → ℕ → Bool
list_fits places numbers levels figures =
    within_limits numbers && (levels == places.length (2 ^ numbers.permissions) numbers.types && figures == numbers.figures)

-- of 2^n levels a type
abbrev pub row_fits : Numbers → ℕ → ℕ → Bool
row_fits numbers levels figures = list_fits rows numbers levels figures

-- of one level a type
abbrev pub fixed_fits : Numbers → ℕ → ℕ → Bool
fixed_fits numbers levels figures = list_fits fixed numbers levels figures

-- A book whose lists fit keeps the limits. Assumes nothing.
use Rattle.std.specs.Prelude.{◌≡◌, ◌^◌, true, List, length}
use Rattle.std.proofs.Common.{arith}
use Rattle.std.proofs.lemmas.Bool.Decides.{nat_tests}
use Rattle.std.proofs.lemmas.Nat.{mul-add-lt}
use Rattle.std.proofs.lemmas.Option.{slice_get_cases}
use Rattle.books.specs.Book.{Limits}
use Rattle.books.specs.Lists.{list_book, list_fits}
use Rattle.books.specs.Places.{Places, rows, fixed, AreInList}
use Rattle.books.specs.declared.numbers.Numbers.{Numbers}

pub rows_in_list : AreInList rows
rows_in_list sets types t s in_types in_sets = omega (arith, mul-add-lt t sets s types in_types in_sets)

pub fixed_in_list : AreInList fixed
fixed_in_list sets types t s in_types in_sets = in_types

pub list_limits : {L : Type 0} (places : Places) (numbers : Numbers) (levels figures : List L) → AreInList places
    → list_fits places numbers (length levels) (length figures) ≡ true
    → Limits (list_book places numbers.permissions numbers.types levels figures)
list_limits places numbers levels figures in_list fit = record {
  few_permissions = grind (arith, nat_tests);
  some_type = grind (arith, nat_tests);
  few_types = grind (arith, nat_tests);
  few_figures = grind (arith, nat_tests);
  levels = λ t s. grind (arith, nat_tests, in_list (2 ^ numbers.permissions) numbers.types t s, slice_get_cases levels (places.place (2 ^ numbers.permissions) t s));
  each_figure = λ i. grind (arith, nat_tests, slice_get_cases figures i);
}

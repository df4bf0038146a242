-- What the makings of books answer. Assumes nothing.
use Rattle.std.specs.Prelude.{Bool, true, false, cond, List, length, Ok, Err, vec_items, Result}
use Rattle.levels.specs.Refusals.{broken, no_memory}
use Rattle.levels.specs.declared.refusal.Layer.TheVariants.{Books}
use Rattle.levels.specs.declared.refusal.Place.TheVariants.{Whole}
use Rattle.levels.specs.declared.refusal.Refusal.{Refusal}
use Rattle.books.specs.Book.{Book}
use Rattle.books.specs.Places.{Places, rows, fixed}
use Rattle.books.specs.Lists.{list_book, list_fits}
use Rattle.books.specs.declared.fault.BookFault.{BookFault}
use Rattle.books.specs.declared.fault.BookFault.TheVariants.{Misfit, Memory}
use Rattle.books.specs.declared.list.ListBook.{ListBook}
use Rattle.books.specs.declared.numbers.Numbers.{Numbers}

-- what the faults of a book tell
abbrev pub book_refusal : BookFault → Refusal
book_refusal Misfit = broken 3 Whole
book_refusal Memory = no_memory Books

-- whether an answer is want of memory
abbrev pub lacked_memory : {T : Type 0} → Result T BookFault → Bool
lacked_memory (Ok b) = false
lacked_memory (Err Misfit) = false
lacked_memory (Err Memory) = true

-- what a made book means
abbrev pub of_list : {L A : Type 0} {g : _} → Places → ListBook L A g → Book L
of_list places b = list_book places b.numbers.permissions b.numbers.types (vec_items b.levels) (vec_items b.figures)

-- the verdict on the numbers and the two lists
abbrev pub list_verdict : {L : Type 0} → Places → Numbers → List L → List L → Result (Book L) Refusal
list_verdict places numbers levels figures =
    cond (list_fits places numbers (length levels) (length figures)) (Ok (list_book places numbers.permissions numbers.types levels figures)) (Err (broken 3 Whole))

abbrev pub row_verdict : {L : Type 0} → Numbers → List L → List L → Result (Book L) Refusal
row_verdict numbers levels figures = list_verdict rows numbers levels figures

abbrev pub fixed_verdict : {L : Type 0} → Numbers → List L → List L → Result (Book L) Refusal
fixed_verdict numbers levels figures = list_verdict fixed numbers levels figures

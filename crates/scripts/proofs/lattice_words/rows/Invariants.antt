use Rattle.std.proofs.Common.{◌≡◌, ℕ, List, ◌++◌, Option, length, vec_items}
use Rattle.std.specs.Option.{option_map}
use Rattle.scripts.specs.Shapes.{Word, rows_in}
use Rattle.scripts.specs.Words.{words_left}
use Rattle.scripts.proofs.lattice_words.rows.Given as goal

-- rows that were gathered, before those that are still to come
abbrev pub gathered : List ℕ → Option (List ℕ × List Word) → Option (List ℕ × List Word)
gathered xs more = option_map (λ found. (xs ++ found.0, found.1)) more

abbrev pub invariant-loop-row : goal.invariant-loop-row
invariant-loop-row l =
    (words_left l.ahead ≡ words_left l.words)
    × (gathered (vec_items l.rows) (rows_in (words_left l.words)) ≡ rows_in (words_left l.initial.words))

abbrev pub decreases-loop-row : goal.decreases-loop-row
decreases-loop-row l = length (words_left l.ahead)

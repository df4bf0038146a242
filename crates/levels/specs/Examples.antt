-- Worked examples of order tables. Assumes nothing.
use Rattle.std.specs.Prelude.{◌≡◌, [], ◌∷◌, Ok, Err}
use Rattle.levels.specs.Refusals.{broken}
use Rattle.levels.specs.Tables.{table_verdict}
use Rattle.levels.specs.declared.refusal.Place.TheVariants.{Whole}

-- rows 3, 2 make a lattice; rows 1, 2 and rows 3, 3 give refusal 2; a single row 2 gives refusal 1
abbrev pub TableExamples : Type 0
TableExamples =
    (table_verdict (3 ∷ 2 ∷ []) ≡ Ok (3 ∷ 2 ∷ []))
    × (table_verdict (1 ∷ 2 ∷ []) ≡ Err (broken 2 Whole))
    × (table_verdict (3 ∷ 3 ∷ []) ≡ Err (broken 2 Whole))
    × (table_verdict (2 ∷ []) ≡ Err (broken 1 Whole))

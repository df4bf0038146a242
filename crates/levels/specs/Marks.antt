-- Marks of an order of levels numbered from 0: bit j of row i says that i is at or below j. Assumes nothing.
use Rattle.std.specs.Prelude.{ℕ, ◌/◌, ◌%◌, ◌^◌, Bool, true, false, not, ◌&&◌, ◌||◌, List, length, is_some, Option, ◌==◌, nat_le, nat_lt, slice_index}
use Rattle.levels.specs.Scan.{every, lowest}

-- i is marked at or below j; only levels that have a row are
abbrev pub marked : List ℕ → ℕ → ℕ → Bool
marked rows i j = (nat_lt i (length rows) && nat_lt j (length rows)) && slice_index rows i / 2 ^ j % 2 == 1

-- row i marks only levels that have a row
abbrev pub row_fits : List ℕ → ℕ → Bool
row_fits rows i = nat_lt (slice_index rows i) (2 ^ length rows)

-- 1 to 16 rows, with marks of their levels only
abbrev pub well_shaped : List ℕ → Bool
well_shaped rows = (nat_lt 0 (length rows) && nat_le (length rows) 16) && every (length rows) (row_fits rows)

-- the order upwards, or downwards
abbrev pub toward : Bool → List ℕ → ℕ → ℕ → Bool
toward true rows i j = marked rows i j
toward false rows i j = marked rows j i

-- d lies, that way, at or past both a and b
abbrev pub past_both : Bool → List ℕ → ℕ → ℕ → ℕ → Bool
past_both up rows a b d = toward up rows a d && toward up rows b d

-- if d lies past both a and b, then it lies past c
abbrev pub follows : Bool → List ℕ → ℕ → ℕ → ℕ → ℕ → Bool
follows up rows a b c d = not (past_both up rows a b d) || toward up rows c d

-- c is the first that way that lies past both a and b
abbrev pub is_bound : Bool → List ℕ → ℕ → ℕ → ℕ → Bool
is_bound up rows a b c = past_both up rows a b c && every (length rows) (follows up rows a b c)

-- upwards the join of a and b, downwards their meet
abbrev pub bound : Bool → List ℕ → ℕ → ℕ → Option ℕ
bound up rows a b = lowest (length rows) (is_bound up rows a b)

-- all levels lie that way from c
abbrev pub is_end : Bool → List ℕ → ℕ → Bool
is_end up rows c = every (length rows) (toward up rows c)

-- upwards the lowest level, downwards the highest
abbrev pub end : Bool → List ℕ → Option ℕ
end up rows = lowest (length rows) (is_end up rows)

-- The four mistakes of a table, each at its levels.

-- i lacks its own mark
abbrev pub unmarked : List ℕ → ℕ → Bool
unmarked rows i = not (marked rows i i)

-- i and j, which are two, mark each other
abbrev pub mutual_marks : List ℕ → ℕ → ℕ → Bool
mutual_marks rows i j = (marked rows i j && marked rows j i) && not (i == j)

-- i marks j and j marks k, but i does not mark k
abbrev pub broken_chain : List ℕ → ℕ → ℕ → ℕ → Bool
broken_chain rows i j k = (marked rows i j && marked rows j k) && not (marked rows i k)

-- i and j have no join or no meet
abbrev pub no_bound : List ℕ → ℕ → ℕ → Bool
no_bound rows i j = not (is_some (bound true rows i j) && is_some (bound false rows i j))

-- there is a level at which the test passes
abbrev pub some_level : List ℕ → (ℕ → Bool) → Bool
some_level rows f = is_some (lowest (length rows) f)

-- no level, and no two or three levels, have a mistake
abbrev pub is_lattice : List ℕ → Bool
is_lattice rows =
    not (some_level rows (unmarked rows))
    && (not (some_level rows (λ i. some_level rows (mutual_marks rows i)))
    && (not (some_level rows (λ i. some_level rows (λ j. some_level rows (broken_chain rows i j))))
    && not (some_level rows (λ i. some_level rows (no_bound rows i)))))

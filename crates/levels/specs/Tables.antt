-- The lattice of an order table, and which tables are refused. Assumes nothing.
use Rattle.std.specs.Prelude.{◌≡◌, ℕ, true, false, cond, List, length, take, Ok, Err, Result, nat_lt}
use Rattle.std.specs.Option.{unwrap_or}
use Rattle.levels.specs.Order.{Order, Laws, Same}
use Rattle.levels.specs.Marks.{marked, bound, end, well_shaped, is_lattice}
use Rattle.levels.specs.Refusals.{broken}
use Rattle.levels.specs.declared.refusal.Place.TheVariants.{Whole}
use Rattle.levels.specs.declared.refusal.Refusal.{Refusal}
use Rattle.levels.specs.declared.table.Rank.{Rank}
use Rattle.levels.specs.declared.table.OrderTable.{OrderTable}
use Rattle.levels.specs.declared.table.TableFault.{TableFault}
use Rattle.levels.specs.declared.table.TableFault.TheVariants.{Shape, NoLattice}

-- what the faults of a table tell
abbrev pub table_refusal : TableFault → Refusal
table_refusal Shape = broken 1 Whole
table_refusal NoLattice = broken 2 Whole

abbrev pub rank : ℕ → Rank
rank n = record { number = n }

-- the order that the marks say, with its lowest, its highest, and the bounds of each two levels
abbrev pub ranks : List ℕ → Order Rank
ranks rows = record {
  is_level = λ a. nat_lt a.number (length rows);
  le = λ a b. marked rows a.number b.number;
  join = λ a b. rank (unwrap_or (bound true rows a.number b.number) (unwrap_or (end true rows) 0));
  meet = λ a b. rank (unwrap_or (bound false rows a.number b.number) (unwrap_or (end true rows) 0));
  low = rank (unwrap_or (end true rows) 0);
  high = rank (unwrap_or (end false rows) 0);
}

-- the rows that a table was made of
abbrev pub rows_of : OrderTable → List ℕ
rows_of t = take t.count t.rows

-- what a table means
abbrev pub table_order : OrderTable → Order Rank
table_order t = ranks (rows_of t)

-- what the making of a table answers: the rows as they are kept, or the refusal
abbrev pub table_verdict : List ℕ → Result (List ℕ) Refusal
table_verdict rows = cond (well_shaped rows) (cond (is_lattice rows) (Ok rows) (Err (broken 2 Whole))) (Err (broken 1 Whole))

-- a lattice whose levels are the numbers of the rows, and whose order is the marks
pub record OfMarks (rows : List ℕ) (o : Order Rank) : Type 0 where
  pub laws : Laws o
  pub numbers : (a : Rank) → o.is_level a ≡ nat_lt a.number (length rows)
  pub order : (a b : Rank) → o.le a b ≡ marked rows a.number b.number

-- there is such a lattice
abbrev pub MarksALattice : List ℕ → Type 0
MarksALattice rows = (o : Order Rank) × OfMarks rows o

-- p is such a lattice, and the only one
pub record MeansTheMarks (rows : List ℕ) (p : Order Rank) : Type 0 where
  pub one : OfMarks rows p
  pub only : (o : Order Rank) → OfMarks rows o → Same o p

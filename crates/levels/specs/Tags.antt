-- The lattice of the sets of tags within a mask, under inclusion. Assumes nothing.
use Rattle.std.specs.Prelude.{ℕ, Bool, cond, ◌&&◌, ◌==◌, bit_and, bit_or}
use Rattle.levels.specs.Order.{Order}
use Rattle.levels.specs.declared.tags.TagSet.{TagSet}

-- each tag of a is one of b
abbrev pub included : ℕ → ℕ → Bool
included a b = bit_and a b == a

abbrev pub set_of : ℕ → TagSet
set_of n = record { bits = n }

abbrev pub subsets : ℕ → Order TagSet
subsets mask = record {
  is_level = λ a. included a.bits mask;
  le = λ a b. (included a.bits mask && included b.bits mask) && included a.bits b.bits;
  join = λ a b. cond (included a.bits mask && included b.bits mask) (set_of (bit_or a.bits b.bits)) (set_of 0);
  meet = λ a b. cond (included a.bits mask && included b.bits mask) (set_of (bit_and a.bits b.bits)) (set_of 0);
  low = set_of 0;
  high = set_of mask;
}

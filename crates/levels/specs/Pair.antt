-- Two lattices side by side: a level is one level from each, and both sides must agree in the order. Assumes nothing.
use Rattle.std.specs.Prelude.{Bool, cond, ◌&&◌}
use Rattle.levels.specs.Order.{Order}

module _ {A B : Type 0} (p : Order A) (q : Order B) where
  -- a pair is a level only where both sides are
  abbrev pub both_levels : A × B → Bool
  both_levels a = p.is_level a.0 && q.is_level a.1

  abbrev pub both : Order (A × B)
  both = record {
    is_level = both_levels;
    le = λ a b. p.le a.0 b.0 && q.le a.1 b.1;
    join = λ a b. cond (both_levels a && both_levels b) (p.join a.0 b.0, q.join a.1 b.1) (p.low, q.low);
    meet = λ a b. cond (both_levels a && both_levels b) (p.meet a.0 b.0, q.meet a.1 b.1) (p.low, q.low);
    low = (p.low, q.low);
    high = (p.high, q.high);
  }

-- What a lattice means: its levels, their order, and the answers that follow from the order. Assumes nothing.
use Rattle.std.specs.Prelude.{◌≡◌, Bool, true, false, ◌&&◌}

pub record Order (Level : Type 0) : Type 0 where
  -- whether a value is a level
  pub is_level : Level → Bool
  -- whether the first is at or below the second
  pub le : Level → Level → Bool
  pub join : Level → Level → Level
  pub meet : Level → Level → Level
  pub low : Level
  pub high : Level

pub record Laws {Level : Type 0} (o : Order Level) : Type 0 where
  -- only levels compare, so that a value that is none compares with nothing, not even itself
  pub levels : (a b : Level) → o.le a b ≡ true → (o.is_level a ≡ true) × (o.is_level b ≡ true)
  pub reflexive : (a : Level) → o.is_level a ≡ true → o.le a a ≡ true
  pub antisymmetric : (a b : Level) → o.le a b ≡ true → o.le b a ≡ true → a ≡ b
  pub transitive : (a b c : Level) → o.le a b ≡ true → o.le b c ≡ true → o.le a c ≡ true
  -- the lowest and the highest
  pub lowest : (a : Level) → o.is_level a ≡ true → o.le o.low a ≡ true
  pub highest : (a : Level) → o.is_level a ≡ true → o.le a o.high ≡ true
  -- the least at or above two
  pub join_left : (a b : Level) → o.is_level a ≡ true → o.is_level b ≡ true → o.le a (o.join a b) ≡ true
  pub join_right : (a b : Level) → o.is_level a ≡ true → o.is_level b ≡ true → o.le b (o.join a b) ≡ true
  pub join_least : (a b c : Level) → o.le a c ≡ true → o.le b c ≡ true → o.le (o.join a b) c ≡ true
  -- the greatest at or below two
  pub meet_left : (a b : Level) → o.is_level a ≡ true → o.is_level b ≡ true → o.le (o.meet a b) a ≡ true
  pub meet_right : (a b : Level) → o.is_level a ≡ true → o.is_level b ≡ true → o.le (o.meet a b) b ≡ true
  pub meet_greatest : (a b c : Level) → o.le c a ≡ true → o.le c b ≡ true → o.le c (o.meet a b) ≡ true
  -- the lowest is a level, and what join and meet give where a value is none
  pub low_level : o.is_level o.low ≡ true
  pub join_off : (a b : Level) → (o.is_level a && o.is_level b) ≡ false → o.join a b ≡ o.low
  pub meet_off : (a b : Level) → (o.is_level a && o.is_level b) ≡ false → o.meet a b ≡ o.low

-- two orders give every answer alike
pub record Same {Level : Type 0} (o p : Order Level) : Type 0 where
  pub is_level : (a : Level) → o.is_level a ≡ p.is_level a
  pub le : (a b : Level) → o.le a b ≡ p.le a b
  pub join : (a b : Level) → o.join a b ≡ p.join a b
  pub meet : (a b : Level) → o.meet a b ≡ p.meet a b
  pub low : o.low ≡ p.low
  pub high : o.high ≡ p.high

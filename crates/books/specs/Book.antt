-- What a type book means: its numbers, and the levels of its types and figures. Assumes nothing.
use Rattle.std.specs.Prelude.{◌≡◌, ℕ, ◌^◌, ◌≤◌, ◌&&◌, is_some, Option, nat_lt}

pub record Book (Level : Type 0) : Type 0 where
  pub permissions : ℕ
  pub types : ℕ
  -- the figures are the numbers that the balancer's programs share
  pub figures : ℕ
  -- the level of a type at a permission set: a number whose bit j stands for permission j
  pub level : ℕ → ℕ → Option Level
  pub figure : ℕ → Option Level

-- the numbers keep their limits, and a level is there exactly within the numbers
pub record Limits {Level : Type 0} (b : Book Level) : Type 0 where
  pub few_permissions : b.permissions ≤ 6
  pub some_type : 1 ≤ b.types
  pub few_types : b.types ≤ 256
  pub few_figures : b.figures ≤ 32
  pub levels : (t s : ℕ) → is_some (b.level t s) ≡ (nat_lt t b.types && nat_lt s (2 ^ b.permissions))
  pub each_figure : (i : ℕ) → is_some (b.figure i) ≡ nat_lt i b.figures

-- Where the levels of types stand in a list: in rows, a level for each type and set, type after type; or fixed, one level a type. Assumes nothing.
use Rattle.std.specs.Prelude.{ℕ, ◌+◌, ◌*◌, ◌<◌}

pub record Places : Type 0 where
  -- the length of a list for so many sets and types
  pub length : ℕ → ℕ → ℕ
  -- the place of the level of a type at a set, of so many sets
  pub place : ℕ → ℕ → ℕ → ℕ

-- the level of type t at set s stands at place t·sets + s
abbrev pub rows : Places
rows = record { length = λ sets types. types * sets; place = λ sets t s. t * sets + s }

-- the level of type t, at every set, stands at place t
abbrev pub fixed : Places
fixed = record { length = λ sets types. types; place = λ sets t s. t }

-- each type has a place in the list at each set
abbrev pub AreInList : Places → Type 0
AreInList places = (sets types t s : ℕ) → t < types → s < sets → places.place sets t s < places.length sets types

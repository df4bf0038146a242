-- Rule 5: a function keeps its layout, belongs to an app that is there, and ends after the one before it; the last ends with the nodes.
use Rattle.std.specs.Prelude.{ℕ, ◌+◌, Bool, not, ◌&&◌, ◌||◌, List, length, is_some, ◌==◌, nat_le, nat_lt}
use Rattle.layout.specs.Code.{Code, function, body, start}
use Rattle.layout.specs.Decoding.{function_at}

abbrev pub last_function : Code → ℕ → Bool
last_function c g = g + 1 == length c.functions

abbrev pub placed : Code → ℕ → Bool
placed c g =
    nat_lt (function c g).app (length c.apps)
    && (nat_le (start c g) (body c g) && (not (last_function c g) || body c g + 1 == length c.nodes))

abbrev pub record_broken : List ℕ → Code → ℕ → Bool
record_broken gs c g = not (is_some (function_at gs g) && placed c g)

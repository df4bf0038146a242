-- Rule 9: every node but a body is named exactly once.
use Rattle.std.specs.Prelude.{ℕ, Bool, not, ◌&&◌, length, ◌==◌, nat_lt}
use Rattle.layout.specs.Code.{Code}
use Rattle.layout.specs.Tree.{namings}
use Rattle.reading.specs.NamingRule.{is_body}

-- node j is there, is no body, and is not named exactly once
abbrev pub once_broken : Code → ℕ → Bool
once_broken c j =
    nat_lt j (length c.nodes) && (not (is_body c j) && not (namings c (length c.nodes) j == 1))

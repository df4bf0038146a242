-- Rule 4: 1 to 4,096 nodes, 1 to 64 functions and 1 to 16 apps, and no bytes left over.
use Rattle.std.specs.Prelude.{ℕ, ◌/◌, ◌%◌, Bool, ◌&&◌, ◌==◌, nat_le}

-- n bytes are a whole number of entries of so many bytes, at least one and not too many
abbrev pub counts : ℕ → ℕ → ℕ → Bool
counts width most n = n % width == 0 && (nat_le 1 (n / width) && nat_le (n / width) most)

abbrev pub sizes_fit : ℕ → ℕ → ℕ → Bool
sizes_fit ns gs ps = counts 8 4096 ns && (counts 24 64 gs && (nat_le 1 ps && nat_le ps 16))

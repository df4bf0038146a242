-- Past the end of the bytes there is no node and no function.
use Rattle.std.specs.Prelude.{◌≡◌, ℕ, ◌/◌, ◌≤◌, ◌&&◌, List, length, None}
use Rattle.std.specs.Bool.{then_some}
use Rattle.std.proofs.Common.{ap, arith}
use Rattle.std.proofs.lemmas.Bool.{and_left, lt-leb, cond-false}
use Rattle.layout.specs.Decoding.{has, node_at, padded, record_at, slots_fit, function_at}

pub no_node_past : (xs : List ℕ) (i : ℕ) → length xs / 8 ≤ i → node_at xs i ≡ None
unfolding node_at
no_node_past xs i h = cond-false (has 8 xs i) _ _ (lt-leb _ _ (omega arith))

pub no_function_past : (xs : List ℕ) (g : ℕ) → length xs / 24 ≤ g → function_at xs g ≡ None
no_function_past xs g h =
    ap (λ t. then_some t (record_at xs g)) (and_left (has 24 xs g) (padded xs g && slots_fit (record_at xs g)) (lt-leb _ _ (omega arith)))

-- The lists of entries that bytes stand for, place by place.
use Rattle.std.proofs.Common.{◌≡◌, ℕ, ◌/◌, ◌<◌, ◌≤◌, List, length, get_or, None, Option, unwrap_or, sym, ap, ◌∙◌, ⊎_elim, zero-add, arith}
use Rattle.std.proofs.lemmas.List.{get_or_past}
use Rattle.std.proofs.lemmas.Bool.{cases_lt}
use Rattle.std.proofs.lemmas.List.FromFn.{length-map-range_with_len, get_or-map-range_with_len}
use Rattle.layout.specs.Code.{no_node, no_function}
use Rattle.layout.specs.Decoding.{node_at, function_at, entries_of, nodes_of, functions_of}
use Rattle.layout.specs.Ends.{no_node_past, no_function_past}

module _ {X : Type 0} (w : ℕ) (at : List ℕ → ℕ → Option X) (absent : X) where
  pub length_entries : (xs : List ℕ) → length (entries_of w at absent xs) ≡ length xs / w
  unfolding entries_of
  length_entries xs = length-map-range_with_len (λ i. unwrap_or (at xs i) absent) 0 (length xs / w)

  pub entry_is : (xs : List ℕ) (i : ℕ) → (length xs / w ≤ i → at xs i ≡ None) → get_or (entries_of w at absent xs) i absent ≡ unwrap_or (at xs i) absent
  unfolding entries_of
  entry_is xs i none =
      ⊎_elim (λ (h : i < length xs / w). get_or-map-range_with_len (λ k. unwrap_or (at xs k) absent) 0 (length xs / w) i i absent h (zero-add i))
      (λ (h : length xs / w ≤ i).
      let past : length (entries_of w at absent xs) ≤ i = omega (arith, length_entries xs) in
      get_or_past _ _ _ past ∙ sym (ap (λ o. unwrap_or o absent) (none h)))
      (cases_lt i (length xs / w))

-- nodes and functions
pub length_nodes : (xs : List ℕ) → length (nodes_of xs) ≡ length xs / 8
length_nodes = length_entries 8 node_at no_node

pub length_functions : (xs : List ℕ) → length (functions_of xs) ≡ length xs / 24
length_functions = length_entries 24 function_at no_function

pub node_is : (xs : List ℕ) (i : ℕ) → get_or (nodes_of xs) i no_node ≡ unwrap_or (node_at xs i) no_node
node_is xs i = entry_is 8 node_at no_node xs i (no_node_past xs i)

pub function_is : (xs : List ℕ) (g : ℕ) → get_or (functions_of xs) g no_function ≡ unwrap_or (function_at xs g) no_function
function_is xs g = entry_is 24 function_at no_function xs g (no_function_past xs g)

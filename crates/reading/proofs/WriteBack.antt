-- Writing what was read gives the bytes back.
use Rattle.std.proofs.Common.{◌≡◌, ℕ, ◌+◌, ◌*◌, ◌/◌, ◌%◌, ◌<◌, ◌≤◌, true, eqb, List, [], ◌∷◌, ◌++◌, length, get_or, take, drop, is_some, Some, None, Ok, Option, Result, unwrap_or, sym, refl, ap, ◌∙◌, ap₂, arith, take-add}
use Rattle.std.specs.List.{flat_map}
use Rattle.std.proofs.lemmas.List.{drop-drop}
use Rattle.std.proofs.lemmas.Bool.{and_parts, eqb-true, leb-true, le-leb, cond-true, false≢true}
use Rattle.levels.specs.declared.refusal.Refusal.{Refusal}
use Rattle.layout.specs.declared.node.Node.{Node}
use Rattle.layout.specs.Code.{Code, no_node, no_function}
use Rattle.layout.specs.Decoding.{byte, word, has, operands_at, node_at, record_at, padded, function_at, nodes_of, functions_of, decoded}
use Rattle.layout.specs.Encoding.{eight, node_bytes, function_bytes, lists, encoded}
use Rattle.reading.specs.Verdict.{refused, unless, verdict}
use Rattle.reading.specs.Copies.{Bytes}
use Rattle.reading.proofs.Blocks.{entries_written, block_is}
use Rattle.layout.proofs.Coded.{node_back}
use Rattle.layout.proofs.Decoded.{length_nodes, length_functions}
use Rattle.reading.proofs.Seen.{node_sizes, function_sizes, layout_good, function_as, codes_good}

-- bytes
module _ (xs : List ℕ) (small : Bytes xs) where
  word_small : (m : ℕ) → m + 1 < length xs → word xs m < 65536
  word_small m h = omega (arith, small m (omega arith), small (m + 1) h)

  word_high : (m : ℕ) → m + 1 < length xs → word xs m / 256 ≡ get_or xs m 0
  word_high m h = omega (arith, small m (omega arith), small (m + 1) h)

  word_low : (m j : ℕ) → m + 1 ≡ j → m + 1 < length xs → word xs m % 256 ≡ get_or xs j 0
  word_low m j e h =
      let low : word xs m % 256 ≡ get_or xs (m + 1) 0 = omega (arith, small m (omega arith), small (m + 1) h) in
      low ∙ ap (λ x. get_or xs x 0) e

row : {a b c d e f g h a' b' c' d' e' f' g' h' : ℕ} → a ≡ a' → b ≡ b' → c ≡ c' → d ≡ d' → e ≡ e' → f ≡ f' → g ≡ g' → h ≡ h' → ◌≡◌ {A = List ℕ} (a ∷ b ∷ c ∷ d ∷ e ∷ f ∷ g ∷ h ∷ []) (a' ∷ b' ∷ c' ∷ d' ∷ e' ∷ f' ∷ g' ∷ h' ∷ [])
row p q r s t u v w = rw (p, q, r, s, t, u, v, w)

here : (xs : List ℕ) (m : ℕ) → get_or xs m 0 ≡ get_or xs (m + 0) 0
here xs m = ap (λ x. get_or xs x 0) (omega arith)

-- a node is its block of bytes
node_block : (xs : List ℕ) → Bytes xs → (i : ℕ) → 8 * i + 8 ≤ length xs → (n : Node) → node_at xs i ≡ Some n → node_bytes n ≡ take 8 (drop (8 * i) xs)
unfolding node_at
node_block xs small i room n e =
    let is : has 8 xs i ≡ true = le-leb _ _ room in
    let got = sym (cond-true (has 8 xs i) _ _ is) ∙ e in
    let ops = node_back (operands_at xs i) n (word_small xs small (8 * i + 6) (omega arith)) got in
    ap eight ops
    ∙ (row (here xs (8 * i)) refl
    (word_high xs small (8 * i + 2) (omega arith)) (word_low xs small (8 * i + 2) (8 * i + 3) (omega arith) (omega arith))
    (word_high xs small (8 * i + 4) (omega arith)) (word_low xs small (8 * i + 4) (8 * i + 5) (omega arith) (omega arith))
    (word_high xs small (8 * i + 6) (omega arith)) (word_low xs small (8 * i + 6) (8 * i + 7) (omega arith) (omega arith))
    ∙ sym (block_is xs (8 * i) 8 room))

-- a function that keeps its layout is its block of bytes
function_block : (xs : List ℕ) → Bytes xs → (g : ℕ) → 24 * g + 24 ≤ length xs → padded xs g ≡ true → function_bytes (record_at xs g) ≡ take 24 (drop (24 * g) xs)
unfolding record_at
function_block xs small g room pad =
    let z = and_parts (eqb (byte xs (24 * g + 6)) 0) (eqb (byte xs (24 * g + 7)) 0) pad in
    let head = row (here xs (24 * g)) refl refl refl
    (word_high xs small (24 * g + 4) (omega arith)) (word_low xs small (24 * g + 4) (24 * g + 5) (omega arith) (omega arith))
    (sym (eqb-true _ _ z.0)) (sym (eqb-true _ _ z.1))
    ∙ sym (block_is xs (24 * g) 8 (omega arith)) in
    ap₂ (λ a b. a ++ b) head (ap (take 16) (sym (drop-drop 8 (24 * g) xs))) ∙ sym (take-add 8 16 (drop (24 * g) xs))

-- the whole lists
module _ (ns gs ps : List ℕ) (small : Bytes ns) (little : Bytes gs) (good : refused ns gs ps ≡ None) where
  nodes_back : flat_map node_bytes (nodes_of ns) ≡ ns
  nodes_back = entries_written 8 node_at no_node node_bytes ns (omega (arith, (node_sizes ns gs ps good).0)) block
    where
      block : (i : ℕ) → i < length ns / 8 → node_bytes (unwrap_or (node_at ns i) no_node) ≡ take 8 (drop (8 * i) ns)
      block i lt = go (node_at ns i) refl (codes_good ns gs ps good i (omega (arith, length_nodes ns)))
        where
          go : (o : Option Node) → node_at ns i ≡ o → is_some o ≡ true → node_bytes (unwrap_or o no_node) ≡ take 8 (drop (8 * i) ns)
          go None e h = absurd (false≢true h)
          go (Some n) e h = node_block ns small i (omega arith) n e

  functions_back : flat_map function_bytes (functions_of gs) ≡ gs
  functions_back =
      entries_written 24 function_at no_function function_bytes gs (omega (arith, (function_sizes ns gs ps good).0)) (λ g lt.
      let kept = layout_good ns gs ps good g (omega (arith, length_functions gs)) in
      let parts = and_parts (has 24 gs g) _ kept in
      ap function_bytes (function_as gs g kept) ∙ function_block gs little g (leb-true _ _ parts.0) (and_parts (padded gs g) _ parts.1).0)

  pub encoded_back : encoded (decoded ns gs ps) ≡ lists ns gs ps
  encoded_back = ap₂ (λ n g. lists n g ps) nodes_back functions_back

pub writes_back : (ns gs ps : List ℕ) (c : Code) → Bytes ns → Bytes gs → verdict ns gs ps ≡ Ok c → encoded c ≡ lists ns gs ps
writes_back ns gs ps c small little e = go (refused ns gs ps) refl e
  where
    inside : {x y : Code} → ◌≡◌ {A = Result Code Refusal} (Ok x) (Ok y) → x ≡ y
    inside h = cc

    go : (o : Option Refusal) → refused ns gs ps ≡ o → unless o (decoded ns gs ps) ≡ Ok c → encoded c ≡ lists ns gs ps
    go None good h = ap encoded (sym (inside h)) ∙ encoded_back ns gs ps small little good
    go (Some r) bad h = absurd cc

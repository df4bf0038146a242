-- Reading what was written gives the program back.
use Rattle.std.proofs.Common.{◌≡◌, ℕ, suc, ◌+◌, ◌*◌, ◌/◌, ◌%◌, ◌<◌, ◌≤◌, true, not, ◌&&◌, List, ◌++◌, length, get_or, take, drop, is_some, Some, None, Option, sym, refl, ap, ◌∙◌, ap₂, arith}
use Rattle.std.specs.Bool.{then_some}
use Rattle.std.specs.List.{flat_map}
use Rattle.std.proofs.lemmas.List.{get_or-drop, drop-drop, take_at}
use Rattle.std.proofs.lemmas.Bool.{and_from, or_from, not-false, not_from_true, le-leb, eq-eqb, cond-true}
use Rattle.layout.specs.declared.node.Command.TheVariants.{Nothing, SetSlot, SetFigure, If, While, Then, Let, Call, Test}
use Rattle.layout.specs.declared.node.Node.{Node}
use Rattle.layout.specs.declared.node.Node.TheVariants.{Expression as Exp, Command as Com, Argument}
use Rattle.layout.specs.declared.function.Function.{Function}
use Rattle.layout.specs.Code.{Code, code, node, function, owner, start, no_node, no_function}
use Rattle.layout.specs.Tree.{parts, next_part}
use Rattle.layout.specs.Decoding.{byte, word, node_of, has, node_at, record_at, padded, slots_fit, function_at, nodes_of, functions_of, decoded}
use Rattle.layout.specs.Encoding.{coded, operands, node_bytes, function_bytes}
use Rattle.reading.specs.SizeRule.{counts, sizes_fit}
use Rattle.reading.specs.Verdict.{judged, refused, unless}
use Rattle.reading.specs.Sound.{Sound}
use Rattle.reading.specs.Copies.{ReadsBack}
use Rattle.layout.proofs.Coded.{Linked, Writable, operands_read}
use Rattle.reading.proofs.Blocks.{joined_length, joined_drop, entries_back}
use Rattle.reading.proofs.Facts.{PartIs, PartsAre, names}
use Rattle.reading.proofs.Judging.{judged_is}
use Rattle.levels.specs.Scans.{lowest_absent}

-- what a program names can be written
next_linked : (c : Code) (low i : ℕ) (o : Option ℕ) → i ≤ 4096 → PartIs c low i (next_part o) → Linked o
next_linked c low i None h is = tt
next_linked c low i (Some b) h is = omega (arith, is.1)

writable : (c : Code) (i : ℕ) (n : Node) → i ≤ 4096 → PartsAre c (start c (owner c i)) i (parts n) → Writable n
writable c i (Exp e) h are = tt
writable c i (Com Nothing) h are = tt
writable c i (Com (SetSlot a b)) h are = tt
writable c i (Com (SetFigure a b)) h are = tt
writable c i (Com (If b x d)) h are = tt
writable c i (Com (While b x)) h are = tt
writable c i (Com (Then b x)) h are = tt
writable c i (Com (Let a b x)) h are = tt
writable c i (Com (Call a g o)) h are = next_linked c _ i o h are.0
writable c i (Com (Test a b x)) h are = tt
writable c i (Argument b o) h are = next_linked c _ i o h are.1

-- the bytes of a list from place m on
module _ (xs : List ℕ) (m : ℕ) (front : List ℕ) (e : drop m xs ≡ front) where
  at : (k j : ℕ) → m + k ≡ j → get_or xs j 0 ≡ get_or front k 0
  at k j p = ap (λ x. get_or xs x 0) (sym p) ∙ (sym (get_or-drop m xs k 0) ∙ ap (λ l. get_or l k 0) e)

  word_at : (k j n : ℕ) → m + k ≡ j → get_or front k 0 ≡ n / 256 → get_or front (k + 1) 0 ≡ n % 256 → word xs j ≡ n
  word_at k j n p high low =
      let a = at k j p in
      let b = at (k + 1) (j + 1) (omega arith) in
      omega (arith, a ∙ high, b ∙ low)

-- operands by their parts
five : {k a b c d k' a' b' c' d' : ℕ} → k ≡ k' → a ≡ a' → b ≡ b' → c ≡ c' → d ≡ d' → coded k a b c d ≡ coded k' a' b' c' d'
five p q r s t = rw (p, q, r, s, t)

module _ (ns : List Node) where
  nodes_length : length (flat_map node_bytes ns) ≡ 8 * length ns
  nodes_length = joined_length node_bytes 8 no_node ns (λ k lt. refl)

  node_written : (i : ℕ) → i < length ns → Writable (get_or ns i no_node) → node_at (flat_map node_bytes ns) i ≡ Some (get_or ns i no_node)
  unfolding node_at
  node_written i h ok =
      let xs = flat_map node_bytes ns in
      let o = operands (get_or ns i no_node) in
      let front = joined_drop node_bytes 8 no_node ns i (λ k lt. refl) h in
      cond-true (has 8 (flat_map node_bytes ns) i) _ _ (le-leb _ _ (omega (arith, nodes_length)))
      ∙ (ap node_of (five (at _ (8 * i) _ front 0 (8 * i) (omega arith)) (at _ (8 * i) _ front 1 _ refl) (word_at _ (8 * i) _ front 2 _ o.b refl refl refl) (word_at _ (8 * i) _ front 4 _ o.c refl refl refl) (word_at _ (8 * i) _ front 6 _ o.d refl refl refl))
      ∙ operands_read (get_or ns i no_node) ok)

-- functions
same_function : (xs : List ℕ) (g : ℕ) (f : Function) → byte xs (24 * g) ≡ f.app → byte xs (24 * g + 1) ≡ f.parameters → byte xs (24 * g + 2) ≡ f.slots → byte xs (24 * g + 3) ≡ f.effect → word xs (24 * g + 4) ≡ f.body → take 16 (drop (24 * g + 8) xs) ≡ f.types → record_at xs g ≡ f
unfolding record_at
same_function xs g f ea ep es ee eb et = simp (ea, ep, es, ee, eb, et)

module _ (gs : List Function) (whole : (g : ℕ) → g < length gs → length (get_or gs g no_function).types ≡ 16) where
  wide : (k : ℕ) → k < length gs → length (function_bytes (get_or gs k no_function)) ≡ 24
  wide k lt = omega (arith, whole k lt)

  functions_length : length (flat_map function_bytes gs) ≡ 24 * length gs
  functions_length = joined_length function_bytes 24 no_function gs wide

  module _ (g : ℕ) (h : g < length gs) where
    abbrev it : Function
    it = get_or gs g no_function

    abbrev all : List ℕ
    all = flat_map function_bytes gs

    front : drop (24 * g) all ≡ function_bytes it ++ flat_map function_bytes (drop (suc g) gs)
    front = joined_drop function_bytes 24 no_function gs g wide h

    types_written : take 16 (drop (24 * g + 8) all) ≡ it.types
    types_written =
        ap (take 16) (sym (drop-drop 8 (24 * g) all) ∙ ap (drop 8) front)
        ∙ take_at it.types (flat_map function_bytes (drop (suc g) gs)) 16 (whole g h)

    record_written : record_at all g ≡ it
    record_written =
        same_function all g it (at all (24 * g) _ front 0 (24 * g) (omega arith)) (at all (24 * g) _ front 1 _ refl) (at all (24 * g) _ front 2 _ refl) (at all (24 * g) _ front 3 _ refl)
        (word_at all (24 * g) _ front 4 _ it.body refl refl refl) types_written

    function_written : slots_fit it ≡ true → function_at all g ≡ Some it
    function_written ok =
        let kept : (has 24 all g && (padded all g && slots_fit (record_at all g))) ≡ true =
        and_from _ _ (le-leb _ _ (omega (arith, functions_length)))
        (and_from _ _ (and_from _ _ (eq-eqb _ _ (at all (24 * g) _ front 6 _ refl)) (eq-eqb _ _ (at all (24 * g) _ front 7 _ refl))) (ap slots_fit record_written ∙ ok)) in
        ap₂ then_some kept record_written

-- the whole program
module _ (c : Code) (s : Sound c) where
  abbrev written_nodes : List ℕ
  written_nodes = flat_map node_bytes c.nodes

  abbrev written_functions : List ℕ
  written_functions = flat_map function_bytes c.functions

  node_back : (i : ℕ) → i < length c.nodes → node_at written_nodes i ≡ Some (node c i)
  node_back i h = node_written c.nodes i h (writable c i (node c i) (omega (arith, s.few_nodes.1)) (names c i (node c i) s.names_fit h refl))

  function_back : (g : ℕ) → g < length c.functions → function_at written_functions g ≡ Some (function c g)
  function_back g h = function_written c.functions s.types_whole g h (not-false _ (s.slots_fit g h))

  nodes_back : nodes_of written_nodes ≡ c.nodes
  nodes_back = entries_back 8 node_at no_node written_nodes c.nodes (omega (arith, nodes_length c.nodes)) node_back

  functions_back : functions_of written_functions ≡ c.functions
  functions_back = entries_back 24 function_at no_function written_functions c.functions (omega (arith, functions_length c.functions s.types_whole)) function_back

  decoded_back : decoded written_nodes written_functions c.apps ≡ c
  decoded_back = ap₂ (λ n g. code n g c.apps) nodes_back functions_back

  counted : (w most k n : ℕ) → n ≡ w * k → n % w ≡ 0 → n / w ≡ k → 1 ≤ k → k ≤ most → counts w most n ≡ true
  counted w most k n e rest whole low high =
      and_from _ _ (eq-eqb _ _ rest) (and_from _ _ (le-leb 1 (n / w) (omega (arith, whole))) (le-leb (n / w) most (omega (arith, whole))))

  sizes_back : sizes_fit (length written_nodes) (length written_functions) (length c.apps) ≡ true
  sizes_back =
      let n = nodes_length c.nodes in
      let g = functions_length c.functions s.types_whole in
      and_from _ _ (counted 8 4096 (length c.nodes) (length written_nodes) n (omega (arith, n)) (omega (arith, n)) s.few_nodes.0 s.few_nodes.1)
      (and_from _ _ (counted 24 64 (length c.functions) (length written_functions) g (omega (arith, g)) (omega (arith, g)) s.few_functions.0 s.few_functions.1)
      (and_from _ _ (le-leb _ _ s.few_apps.0) (le-leb _ _ s.few_apps.1)))

  judged_back : judged written_nodes written_functions c ≡ None
  judged_back = sym (judged_is written_nodes written_functions c
      (lowest_absent _ _ (λ g h. not_from_true _ (and_from _ _ (ap is_some (function_back g h)) (not-false _ (s.placed g h)))))
      (lowest_absent _ _ (λ i h. or_from _ _ (ap (λ o. not (is_some o)) (node_back i h)) (s.slots_there i h)))
      (lowest_absent _ _ s.names_fit)
      (lowest_absent _ _ s.calls_fit)
      (lowest_absent _ _ s.named_once)
      (lowest_absent _ _ s.in_scope))

  refused_back : refused written_nodes written_functions c.apps ≡ None
  refused_back = cond-true _ _ _ sizes_back ∙ (ap (judged written_nodes written_functions) decoded_back ∙ judged_back)

  pub reads_back : ReadsBack c
  reads_back = ap₂ unless refused_back decoded_back

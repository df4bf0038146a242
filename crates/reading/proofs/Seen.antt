-- What bytes that break no rule have shown of their program.
use Rattle.std.proofs.Common.{◌≡◌, ℕ, ◌+◌, ◌*◌, ◌/◌, ◌%◌, ◌<◌, ◌≤◌, true, false, not, ◌&&◌, eqb, leb, List, length, drop, is_some, Some, None, Option, unwrap_or, sym, refl, ap, ◌∙◌, ⊎_elim, arith, length-drop}
use Rattle.std.proofs.lemmas.List.{length-take}
use Rattle.std.proofs.lemmas.Option.{none-some}
use Rattle.std.proofs.lemmas.Bool.{not-false, not_from_true, and_parts, or_parts, cases_Bool, cond-true, cond-false, leb-true, eqb-true, false≢true}
use Rattle.std.specs.Bool.{then_some}
use Rattle.levels.specs.Scan.{lowest}
use Rattle.levels.specs.declared.refusal.Refusal.{Refusal}
use Rattle.levels.specs.declared.refusal.Place.TheVariants.{Whole}
use Rattle.levels.specs.Refusals.{broken}
use Rattle.layout.specs.declared.function.Function.{Function}
use Rattle.layout.specs.declared.node.Node.{Node}
use Rattle.layout.specs.Code.{Code, code, function, no_function}
use Rattle.layout.specs.Decoding.{has, padded, slots_fit, record_at, node_at, function_at, nodes_of, functions_of, decoded}
use Rattle.reading.specs.SizeRule.{counts, sizes_fit}
use Rattle.reading.specs.RecordRule.{placed, record_broken}
use Rattle.reading.specs.CodeRule.{slot_broken, code_broken}
use Rattle.reading.specs.NamingRule.{naming_broken}
use Rattle.reading.specs.CallRule.{call_broken}
use Rattle.reading.specs.OnceRule.{once_broken}
use Rattle.reading.specs.ScopeRule.{scope_broken}
use Rattle.reading.specs.Verdict.{refused}
use Rattle.reading.specs.Sound.{FewNodes, FewFunctions, FewApps, SlotsFit, TypesWhole, Placed, SlotsThere, NamesFit, CallsFit, NamedOnce, InScope, Sound}
use Rattle.levels.specs.Scans.{lowest_all}
use Rattle.reading.proofs.Bodies.{placed_from}
use Rattle.layout.proofs.Decoded.{length_nodes, length_functions, function_is}
use Rattle.reading.proofs.Judging.{of_searches, judged_is}

none_found : (o₁ o₂ o₃ o₄ o₅ o₆ : Option ℕ) → of_searches o₁ o₂ o₃ o₄ o₅ o₆ ≡ None → (o₁ ≡ None) × (o₂ ≡ None) × (o₃ ≡ None) × (o₄ ≡ None) × (o₅ ≡ None) × (o₆ ≡ None)
none_found None None None None None None e = (refl, refl, refl, refl, refl, refl)
none_found None None None None None (Some x) e = absurd (none-some _ (sym e))
none_found None None None None (Some x) o₆ e = absurd (none-some _ (sym e))
none_found None None None (Some x) o₅ o₆ e = absurd (none-some _ (sym e))
none_found None None (Some x) o₄ o₅ o₆ e = absurd (none-some _ (sym e))
none_found None (Some x) o₃ o₄ o₅ o₆ e = absurd (none-some _ (sym e))
none_found (Some x) o₂ o₃ o₄ o₅ o₆ e = absurd (none-some _ (sym e))

-- a record that keeps its layout
pub kept_layout : (gs : List ℕ) (g : ℕ) → is_some (function_at gs g) ≡ true → (has 24 gs g && (padded gs g && slots_fit (record_at gs g))) ≡ true
kept_layout gs g e =
    ⊎_elim (λ (q : (has 24 gs g && (padded gs g && slots_fit (record_at gs g))) ≡ true). q)
    (λ (q : (has 24 gs g && (padded gs g && slots_fit (record_at gs g))) ≡ false). absurd (false≢true (sym (ap (λ b. is_some (then_some b (record_at gs g))) q) ∙ e)))
    (cases_Bool (has 24 gs g && (padded gs g && slots_fit (record_at gs g))))

pub function_as : (gs : List ℕ) (g : ℕ) → (has 24 gs g && (padded gs g && slots_fit (record_at gs g))) ≡ true → unwrap_or (function_at gs g) no_function ≡ record_at gs g
function_as gs g e = ap (λ b. unwrap_or (then_some b (record_at gs g)) no_function) e

types_length : (gs : List ℕ) (g : ℕ) → 24 * g + 24 ≤ length gs → length (record_at gs g).types ≡ 16
unfolding record_at
types_length gs g h = rw (length-take 16 (drop (24 * g + 8) gs)) (omega (arith, length-drop (24 * g + 8) gs))

count_parts : (w most n : ℕ) → counts w most n ≡ true → (n % w ≡ 0) × (1 ≤ n / w) × (n / w ≤ most)
count_parts w most n e =
    let whole = and_parts (eqb (n % w) 0) (leb 1 (n / w) && leb (n / w) most) e in
    let back = and_parts (leb 1 (n / w)) (leb (n / w) most) whole.1 in
    (eqb-true _ _ whole.0, leb-true 1 (n / w) back.0, leb-true (n / w) most back.1)

module _ (ns gs ps : List ℕ) (good : refused ns gs ps ≡ None) where
  pub sized : sizes_fit (length ns) (length gs) (length ps) ≡ true
  sized =
      ⊎_elim (λ (q : sizes_fit (length ns) (length gs) (length ps) ≡ true). q)
      (λ (q : sizes_fit (length ns) (length gs) (length ps) ≡ false).
      let h : ◌≡◌ {A = Option Refusal} (Some (broken 4 Whole)) None = sym (cond-false _ _ _ q) ∙ good in absurd (none-some _ (sym h)))
      (cases_Bool (sizes_fit (length ns) (length gs) (length ps)))

  pub node_sizes : (length ns % 8 ≡ 0) × (1 ≤ length ns / 8) × (length ns / 8 ≤ 4096)
  node_sizes = count_parts 8 4096 (length ns) (and_parts (counts 8 4096 (length ns)) _ sized).0

  pub function_sizes : (length gs % 24 ≡ 0) × (1 ≤ length gs / 24) × (length gs / 24 ≤ 64)
  function_sizes = count_parts 24 64 (length gs) (and_parts (counts 24 64 (length gs)) _ (and_parts (counts 8 4096 (length ns)) _ sized).1).0

  pub few_nodes : FewNodes (decoded ns gs ps)
  few_nodes = (omega (arith, length_nodes ns, node_sizes.1), omega (arith, length_nodes ns, node_sizes.2))

  pub few_functions : FewFunctions (decoded ns gs ps)
  few_functions = (omega (arith, length_functions gs, function_sizes.1), omega (arith, length_functions gs, function_sizes.2))

  pub few_apps : FewApps (decoded ns gs ps)
  few_apps =
      let rest = (and_parts (counts 24 64 (length gs)) _ (and_parts (counts 8 4096 (length ns)) _ sized).1).1 in
      let last = and_parts (leb 1 (length ps)) (leb (length ps) 16) rest in
      (leb-true _ _ last.0, leb-true _ _ last.1)

  abbrev it : Code
  it = decoded ns gs ps

  all_none : (lowest (length it.functions) (record_broken gs it) ≡ None) × (lowest (length it.nodes) (code_broken ns it) ≡ None) × (lowest (length it.nodes) (naming_broken it) ≡ None) × (lowest (length it.nodes) (call_broken it) ≡ None) × (lowest (length it.nodes) (once_broken it) ≡ None) × (lowest (length it.nodes) (scope_broken it) ≡ None)
  all_none = none_found _ _ _ _ _ _ (judged_is ns gs it refl refl refl refl refl refl ∙ (sym (cond-true _ _ _ sized) ∙ good))

  pub records_good : (g : ℕ) → g < length it.functions → record_broken gs it g ≡ false
  records_good g h = lowest_all _ _ g all_none.0 h

  pub layout_good : (g : ℕ) → g < length it.functions → (has 24 gs g && (padded gs g && slots_fit (record_at gs g))) ≡ true
  layout_good g h = kept_layout gs g (and_parts (is_some (function_at gs g)) (placed it g) (not-false _ (records_good g h))).0

  pub function_good : (g : ℕ) → g < length it.functions → function it g ≡ record_at gs g
  function_good g h = function_is gs g ∙ function_as gs g (layout_good g h)

  pub slots_good : SlotsFit it
  slots_good g h =
      let back = (and_parts (padded gs g) _ (and_parts (has 24 gs g) _ (layout_good g h)).1).1 in
      not_from_true _ (ap slots_fit (function_good g h) ∙ back)

  pub types_whole : TypesWhole it
  types_whole g h = ap (λ (f : Function). length f.types) (function_good g h) ∙ types_length gs g (leb-true _ _ (and_parts (has 24 gs g) _ (layout_good g h)).0)

  pub placed_good : Placed it
  placed_good = placed_from gs it records_good

  pub codes_good : (i : ℕ) → i < length it.nodes → is_some (node_at ns i) ≡ true
  codes_good i h = not-false _ (or_parts (not (is_some (node_at ns i))) (slot_broken it i) (lowest_all _ _ i all_none.1 h)).0

  pub slots_there : SlotsThere it
  slots_there i h = (or_parts (not (is_some (node_at ns i))) (slot_broken it i) (lowest_all _ _ i all_none.1 h)).1

  pub names_fit : NamesFit it
  names_fit i h = lowest_all _ _ i all_none.2 h

  pub calls_fit : CallsFit it
  calls_fit i h = lowest_all _ _ i all_none.3 h

  pub named_once : NamedOnce it
  named_once i h = lowest_all _ _ i all_none.4 h

  pub in_scope : InScope it
  in_scope i h = lowest_all _ _ i all_none.5 h

  pub sound : Sound it
  sound = record {
    few_nodes = few_nodes;
    few_functions = few_functions;
    few_apps = few_apps;
    slots_fit = slots_good;
    types_whole = types_whole;
    placed = placed_good;
    slots_there = slots_there;
    names_fit = names_fit;
    calls_fit = calls_fit;
    named_once = named_once;
    in_scope = in_scope;
  }

pub code_is : (ns gs ps : List ℕ) (n : List Node) (g : List Function) (p : List ℕ) → n ≡ nodes_of ns → g ≡ functions_of gs → p ≡ ps → code n g p ≡ decoded ns gs ps
code_is ns gs ps n g p en eg ep = rw (en, eg, ep)

-- The verdict from the six searches.
use Rattle.std.proofs.Common.{◌≡◌, ℕ, true, false, cond, List, length, Some, None, Option, sym, refl, ap, ◌∙◌, ⊎_elim}
use Rattle.std.specs.Option.{option_map}
use Rattle.std.proofs.lemmas.Option.{none-some}
use Rattle.std.proofs.lemmas.Bool.{cases_Bool}
use Rattle.levels.specs.Scan.{lowest, or_else}
use Rattle.levels.specs.declared.refusal.Refusal.{Refusal}
use Rattle.layout.specs.Code.{Code}
use Rattle.reading.specs.RecordRule.{record_broken}
use Rattle.reading.specs.CodeRule.{code_broken}
use Rattle.reading.specs.NamingRule.{naming_broken}
use Rattle.reading.specs.CallRule.{call_broken}
use Rattle.reading.specs.OnceRule.{once_broken}
use Rattle.reading.specs.ScopeRule.{scope_broken}
use Rattle.levels.specs.Refusals.{broken}
use Rattle.levels.specs.declared.refusal.Place.TheVariants.{Whole}
use Rattle.layout.specs.Decoding.{decoded}
use Rattle.reading.specs.declared.bytes.Bytes.{Bytes}
use Rattle.reading.specs.Meaning.{code_of}
use Rattle.reading.specs.SizeRule.{sizes_fit}
use Rattle.reading.specs.Verdict.{at_function, at_node, judged_nodes, judged, rule5, rule6, rule7, rule8, rule9, rule10, sizes_refused, refused}

-- a search that found no place, and one whose fault was named
pub found_none : {X Y : Type 0} (f : X → Y) (o : Option X) → None ≡ option_map f o → o ≡ None
found_none f None e = refl
found_none f (Some x) e = absurd (none-some _ e)

-- the verdict from what the rules refused, one after the other
pub first_refused : (ns gs ps : List ℕ) (b t : Bytes) → (b.lists.nodes.now ≡ ns) × (b.lists.functions.now ≡ gs) × (b.lists.apps.now ≡ ps) → None ≡ sizes_refused ns gs ps → t ≡ b
    → {o₅ o₆ o₇ o₈ o₉ o₁₀ : Option Refusal} → o₅ ≡ rule5 b.lists.functions.now (code_of b) → o₆ ≡ rule6 t.lists.nodes.now (code_of t) → o₇ ≡ rule7 (code_of t) → o₈ ≡ rule8 (code_of t) → o₉ ≡ rule9 (code_of t) → o₁₀ ≡ rule10 (code_of t)
    → or_else o₅ (or_else o₆ (or_else o₇ (or_else o₈ (or_else o₉ o₁₀)))) ≡ refused ns gs ps
unfolding judged judged_nodes
first_refused ns gs ps b t same sized same_tree e₅ e₆ e₇ e₈ e₉ e₁₀ =
    rw (e₅, e₆, e₇, e₈, e₉, e₁₀) (ap (λ (x : Bytes). or_else (rule5 b.lists.functions.now (code_of b)) (judged_nodes x.lists.nodes.now (code_of x))) same_tree ∙ verdict)
  where
    fits : sizes_fit (length ns) (length gs) (length ps) ≡ true
    fits = ⊎_elim (λ (q : sizes_fit (length ns) (length gs) (length ps) ≡ true). q)
        (λ (q : sizes_fit (length ns) (length gs) (length ps) ≡ false). let h : ◌≡◌ {A = Option Refusal} None (Some (broken 4 Whole)) = sized ∙ ap (λ x. cond x None (Some (broken 4 Whole))) q in absurd (none-some _ h))
        (cases_Bool _)

    judged_as : judged b.lists.nodes.now b.lists.functions.now (code_of b) ≡ judged ns gs (decoded ns gs ps)
    judged_as = rw (same.0, same.1, same.2)

    verdict : or_else (rule5 b.lists.functions.now (code_of b)) (judged_nodes b.lists.nodes.now (code_of b)) ≡ refused ns gs ps
    verdict = judged_as ∙ sym (ap (λ x. cond x (judged ns gs (decoded ns gs ps)) (Some (broken 4 Whole))) fits)

abbrev pub of_searches : Option ℕ → Option ℕ → Option ℕ → Option ℕ → Option ℕ → Option ℕ → Option Refusal
of_searches o₁ o₂ o₃ o₄ o₅ o₆ = or_else (at_function 5 o₁) (or_else (at_node 6 o₂) (or_else (at_node 7 o₃) (or_else (at_node 8 o₄) (or_else (at_node 9 o₅) (at_node 10 o₆)))))

pub judged_is : (ns gs : List ℕ) (c : Code) {o₁ o₂ o₃ o₄ o₅ o₆ : Option ℕ} → lowest (length c.functions) (record_broken gs c) ≡ o₁ → lowest (length c.nodes) (code_broken ns c) ≡ o₂ → lowest (length c.nodes) (naming_broken c) ≡ o₃ → lowest (length c.nodes) (call_broken c) ≡ o₄ → lowest (length c.nodes) (once_broken c) ≡ o₅ → lowest (length c.nodes) (scope_broken c) ≡ o₆ → of_searches o₁ o₂ o₃ o₄ o₅ o₆ ≡ judged ns gs c
unfolding judged judged_nodes
judged_is ns gs c e₁ e₂ e₃ e₄ e₅ e₆ = rw (e₁, e₂, e₃, e₄, e₅, e₆)

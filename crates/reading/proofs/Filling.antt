-- How the pass down that finds the usable locals goes on.
use Rattle.std.proofs.Common.{◌≡◌, ℕ, ◌+◌, ◌<◌, ◌≤◌, false, ◌≢◌, List, length, get_or, set, Some, None, sym, ap, ◌∙◌, ⊎_elim, arith, get_or-set_other, get_or-set_same}
use Rattle.std.proofs.lemmas.Bool.{cases_eq}
use Rattle.layout.specs.Code.{Code, node}
use Rattle.reading.specs.NamingRule.{naming_broken}
use Rattle.reading.specs.ScopeRule.{parent, within, below_parent, scope}
use Rattle.reading.proofs.Parents.{named_lower, parent_names, scope_below}

-- from place j on, the list has the usable locals of each node, and 0 before
abbrev pub Filled : Code → List ℕ → ℕ → Type 0
Filled c xs j = ((k : ℕ) → j ≤ k → k < length c.nodes → get_or xs k 0 ≡ scope c (length c.nodes) k) × ((k : ℕ) → k < j → get_or xs k 0 ≡ 0)

module _ (c : Code) (ok : (i : ℕ) → i < length c.nodes → naming_broken c i ≡ false) where
  from_parent : (i : ℕ) → i < length c.nodes → scope c (length c.nodes) i ≡ below_parent (parent c (length c.nodes) i) (λ p. within (node c p) i (scope c (length c.nodes) p))
  from_parent i h = scope_below c (λ i j lt named. named_lower c i j (ok i lt) named) i h

  pub parent_higher : (i p : ℕ) → parent c (length c.nodes) i ≡ Some p → (i < p) × (p < length c.nodes)
  parent_higher i p e =
      let up = parent_names c (length c.nodes) i p e in
      (named_lower c p i (ok p up.0) up.1, up.0)

  pub filled_more : (xs : List ℕ) (j i p s : ℕ) → i + 1 ≡ j → i < length c.nodes → i < length xs → parent c (length c.nodes) i ≡ Some p → s ≡ within (node c p) i (get_or xs p 0) → Filled c xs j → Filled c (set xs i s) i
  filled_more xs j i p s e h room par es inv =
      let up = parent_higher i p par in
      let above : get_or xs p 0 ≡ scope c (length c.nodes) p = inv.0 p (omega arith) up.1 in
      let here : s ≡ scope c (length c.nodes) i = es ∙ (ap (λ v. within (node c p) i v) above ∙ sym (from_parent i h ∙ ap (λ o. below_parent o (λ q. within (node c q) i (scope c (length c.nodes) q))) par)) in (
        (λ k low high.
            ⊎_elim (λ (q : k ≡ i). rw (q, get_or-set_same) here)
            (λ (q : k ≡ i → ⊥). let ne : k ≢ i = q in rw get_or-set_other (inv.0 k (omega arith) high))
            (cases_eq k i)),
        (λ k low. let ne : k ≢ i = omega arith in rw get_or-set_other (inv.1 k (omega arith))),
      )

  pub filled_none : (xs : List ℕ) (j i : ℕ) → i + 1 ≡ j → i < length c.nodes → parent c (length c.nodes) i ≡ None → Filled c xs j → Filled c xs i
  filled_none xs j i e h par inv =
      let here : get_or xs i 0 ≡ scope c (length c.nodes) i = inv.1 i (omega arith) ∙ sym (from_parent i h ∙ ap (λ o. below_parent o (λ q. within (node c q) i (scope c (length c.nodes) q))) par) in (
        (λ k low high.
            ⊎_elim (λ (q : k ≡ i). rw q here) (λ (q : k ≡ i → ⊥). inv.0 k (omega arith) high) (cases_eq k i)),
        (λ k low. inv.1 k (omega arith)),
      )

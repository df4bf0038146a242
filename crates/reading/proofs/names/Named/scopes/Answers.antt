use Rattle.std.proofs.Common.{ℕ, ◌-◌, length, get_or, sym, ap, ◌∙◌, arith, length-set}
use Rattle.std.proofs.lemmas.List.{get_or-replicate, length-replicate}
use Rattle.reading.specs.ScopeRule.{within}
use Rattle.reading.specs.Trees.{tree_code}
use Rattle.reading.proofs.Filling.{parent_higher, filled_more, filled_none}
use Rattle.reading.proofs.names.Named.scopes.Goals as goal

pub loop-j-init : goal.loop-j-init
loop-j-init c = (
  ap length c.requires ∙ length-replicate {A = ℕ} 4096 0,
  ((λ k low high. absurd (omega arith)), (λ k low. ap (λ xs. get_or xs k 0) c.requires ∙ get_or-replicate 4096 k 0 0 (omega arith))),
)

pub bounds-scopes-p : goal.bounds-scopes-p
bounds-scopes-p c =
    let up = parent_higher (tree_code c.args.self.now.tree.now) c.args.self.now.names_fit (c.loop-j.j - 1) c.in-Some.p (sym (c.parents.ensures (c.loop-j.j - 1) (omega arith)) ∙ c.in-Some.is) in
    omega (arith, up.1)

pub loop-j-preserved-in-Some : goal.loop-j-preserved-in-Some
loop-j-preserved-in-Some c = (
  length-set c.loop-j.scopes (c.loop-j.j - 1) c.within.result ∙ c.loop-j.invariant.0,
  filled_more (tree_code c.args.self.now.tree.now) c.args.self.now.names_fit c.loop-j.scopes c.loop-j.j (c.loop-j.j - 1) c.in-Some.p c.within.result (omega arith) (omega arith) (omega arith)
      (sym (c.parents.ensures (c.loop-j.j - 1) (omega arith)) ∙ c.in-Some.is)
      (c.within.ensures ∙ ap (λ n. within n (c.loop-j.j - 1) (get_or c.loop-j.scopes c.in-Some.p 0)) c.node.ensures)
      c.loop-j.invariant.1,
)

pub loop-j-preserved : goal.loop-j-preserved
loop-j-preserved c = (
  c.loop-j.invariant.0,
  filled_none (tree_code c.args.self.now.tree.now) c.args.self.now.names_fit c.loop-j.scopes c.loop-j.j (c.loop-j.j - 1) (omega arith) (omega arith)
      (sym (c.parents.ensures (c.loop-j.j - 1) (omega arith)) ∙ c.in_default.is)
      c.loop-j.invariant.1,
)

use Rattle.std.proofs.Common.{◌≡◌, None, Some, Option, ap, ◌∙◌, ap₂, rules}
use Rattle.std.specs.Option.{MatchOption, IsSomeAnd, option_map, option_or}
use Rattle.layout.specs.declared.node.Node.TheVariants.{Expression as Exp, Command as Com}
use Rattle.layout.specs.Decoding.{node_of}
use Rattle.layout.proofs.operands.Operands.node.Goals as goal

mapped : {A B : Type 0} (f : A → B) {P : A → B → Type 0} → ((x : A) (y : B) → P x y → y ≡ f x) → (o : Option A) (r : Option B) → MatchOption o (r ≡ None) (λ x. IsSomeAnd r (P x)) → r ≡ option_map f o
mapped f is None r h = h
mapped f is (Some x) None h = absurd h
mapped f is (Some x) (Some y) h = ap Some (is x y h)

pub returns : goal.returns
unfolding node_of
returns c =
    let e = mapped Exp (λ x y p. search rules) _ _ c.map.ensures.cases ∙ ap (option_map Exp) c.expression.ensures in
    let d = mapped Com (λ x y p. search rules) _ _ c.map-2.ensures.cases ∙ ap (option_map Com) c.command.ensures in
    c.or-2.ensures ∙ ap₂ option_or (c.or.ensures ∙ ap₂ option_or e d) c.argument.ensures

use Rattle.std.proofs.Common.{◌≡◌, ◌<◌, true, false, sym, ◌∙◌, rules}
use Rattle.std.proofs.lemmas.Iterator.{first_from_Range}
use Rattle.levels.proofs.Walks.{lowest_from_first}
use Rattle.levels.proofs.scan.lowest.Goals as goal

pub returns-in_err-i-clause-first : goal.returns-in_err-i-clause-first
returns-in_err-i-clause-first g c = λ passes tells.
    c.from_residual.ensures ∙ sym c.in_err-i.was ∙ lowest_from_first passes c.args.n c.find.result
    (first_from_Range _ _ _ _ (λ x. x < c.args.n → passes x ≡ true) (λ x. x < c.args.n → passes x ≡ false) c.find.ensures.ran
    (λ x q k. λ b. sym (tells x true b (search rules)))
    (λ x q k. (search rules, λ b. sym (tells x false b (search rules)))))

pub returns-clause-first : goal.returns-clause-first
returns-clause-first g c = λ passes tells.
    sym c.in_ok-i.was ∙ lowest_from_first passes c.args.n c.find.result
    (first_from_Range _ _ _ _ (λ x. x < c.args.n → passes x ≡ true) (λ x. x < c.args.n → passes x ≡ false) c.find.ensures.ran
    (λ x q k. λ b. sym (tells x true b (search rules)))
    (λ x q k. (search rules, λ b. sym (tells x false b (search rules)))))

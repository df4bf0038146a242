use Rattle.std.proofs.Common.{◌≡◌, ◌<◌, true, false, refl, sym, rules}
use Rattle.std.proofs.lemmas.Iterator.{cases_from_all, YieldsList-from_range}
use native.Mathlib.Numerals.{unary_clauses}
use Rattle.levels.proofs.Walks.{every_from_walk}
use Rattle.levels.proofs.scan.every.Goals as goal

pub returns : goal.returns
returns g c = λ passes tells.
    every_from_walk passes c.args.n c.all.result
    (simp unary_clauses at (cases_from_all _ _ _ (λ x. x < c.args.n → passes x ≡ true) (λ x. x < c.args.n → passes x ≡ false) c.all.ensures.ran (YieldsList-from_range 0 c.args.n _ refl refl)
    (λ x q k. (search rules, λ b. sym (tells x true b (search rules))))
    (λ x q k. λ b. sym (tells x false b (search rules)))))

use Rattle.std.proofs.Common.{eqb, rules}
use Rattle.std.proofs.lemmas.Iterator.{YieldsList-from_slice}
use Rattle.std.proofs.lemmas.Iterator.Search.{position_from_yields_List}
use borrow.Author.Tests.{tests}
use Rattle.scripts.proofs.Cutting.{cut_mark, cut_end}
use Rattle.scripts.proofs.pieces.cut.Goals as goal

pub returns-in-Some-clause-pieces : goal.returns-in-Some-clause-pieces
returns-in-Some-clause-pieces c =
    cut_mark c.args.mark c.args.text.now c.in-Some.end
    (position_from_yields_List (λ x. eqb x c.args.mark) _ _ _ c.in-Some.ensures.ran (YieldsList-from_slice c.args.text.now (cc)) (λ x b q k. search (rules, tests)))

pub returns-in-None-clause-pieces : goal.returns-in-None-clause-pieces
returns-in-None-clause-pieces c =
    cut_end c.args.mark c.args.text.now
    (position_from_yields_List (λ x. eqb x c.args.mark) _ _ _ c.in-None.ensures.ran (YieldsList-from_slice c.args.text.now (cc)) (λ x b q k. search (rules, tests)))

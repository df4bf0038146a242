use Rattle.std.proofs.Common.{◌≡◌, cond, length, Some, None, sym, ap, ◌∙◌, rules}
use borrow.Author.Tests.{tests}
use Rattle.std.specs.List.{list_all}
use Rattle.std.proofs.lemmas.Iterator.{YieldsList-from_slice}
use Rattle.std.proofs.lemmas.Iterator.Consumers.{count_from_yields_List, YieldsList-from_filter}
use Rattle.std.proofs.lemmas.Iterator.Search.{all_from_yields_List}
use Rattle.scripts.specs.Pieces.{other}
use Rattle.scripts.specs.Words.{unspaced}
use Rattle.scripts.proofs.Unspaced.{is_hex, counted}
use Rattle.scripts.proofs.hex.count.Goals as goal

pub returns-then-not-all : goal.returns-then-not-all
returns-then-not-all c =
    let all : c.all.result ≡ list_all is_hex c.args.text.now = all_from_yields_List is_hex _ _ _ c.all.ensures.ran (YieldsList-from_slice c.args.text.now (cc)) (λ x b q k. search (rules, tests)) in
    sym (counted c.args.text.now ∙ ap (λ b. cond b (Some (length (unspaced c.args.text.now))) None) (sym all ∙ c.if-not-all.true))

pub returns : goal.returns
returns c =
    let all : c.all.result ≡ list_all is_hex c.args.text.now = all_from_yields_List is_hex _ _ _ c.all.ensures.ran (YieldsList-from_slice c.args.text.now (cc)) (λ x b q k. search (rules, tests)) in
    let n : c.count.result ≡ length (unspaced c.args.text.now) =
    count_from_yields_List c.filter.result _ c.count.ensures.ran
    (YieldsList-from_filter _ (other 32) (YieldsList-from_slice c.args.text.now (cc)) c.filter.ensures.closure (λ x b q k. search (rules, tests))) in
    ap Some n ∙ sym (counted c.args.text.now ∙ ap (λ b. cond b (Some (length (unspaced c.args.text.now))) None) (sym all ∙ c.if-not-all.false))

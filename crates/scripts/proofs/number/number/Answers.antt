use Rattle.std.proofs.Common.{◌≡◌, ap, ◌∙◌, rules}
use Rattle.scripts.specs.Numbers.{number_of}
use Rattle.scripts.proofs.Numerals.{number_back}
use Rattle.scripts.proofs.number.number.Goals as goal

pub returns-in-Some-clause-back : goal.returns-in-Some-clause-back
returns-in-Some-clause-back c =
    let value : c.numeral.result ≡ number_of c.args.word.now = search rules in
    λ n h e. value ∙ ap number_of e ∙ number_back n h

pub returns-in-None-clause-back : goal.returns-in-None-clause-back
returns-in-None-clause-back c =
    let value : c.numeral-in-None.result ≡ number_of c.args.word.now = search rules in
    λ n h e. value ∙ ap number_of e ∙ number_back n h

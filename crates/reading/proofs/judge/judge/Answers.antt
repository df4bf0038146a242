use Rattle.std.proofs.Common.{refl, ap, ◌∙◌, rules}
use Rattle.reading.specs.declared.bytes.Bytes.{Bytes}
use Rattle.reading.specs.Meaning.{code_of}
use Rattle.reading.specs.Trees.{tree_code}
use Rattle.reading.specs.Verdict.{judged, rule5, rule10}
use Rattle.reading.specs.declared.owners.Owners.{Owners}
use Rattle.reading.proofs.Judging.{first_refused}
use Rattle.reading.proofs.judge.judge.Goals as goal

pub returns-in_err-tree : goal.returns-in_err-tree
unfolding judged
returns-in_err-tree c = search rules

pub returns-in_err-codes_fit : goal.returns-in_err-codes_fit
returns-in_err-codes_fit c =
    let told = first_refused c.args.lists.nodes.now c.args.lists.functions.now c.args.lists.apps.now c.in_ok-bytes.bytes c.in_ok-tree.tree.functions.bytes (search rules, search rules, search rules) c.in_ok-bytes.ensures.told (c.in_ok-tree.ensures.of ∙ c.new-2.ensures) (c.in_ok-tree.ensures.refuses ∙ ap (λ (b : Bytes). rule5 b.lists.functions.now (code_of b)) c.new-2.ensures) c.in_err-codes_fit.ensures refl refl refl refl in search rules

pub returns-in_err-named : goal.returns-in_err-named
returns-in_err-named c =
    let told = first_refused c.args.lists.nodes.now c.args.lists.functions.now c.args.lists.apps.now c.in_ok-bytes.bytes c.in_ok-tree.tree.functions.bytes (search rules, search rules, search rules) c.in_ok-bytes.ensures.told (c.in_ok-tree.ensures.of ∙ c.new-2.ensures) (c.in_ok-tree.ensures.refuses ∙ ap (λ (b : Bytes). rule5 b.lists.functions.now (code_of b)) c.new-2.ensures) c.in_ok-codes_fit.ensures c.in_err-named.ensures.refuses refl refl refl in search rules

pub returns-in_err-calls_fit : goal.returns-in_err-calls_fit
returns-in_err-calls_fit c =
    let told = first_refused c.args.lists.nodes.now c.args.lists.functions.now c.args.lists.apps.now c.in_ok-bytes.bytes c.in_ok-tree.tree.functions.bytes (search rules, search rules, search rules) c.in_ok-bytes.ensures.told (c.in_ok-tree.ensures.of ∙ c.new-2.ensures) (c.in_ok-tree.ensures.refuses ∙ ap (λ (b : Bytes). rule5 b.lists.functions.now (code_of b)) c.new-2.ensures) c.in_ok-codes_fit.ensures c.in_ok-named.ensures.refuses c.in_err-calls_fit.ensures refl refl in search rules

pub returns-in_err-named_once : goal.returns-in_err-named_once
returns-in_err-named_once c =
    let told = first_refused c.args.lists.nodes.now c.args.lists.functions.now c.args.lists.apps.now c.in_ok-bytes.bytes c.in_ok-tree.tree.functions.bytes (search rules, search rules, search rules) c.in_ok-bytes.ensures.told (c.in_ok-tree.ensures.of ∙ c.new-2.ensures) (c.in_ok-tree.ensures.refuses ∙ ap (λ (b : Bytes). rule5 b.lists.functions.now (code_of b)) c.new-2.ensures) c.in_ok-codes_fit.ensures c.in_ok-named.ensures.refuses c.in_ok-calls_fit.ensures c.in_err-named_once.ensures refl in search rules

pub returns : goal.returns
returns c = first_refused c.args.lists.nodes.now c.args.lists.functions.now c.args.lists.apps.now c.in_ok-bytes.bytes c.in_ok-tree.tree.functions.bytes (search rules, search rules, search rules) c.in_ok-bytes.ensures.told (c.in_ok-tree.ensures.of ∙ c.new-2.ensures) (c.in_ok-tree.ensures.refuses ∙ ap (λ (b : Bytes). rule5 b.lists.functions.now (code_of b)) c.new-2.ensures) c.in_ok-codes_fit.ensures c.in_ok-named.ensures.refuses c.in_ok-calls_fit.ensures c.in_ok-named_once.ensures (c.scopes_fit.ensures ∙ ap (λ (t : Owners). rule10 (tree_code t)) c.in_ok-named.ensures.of)

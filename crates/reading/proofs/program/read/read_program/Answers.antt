use Rattle.std.proofs.Common.{◌≡◌, None, vec_items, sym, ap, ◌∙◌, subst, rules}
use Rattle.layout.specs.Code.{code}
use Rattle.layout.specs.Encoding.{encoded}
use Rattle.layout.specs.Decoding.{decoded}
use Rattle.reading.specs.Verdict.{refused}
use Rattle.reading.specs.Sound.{Sound}
use Rattle.reading.proofs.Seen.{sound, code_is}
use Rattle.reading.proofs.WriteBack.{encoded_back}
use Rattle.reading.proofs.program.read.read_program.Goals as goal

module _ (c : goal.In_ok-apps) where
  same : code (vec_items c.in_ok-nodes.nodes) (vec_items c.in_ok-functions.functions) (vec_items c.in_ok-apps.apps) ≡ decoded c.args.lists.nodes.now c.args.lists.functions.now c.args.lists.apps.now
  same = code_is c.args.lists.nodes.now c.args.lists.functions.now c.args.lists.apps.now _ _ _ c.in_ok-nodes.ensures.read c.in_ok-functions.ensures.read c.in_ok-apps.ensures.items

  good : refused c.args.lists.nodes.now c.args.lists.functions.now c.args.lists.apps.now ≡ None
  good = search rules

pub returns : goal.returns
returns c =
    let n = c.args.lists.nodes.now in
    let g = c.args.lists.functions.now in
    let p = c.args.lists.apps.now in
    record { answered = search rules; written_back = ap encoded (code_is n g p _ _ _ c.in_ok-nodes.ensures.read c.in_ok-functions.ensures.read c.in_ok-apps.ensures.items) ∙ encoded_back n g p c.entries_of.ensures.small c.entries_of-2.ensures.small (search rules) }

pub invariant_of-result : goal.invariant_of-result
invariant_of-result c = record { sound = subst Sound (sym (same c)) (sound c.args.lists.nodes.now c.args.lists.functions.now c.args.lists.apps.now (good c)) }

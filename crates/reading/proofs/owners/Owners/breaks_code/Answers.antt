use Rattle.std.proofs.Common.{◌≡◌, ℕ, Bool, not, ◌||◌, List, is_some, Some, Option, unwrap_or, sym, ap, ◌∙◌, ap₂}
use Rattle.layout.specs.declared.node.Node.{Node}
use Rattle.layout.specs.declared.function.Function.{Function}
use Rattle.layout.specs.Code.{no_node, node, function, owner}
use Rattle.layout.specs.Tree.{slot_of}
use Rattle.layout.specs.Decoding.{node_at, decoded}
use Rattle.reading.specs.CodeRule.{past, slot_broken, code_broken}
use Rattle.layout.proofs.Decoded.{node_is}
use Rattle.reading.proofs.owners.Owners.breaks_code.Goals as goal

known : (ns gs ps : List ℕ) (i : ℕ) (n : Node) → node_at ns i ≡ Some n → past (function (decoded ns gs ps) (owner (decoded ns gs ps) i)).slots (slot_of n) ≡ code_broken ns (decoded ns gs ps) i
known ns gs ps i n e =
    let same : node (decoded ns gs ps) i ≡ n = node_is ns i ∙ ap (λ o. unwrap_or o no_node) e in
    ap (λ (m : Node). past (function (decoded ns gs ps) (owner (decoded ns gs ps) i)).slots (slot_of m)) (sym same)
    ∙ ap (λ o. not (is_some o) || slot_broken (decoded ns gs ps) i) (sym e)

-- from what the calls answered
joined : (m r : Bool) (f g : Function) (o p : Option ℕ) → m ≡ past f.slots o → f ≡ g → o ≡ p → past g.slots p ≡ r → m ≡ r
joined m r f g o p em ef eo er = em ∙ (ap₂ (λ (x : Function) y. past x.slots y) ef eo ∙ er)

pub returns-in-Some : goal.returns-in-Some
returns-in-Some c =
    joined _ _ _ _ _ _ c.past.ensures c.own.ensures c.slot.ensures
    (known c.args.self.now.functions.bytes.lists.nodes.now c.args.self.now.functions.bytes.lists.functions.now c.args.self.now.functions.bytes.lists.apps.now c.args.i c.in-Some.node (sym c.in-Some.ensures))

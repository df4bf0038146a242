use Rattle.std.proofs.Common.{ap, ◌∙◌, sym, rules, arith, length, ◌+◌, ◌<◌, ◌≤◌}
use Rattle.layout.specs.declared.function.Function.{Function}
use Rattle.layout.specs.Code.{start}
use Rattle.layout.proofs.Decoded.{length_nodes, length_functions}
use Rattle.reading.specs.Trees.{held_code}
use Rattle.reading.proofs.Bodies.{place_is, body_inside, start_next}
use Rattle.reading.proofs.Owning.{owned_none, owned_more, owned_all, start_end}
use Rattle.reading.proofs.functions.Functions.owners.Goals as goal

pub loop-g-init : goal.loop-g-init
loop-g-init c = (search rules, owned_none (held_code c.args.self.now))

pub slice_bounds-owners-end : goal.slice_bounds-owners-end
slice_bounds-owners-end c =
    let it = held_code c.args.self.now in
    let inside : c.loop-g.g < length it.functions = omega (arith, c.function_count-g-end.ensures.value) in
    let ends = ap (λ (f : Function). f.body) c.function.ensures in
    omega (arith, ends, c.loop-g.invariant.0, (place_is it c.loop-g.g c.requires inside).begins, body_inside it c.requires c.loop-g.g inside, length_nodes c.args.self.now.bytes.lists.nodes.now, c.loop-g.invariant.1.size)

pub loop-g-preserved : goal.loop-g-preserved
loop-g-preserved c =
    let it = held_code c.args.self.now in
    let inside : c.loop-g.g < length it.functions = omega (arith, c.function_count-g-end.ensures.value) in
    let few : length it.nodes ≤ 4096 = omega (arith, length_nodes c.args.self.now.bytes.lists.nodes.now) in
    let ends = ap (λ (f : Function). f.body + 1) c.function.ensures in (
      ends ∙ sym (start_next it c.loop-g.g),
      owned_more it c.requires c.loop-g.owners c.fill.new.self c.loop-g.g c.loop-g.start _ inside few c.loop-g.invariant.0 ends (c.fill.ensures.after (λ y h. search rules)) c.loop-g.invariant.1,
    )

pub returns : goal.returns
returns c =
    let it = held_code c.args.self.now in
    let some : 0 < length it.functions = omega (arith, length_functions c.args.self.now.bytes.lists.functions.now) in
    let all = ap (λ x. start it x) (omega (arith, c.function_count-g-end.ensures.value)) in
    owned_all it c.requires c.loop-g.owners c.loop-g.start (c.loop-g.invariant.0 ∙ (all ∙ start_end it c.requires some)) c.loop-g.invariant.1

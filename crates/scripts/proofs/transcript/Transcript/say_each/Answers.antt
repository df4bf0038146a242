use Rattle.std.proofs.Common.{◌≡◌, ◌++◌, arith, append-nil}
use Rattle.std.proofs.lemmas.Grind.{common_steps}
use Rattle.scripts.proofs.Shown.{texts_none, texts_more}
use Rattle.scripts.proofs.transcript.Transcript.say_each.Goals as goal

pub loop-i-init : goal.loop-i-init
loop-i-init g c text says = simp (texts_none, append-nil)

pub loop-i-preserved : goal.loop-i-preserved
loop-i-preserved g c text says =
    let said : c.say.new.arg2 ≡ c.loop-i.self ++ text c.loop-i.i = says c.loop-i.i (omega arith) _ _ _ c.in_ok-say.ensures in
    let before = c.loop-i.invariant text says in
    simp texts_more (grind (arith, common_steps))

pub returns : goal.returns
returns g c text says = let all = c.loop-i.invariant text says in grind (arith, common_steps)

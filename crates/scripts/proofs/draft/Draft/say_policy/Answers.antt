use Rattle.std.proofs.Common.{rules}
use Rattle.levels.specs.Refusals.{within_memory}
use Rattle.levels.specs.declared.refusal.Layer.TheVariants.{Books}
use Rattle.scripts.specs.Policies.{plan_verdict}
use Rattle.scripts.proofs.draft.Draft.say_policy.Goals as goal

pub returns : goal.returns
returns c =
    let told = c.in_ok-good.ensures in
    (told.0, within_memory told.0 Books (plan_verdict c.in_ok-plan.plan c.deref.result.now c.deref-2.result.now), search rules, told.1, told.2)

use Rattle.std.proofs.Common.{◌<◌, ◌≢◌, [], length, sym, subst, arith, length-set, get_or-set_other, get_or-set_same, below_more}
use Rattle.levels.specs.Bounds.{HoldsRow}
use Rattle.levels.proofs.marks.Marks.bound_table.Goals as goal

pub loop-a-preserved : goal.loop-a-preserved
loop-a-preserved c =
    let Holds = HoldsRow c.args.up c.args.self.rows.now in (
      simp length-set c.loop-a.invariant.0,
      below_more _ _
          (λ k h. let ne : k ≢ c.loop-a.a = omega arith in subst (Holds k) (sym (get_or-set_other c.loop-a.held _ _ _ [] ne)) (c.loop-a.invariant.1 k h))
          (let lt : c.loop-a.a < length c.loop-a.held = omega arith in subst (Holds c.loop-a.a) (sym (get_or-set_same c.loop-a.held _ _ [] lt)) c.bound_row.ensures),
    )

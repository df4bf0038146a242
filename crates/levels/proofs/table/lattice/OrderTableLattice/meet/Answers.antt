use Rattle.std.proofs.Common.{false, ◌∙◌}
use Rattle.levels.specs.Tables.{rows_of}
use Rattle.levels.specs.RankLaws.{held_or}
use Rattle.levels.proofs.table.lattice.OrderTableLattice.meet.Goals as goal

pub returns : goal.returns
returns c =
    let t = c.args.self.now in
    c.held.ensures ∙ held_or (rows_of t) t.lattice false _ _ _ _ t.met

use Rattle.std.proofs.Common.{true, ◌∙◌}
use Rattle.levels.specs.Tables.{rows_of}
use Rattle.levels.specs.RankLaws.{held_or}
use Rattle.levels.proofs.table.lattice.OrderTableLattice.join.Goals as goal

pub returns : goal.returns
returns c =
    let t = c.args.self.now in
    c.held.ensures ∙ held_or (rows_of t) t.lattice true _ _ _ _ t.joined

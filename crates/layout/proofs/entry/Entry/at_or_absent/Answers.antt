use Rattle.std.proofs.Common.{unwrap_or, sym, ◌∙◌, ap₂}
use Rattle.layout.proofs.Decoded.{entry_is}
use Rattle.layout.proofs.entry.Entry.at_or_absent.Goals as goal

pub returns : goal.returns
returns g c =
    c.unwrap_or.ensures ∙ (ap₂ unwrap_or c.at.ensures c.absent.ensures
    ∙ sym (entry_is g.row.WIDTH g.Self.Entry.at g.Self.Entry.absent c.args.list.now c.args.i (g.met.Self.Entry.past c.args.list.now c.args.i)))

use Rattle.std.proofs.Common.{rules, arith}
use Rattle.std.proofs.lemmas.Grind.{common_steps}
use Rattle.layout.proofs.Decoded.{length_entries}
use Rattle.reading.proofs.program.read.entries_of.Goals as goal

pub loop-i-preserved : goal.loop-i-preserved
loop-i-preserved g c = grind (arith, common_steps, length_entries g.row.WIDTH g.E.Entry.at g.E.Entry.absent c.args.bytes.now)

pub returns : goal.returns
returns g c = record { read = grind (arith, common_steps, length_entries g.row.WIDTH g.E.Entry.at g.E.Entry.absent c.args.bytes.now); small = search rules }

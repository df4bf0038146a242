use Rattle.std.proofs.Common.{◌≡◌, take, vec_items}
use Rattle.std.specs.List.{flat_map}
use Rattle.reading.proofs.program.write.written.Given as goal

abbrev pub invariant-loop-entry : goal.invariant-loop-entry
invariant-loop-entry g l = vec_items l.bytes ≡ flat_map g.E.Entry.bytes (take l.entry-index l.entries)

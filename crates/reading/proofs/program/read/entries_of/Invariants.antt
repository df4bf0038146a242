use Rattle.std.proofs.Common.{◌≡◌, ◌/◌, ◌≤◌, take, length, vec_items, vec_len, vec_capacity}
use Rattle.layout.specs.Decoding.{entries_of}
use Rattle.reading.proofs.program.read.entries_of.Given as goal

abbrev pub invariant-loop-i : goal.invariant-loop-i
invariant-loop-i g l = record {
  read : vec_items l.entries ≡ take l.i (entries_of g.row.WIDTH g.E.Entry.at g.E.Entry.absent l.bytes);
  counted : vec_len l.entries ≡ l.i;
  reserved : length l.bytes / g.row.WIDTH ≤ vec_capacity l.entries;
}

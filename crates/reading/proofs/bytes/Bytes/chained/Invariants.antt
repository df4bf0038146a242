use Rattle.std.proofs.Common.{◌≡◌, ◌-◌}
use Rattle.reading.specs.CallRule.{chained}
use Rattle.reading.specs.Meaning.{code_of}
use Rattle.reading.proofs.bytes.Bytes.chained.Given as goal

abbrev pub invariant-loop-n : goal.invariant-loop-n
invariant-loop-n l = chained (code_of l.self) l.count l.initial.argument ≡ chained (code_of l.self) (l.count - l.n) l.argument

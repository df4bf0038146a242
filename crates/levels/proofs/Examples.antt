-- The worked examples of order tables, computed. Assumes nothing.
use Rattle.std.proofs.Common.{refl}
use Rattle.levels.specs.Scan.{every, lowest}
use Rattle.levels.specs.Examples.{TableExamples}

pub table_examples : TableExamples
unfolding every lowest
table_examples = (refl, refl, refl, refl)

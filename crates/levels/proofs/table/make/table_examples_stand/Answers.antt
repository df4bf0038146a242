use Rattle.levels.proofs.Examples.{table_examples}
use Rattle.levels.proofs.table.make.table_examples_stand.Goals as goal

pub returns : goal.returns
returns c = table_examples

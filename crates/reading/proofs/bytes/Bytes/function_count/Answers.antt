use Rattle.std.proofs.Common.{sym, arith}
use Rattle.layout.proofs.Decoded.{length_functions}
use Rattle.reading.proofs.bytes.Bytes.function_count.Goals as goal

pub returns : goal.returns
returns c = record { value = sym (length_functions _); bound = omega arith }

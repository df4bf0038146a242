-- What byte lists of admissible lengths stand for.
use Rattle.reading.specs.declared.bytes.Bytes.{Bytes}
use Rattle.layout.specs.Code.{Code}
use Rattle.layout.specs.Decoding.{decoded}

abbrev pub code_of : Bytes → Code
code_of b = decoded b.lists.nodes.now b.lists.functions.now b.lists.apps.now

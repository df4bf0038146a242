-- What byte lists stand for, as the passes over them have them at hand.
use Rattle.reading.specs.declared.functions.Functions.{Functions}
use Rattle.reading.specs.declared.owners.Owners.{Owners}
use Rattle.layout.specs.Code.{Code}
use Rattle.reading.specs.Meaning.{code_of}

abbrev pub held_code : Functions → Code
held_code f = code_of f.bytes

abbrev pub tree_code : Owners → Code
tree_code t = held_code t.functions

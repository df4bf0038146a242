-- What a program is that was read, and which answer says that memory was lacking.
use Rattle.std.specs.Prelude.{Bool, true, false, Ok, Err, vec_items, Result}
use Rattle.reading.specs.declared.fault.ReadingFault.{ReadingFault}
use Rattle.reading.specs.declared.fault.ReadingFault.TheVariants.{Sizes, Record, Malformed, Misnamed, Miscalled, NotNamedOnce, OutOfScope, Memory}
use Rattle.reading.specs.declared.program.Program.{Program}
use Rattle.layout.specs.Code.{Code, code}

abbrev pub program_code : Program → Code
program_code p = code (vec_items p.nodes) (vec_items p.functions) (vec_items p.apps)

abbrev pub wants_memory : ReadingFault → Bool
wants_memory Sizes = false
wants_memory (Record g) = false
wants_memory (Malformed i) = false
wants_memory (Misnamed i) = false
wants_memory (Miscalled i) = false
wants_memory (NotNamedOnce i) = false
wants_memory (OutOfScope i) = false
wants_memory Memory = true

abbrev pub lacked_memory : Result Program ReadingFault → Bool
lacked_memory (Ok p) = false
lacked_memory (Err e) = wants_memory e

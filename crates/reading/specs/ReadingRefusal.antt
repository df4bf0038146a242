-- What each fault of reading tells: the number of the broken rule, and its place.
use Rattle.std.specs.Prelude.{◌≡◌, ℕ, ◌<◌, Some, None, Ok, Err, Option, Result}
use Rattle.levels.specs.Refusals.{broken, no_memory}
use Rattle.levels.specs.declared.refusal.Refusal.{Refusal}
use Rattle.levels.specs.declared.refusal.Layer.TheVariants.{Reading}
use Rattle.levels.specs.declared.refusal.Place.TheVariants.{Whole, Node, Function}
use Rattle.reading.specs.declared.fault.ReadingFault.{ReadingFault}
use Rattle.reading.specs.declared.fault.ReadingFault.TheVariants.{Sizes, Record, Malformed, Misnamed, Miscalled, NotNamedOnce, OutOfScope, Memory}

abbrev pub reading_refusal : ReadingFault → Refusal
reading_refusal Sizes = broken 4 Whole
reading_refusal (Record g) = broken 5 (Function g)
reading_refusal (Malformed i) = broken 6 (Node i)
reading_refusal (Misnamed i) = broken 7 (Node i)
reading_refusal (Miscalled i) = broken 8 (Node i)
reading_refusal (NotNamedOnce i) = broken 9 (Node i)
reading_refusal (OutOfScope i) = broken 10 (Node i)
reading_refusal Memory = no_memory Reading

-- what a pass over byte lists tells: nothing, or the refusal of its fault
abbrev pub told : {T : Type 0} → Result T ReadingFault → Option Refusal
told (Ok x) = None
told (Err e) = Some (reading_refusal e)

-- whatever fault is named for a place below n, its refusal is this one
abbrev pub Names : ℕ → (ℕ → ReadingFault → Type 0) → (ℕ → Refusal) → Type 0
Names n post refusal = (i : ℕ) (fault : ReadingFault) → i < n → post i fault → reading_refusal fault ≡ refusal i

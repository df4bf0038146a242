use Rattle.std.proofs.Common.{◌≡◌, ◌<◌, drop}
use Rattle.std.specs.Option.{option_map}
use Rattle.std.specs.Int.Digits.{number_from_digits, number_from_digits_after}
use Rattle.scripts.specs.Numbers.{radix, digits_of}
use Rattle.scripts.proofs.number.digits.Given as goal

abbrev pub invariant-loop-byte : goal.invariant-loop-byte
invariant-loop-byte l =
    (l.value < 4294967296)
    × (option_map (number_from_digits_after (radix l.base) l.value) (digits_of l.base (drop l.byte-index l.text)) ≡ option_map (number_from_digits (radix l.base)) (digits_of l.base l.text))

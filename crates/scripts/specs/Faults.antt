-- The fault of a script whose hexadecimal digits are at fault. Assumes nothing.
use Rattle.scripts.specs.declared.fault.ScriptFault.{ScriptFault}
use Rattle.scripts.specs.declared.fault.ScriptFault.TheVariants.{NoHex, OddHex, Memory}
use Rattle.scripts.specs.declared.hex.HexFault as hex
use Rattle.scripts.specs.declared.hex.HexFault.TheVariants as hex_faults

abbrev pub of_hex : hex.HexFault → ScriptFault
of_hex hex_faults.NoDigit = NoHex
of_hex hex_faults.OddCount = OddHex
of_hex hex_faults.Memory = Memory

-- Every program is sound, and read back as it is written. For the layers above.
use Rattle.reading.specs.declared.program.Program.{Program}
use Rattle.reading.specs.Reading.{program_code}
use Rattle.reading.specs.Copies.{ReadsBack}
use Rattle.reading.specs.Sound.{Sound}
use Rattle.reading.proofs.ReadBack.{reads_back}

pub program_sound : (p : Program) → Sound (program_code p)
program_sound p = p.sound

pub program_back : (p : Program) → ReadsBack (program_code p)
program_back p = reads_back (program_code p) (program_sound p)

use Rattle.std.proofs.Common.{arith}
use Rattle.part_laws.proofs.NameSpaces.Mounts.{mounted_last, mounted_sound}
use Rattle.part_laws.proofs.names.names_stay_sound.Goals as goal

pub returns-clause-starts : goal.returns-clause-starts
returns-clause-starts c = record { few = omega arith; row = tt }

pub returns-clause-mounted : goal.returns-clause-mounted
returns-clause-mounted c = mounted_sound

pub returns-clause-last : goal.returns-clause-last
returns-clause-last c = mounted_last

use Rattle.std.proofs.Common.{arith, refl}
use Rattle.program_logic.proofs.Rooms.{boots_all}
use Rattle.bounded_buffer.proofs.laws.the_programs_boot.Goals as goal
use Rattle.bounded_buffer.specs.Buffer.{buffer_images}

pub returns : goal.returns
returns c = record { boots = λ disks. boots_all disks buffer_images 131050 refl refl refl (omega arith) }

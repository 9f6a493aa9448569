use Rattle.part_laws.proofs.RawDisks.Killed.{sound_left}
use Rattle.part_laws.proofs.raw_disk.raw_disks_stay_sound.Goals as goal

pub returns-clause-given_up : goal.returns-clause-given_up
returns-clause-given_up c = sound_left

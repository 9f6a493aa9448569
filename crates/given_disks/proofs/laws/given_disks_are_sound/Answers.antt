use Rattle.given_disks.proofs.Given.{sound_disks}
use Rattle.given_disks.proofs.laws.given_disks_are_sound.Goals as goal

pub returns : goal.returns
returns c = sound_disks

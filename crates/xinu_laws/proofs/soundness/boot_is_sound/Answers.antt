use Rattle.xinu_laws.proofs.Preserve.Events.{sound_boot}
use Rattle.xinu_laws.proofs.soundness.boot_is_sound.Goals as goal

pub returns : goal.returns
returns c = sound_boot

use Rattle.xinu_laws.proofs.Preserve.Disks.{sound_boot_on, boot_on_first}
use Rattle.xinu_laws.proofs.soundness.boot_on_disks_is_sound.Goals as goal

pub returns-clause-given : goal.returns-clause-given
returns-clause-given c = sound_boot_on

pub returns-clause-first : goal.returns-clause-first
returns-clause-first c = boot_on_first

use Rattle.xinu_laws.proofs.Preserve.Events.{sound_happens}
use Rattle.xinu_laws.proofs.soundness.events_keep_sound.Goals as goal

pub returns : goal.returns
returns c = sound_happens

use Rattle.xinu_laws.proofs.Preserve.Events.{sound_run}
use Rattle.xinu_laws.proofs.soundness.runs_keep_sound.Goals as goal

pub returns : goal.returns
returns c = sound_run

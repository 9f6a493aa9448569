use Rattle.xinu_laws.proofs.Preserve.Events.{state_event}
use Rattle.xinu_laws.proofs.soundness.all_events_keep_sound.Goals as goal

pub returns : goal.returns
returns c = state_event

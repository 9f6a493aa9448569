use Rattle.xinu_laws.proofs.Preserve.Events.{state_end_of_event}
use Rattle.xinu_laws.proofs.moments.ends_are_sound.Goals as goal

pub returns : goal.returns
returns c = state_end_of_event

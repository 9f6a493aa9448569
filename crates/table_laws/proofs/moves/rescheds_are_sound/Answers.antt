use Rattle.table_laws.proofs.Tables.Scheduling.{sound_resched}
use Rattle.table_laws.proofs.moves.rescheds_are_sound.Goals as goal

pub returns : goal.returns
returns c = sound_resched

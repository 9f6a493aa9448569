use Rattle.scheduling_laws.proofs.Told.{stuck_if_told, told_if_stuck}
use Rattle.scheduling_laws.proofs.stuck.tables_tell_who_is_stuck.Goals as goal

pub returns-clause-told : goal.returns-clause-told
returns-clause-told c = stuck_if_told

pub returns-clause-tell : goal.returns-clause-tell
returns-clause-tell c = told_if_stuck

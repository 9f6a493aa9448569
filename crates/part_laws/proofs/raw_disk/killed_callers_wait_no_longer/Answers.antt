use Rattle.part_laws.proofs.RawDisks.Killed.{callers_left}
use Rattle.part_laws.proofs.raw_disk.killed_callers_wait_no_longer.Goals as goal

pub returns-clause-callers : goal.returns-clause-callers
returns-clause-callers c = callers_left

use Rattle.part_laws.proofs.FileWork.Sound.{callers_stay}
use Rattle.part_laws.proofs.file_work.killed_callers_leave_the_first_call.Goals as goal

pub returns-clause-callers : goal.returns-clause-callers
returns-clause-callers c = callers_stay

use Rattle.part_laws.proofs.FileWork.Rest.{idle_rests}
use Rattle.part_laws.proofs.file_work.what_isnt_busy_is_at_rest.Goals as goal

pub returns : goal.returns
returns c = record { rest = idle_rests }

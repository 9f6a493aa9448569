use Rattle.file_laws.proofs.Freed.{middle_dropped}
use Rattle.file_laws.proofs.changes.a_file_is_cut.Goals as goal

pub returns : goal.returns
returns c = middle_dropped

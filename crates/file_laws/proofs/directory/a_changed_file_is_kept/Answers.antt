use Rattle.file_laws.proofs.Finished.{middle_ends}
use Rattle.file_laws.proofs.directory.a_changed_file_is_kept.Goals as goal

pub returns : goal.returns
returns c = middle_ends

use Rattle.file_laws.proofs.Removed.{middle_removed}
use Rattle.file_laws.proofs.directory.a_file_is_removed.Goals as goal

pub returns : goal.returns
returns c = middle_removed

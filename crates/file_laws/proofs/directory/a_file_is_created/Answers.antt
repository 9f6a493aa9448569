use Rattle.file_laws.proofs.Created.{created}
use Rattle.file_laws.proofs.directory.a_file_is_created.Goals as goal

pub returns : goal.returns
returns c = created

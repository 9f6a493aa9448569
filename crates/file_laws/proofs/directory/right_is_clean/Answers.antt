use Rattle.file_laws.proofs.Right.{right_clean}
use Rattle.file_laws.proofs.directory.right_is_clean.Goals as goal

pub returns : goal.returns
returns c = right_clean

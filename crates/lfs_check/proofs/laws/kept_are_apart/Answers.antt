use Rattle.lfs_check.proofs.Keeping.{kept_apart}
use Rattle.lfs_check.proofs.laws.kept_are_apart.Goals as goal

pub returns : goal.returns
returns c = kept_apart

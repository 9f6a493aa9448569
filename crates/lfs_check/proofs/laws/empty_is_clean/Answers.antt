use Rattle.lfs_check.proofs.Theorems.{empty_passes}
use Rattle.lfs_check.proofs.laws.empty_is_clean.Goals as goal

pub returns : goal.returns
returns c = empty_passes

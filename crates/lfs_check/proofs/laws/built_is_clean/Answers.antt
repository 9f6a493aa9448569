use Rattle.lfs_check.proofs.Theorems.{built_passes}
use Rattle.lfs_check.proofs.laws.built_is_clean.Goals as goal

pub returns : goal.returns
returns c = built_passes

use Rattle.lfs_check.proofs.Theorems.{clean_laid}
use Rattle.lfs_check.proofs.laws.clean_is_laid.Goals as goal

pub returns : goal.returns
returns c = clean_laid

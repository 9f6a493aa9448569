use Rattle.lfs_check.proofs.Images.{image_lies}
use Rattle.lfs_check.proofs.laws.clean_image_lies.Goals as goal

pub returns : goal.returns
returns c = image_lies

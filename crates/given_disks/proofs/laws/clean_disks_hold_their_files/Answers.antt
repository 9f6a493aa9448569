use Rattle.given_disks.proofs.Given.{held_files}
use Rattle.given_disks.proofs.laws.clean_disks_hold_their_files.Goals as goal

pub returns : goal.returns
returns c = held_files

use Rattle.xinu_commands.proofs.DiskStatuses.{says_of_disk}
use Rattle.xinu_commands.proofs.laws.statuses_say_of_disks.Goals as goal

pub returns : goal.returns
returns c = says_of_disk

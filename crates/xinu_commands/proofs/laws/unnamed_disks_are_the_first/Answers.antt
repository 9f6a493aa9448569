use Rattle.xinu_commands.proofs.UnnamedDisks.{unnamed_first}
use Rattle.xinu_commands.proofs.laws.unnamed_disks_are_the_first.Goals as goal

pub returns : goal.returns
returns c = unnamed_first

use Rattle.xinu_commands.proofs.UnnamedDisks.{files_accepted, raw_accepted}
use Rattle.xinu_commands.proofs.laws.unnamed_disks_are_accepted.Goals as goal

pub returns-clause-raw : goal.returns-clause-raw
returns-clause-raw c = raw_accepted

pub returns-clause-files : goal.returns-clause-files
returns-clause-files c = files_accepted

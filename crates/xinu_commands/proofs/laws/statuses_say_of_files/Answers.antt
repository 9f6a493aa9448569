use Rattle.xinu_commands.proofs.Statuses.{says_of_files}
use Rattle.xinu_commands.proofs.laws.statuses_say_of_files.Goals as goal

pub returns : goal.returns
returns c = says_of_files

use Rattle.xinu_commands.proofs.Statuses.{usage}
use Rattle.xinu_commands.proofs.laws.no_command_is_status_2.Goals as goal

pub returns : goal.returns
returns c = usage

use Rattle.xinu_commands.proofs.Statuses.{due}
use Rattle.xinu_commands.proofs.laws.statuses_are_due.Goals as goal

pub returns : goal.returns
returns c = due

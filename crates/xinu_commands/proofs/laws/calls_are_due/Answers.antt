use Rattle.xinu_commands.proofs.Statuses.{called_due}
use Rattle.xinu_commands.proofs.laws.calls_are_due.Goals as goal

pub returns : goal.returns
returns c = called_due

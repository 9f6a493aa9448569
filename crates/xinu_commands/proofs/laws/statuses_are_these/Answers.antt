use Rattle.xinu_commands.proofs.Statuses.{listed}
use Rattle.xinu_commands.proofs.laws.statuses_are_these.Goals as goal

pub returns : goal.returns
returns c = listed

use Rattle.xinu_commands.proofs.Statuses.{faults_counted}
use Rattle.xinu_commands.proofs.laws.host_faults_are_counted.Goals as goal

pub returns : goal.returns
returns c = faults_counted

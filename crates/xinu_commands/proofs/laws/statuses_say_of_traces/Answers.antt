use Rattle.xinu_commands.proofs.TraceStatuses.{says_of_trace}
use Rattle.xinu_commands.proofs.laws.statuses_say_of_traces.Goals as goal

pub returns : goal.returns
returns c = says_of_trace

use Rattle.xinu_commands.proofs.AsmStatuses.{says_of_source}
use Rattle.xinu_commands.proofs.laws.statuses_say_of_sources.Goals as goal

pub returns : goal.returns
returns c = says_of_source

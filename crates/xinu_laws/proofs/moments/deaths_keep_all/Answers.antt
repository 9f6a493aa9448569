use Rattle.xinu_laws.proofs.Preserve.Calls.{exit_keeps}
use Rattle.xinu_laws.proofs.moments.deaths_keep_all.Goals as goal

pub returns : goal.returns
returns c = exit_keeps

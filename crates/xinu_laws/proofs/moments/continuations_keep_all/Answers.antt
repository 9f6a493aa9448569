use Rattle.xinu_laws.proofs.Preserve.Calls.{continued_keeps}
use Rattle.xinu_laws.proofs.moments.continuations_keep_all.Goals as goal

pub returns : goal.returns
returns c = continued_keeps

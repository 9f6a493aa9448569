use Rattle.xinu_laws.proofs.Preserve.Calls.{row_keeps, called_keeps}
use Rattle.xinu_laws.proofs.moments.calls_keep_all.Goals as goal

pub returns-clause-rows : goal.returns-clause-rows
returns-clause-rows c = row_keeps

pub returns-clause-numbers : goal.returns-clause-numbers
returns-clause-numbers c = called_keeps

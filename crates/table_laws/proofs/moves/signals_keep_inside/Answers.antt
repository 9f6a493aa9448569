use Rattle.table_laws.proofs.Preserve.Tokens.{inside_signal, inside_more}
use Rattle.table_laws.proofs.Tables.Unblock.{inside_signalled}
use Rattle.table_laws.proofs.moves.signals_keep_inside.Goals as goal

pub returns-clause-signalled : goal.returns-clause-signalled
returns-clause-signalled c = inside_signalled

pub returns-clause-waiter : goal.returns-clause-waiter
returns-clause-waiter c = inside_signal

pub returns-clause-token : goal.returns-clause-token
returns-clause-token c = inside_more

use Rattle.table_laws.proofs.Tables.Signals.{signals_are_repeated}
use Rattle.table_laws.proofs.moves.signals_add_up.Goals as goal

pub returns : goal.returns
returns c = signals_are_repeated

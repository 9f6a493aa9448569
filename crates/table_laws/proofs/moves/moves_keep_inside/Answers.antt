use Rattle.table_laws.proofs.Tables.MoveTo.{inside_move}
use Rattle.table_laws.proofs.Tables.Scheduling.{inside_ready}
use Rattle.table_laws.proofs.moves.moves_keep_inside.Goals as goal

pub returns-clause-moved : goal.returns-clause-moved
returns-clause-moved c = inside_move

pub returns-clause-ready : goal.returns-clause-ready
returns-clause-ready c = inside_ready

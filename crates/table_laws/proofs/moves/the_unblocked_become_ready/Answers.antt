use Rattle.table_laws.proofs.Tables.Unblock.{unblock_all_with_ready}
use Rattle.table_laws.proofs.moves.the_unblocked_become_ready.Goals as goal

pub returns : goal.returns
returns c = unblock_all_with_ready

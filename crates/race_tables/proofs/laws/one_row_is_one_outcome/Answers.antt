use Rattle.race_tables.proofs.Tables.{one_outcome}
use Rattle.race_tables.proofs.laws.one_row_is_one_outcome.Goals as goal

pub returns : goal.returns
returns c = one_outcome

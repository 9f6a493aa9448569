use Rattle.race_tables.proofs.Tables.{all_first}
use Rattle.race_tables.proofs.laws.rows_are_first.Goals as goal

pub returns : goal.returns
returns c = all_first

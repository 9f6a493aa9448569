use Rattle.race_tables.proofs.Tables.{all_have}
use Rattle.race_tables.proofs.laws.rows_are_complete.Goals as goal

pub returns : goal.returns
returns c = all_have

use Rattle.race_tables.proofs.Tables.{all_differ}
use Rattle.race_tables.proofs.laws.rows_differ.Goals as goal

pub returns : goal.returns
returns c = all_differ

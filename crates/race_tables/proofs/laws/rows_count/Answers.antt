use Rattle.race_tables.proofs.Tables.{adds_up, all_count}
use Rattle.race_tables.proofs.laws.rows_count.Goals as goal

pub returns : goal.returns
returns c = record { each = all_count; all = adds_up }

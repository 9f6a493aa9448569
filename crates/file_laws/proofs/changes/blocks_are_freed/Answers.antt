use Rattle.file_laws.proofs.Freed.{middle_data_freed, middle_index_freed}
use Rattle.file_laws.proofs.changes.blocks_are_freed.Goals as goal

pub returns-clause-data : goal.returns-clause-data
returns-clause-data c = middle_data_freed

pub returns-clause-index : goal.returns-clause-index
returns-clause-index c = middle_index_freed

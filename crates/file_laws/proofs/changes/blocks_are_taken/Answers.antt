use Rattle.file_laws.proofs.Middles.{middle_taken}
use Rattle.file_laws.proofs.Freed.{middle_index_taken}
use Rattle.file_laws.proofs.changes.blocks_are_taken.Goals as goal

pub returns-clause-data : goal.returns-clause-data
returns-clause-data c = middle_taken

pub returns-clause-index : goal.returns-clause-index
returns-clause-index c = middle_index_taken

use Rattle.file_laws.proofs.Middles.{middle_in_place, middle_held}
use Rattle.file_laws.proofs.Freed.{middle_index_held}
use Rattle.file_laws.proofs.changes.blocks_are_put.Goals as goal

pub returns-clause-place : goal.returns-clause-place
returns-clause-place c = middle_in_place

pub returns-clause-data : goal.returns-clause-data
returns-clause-data c = middle_held

pub returns-clause-index : goal.returns-clause-index
returns-clause-index c = middle_index_held

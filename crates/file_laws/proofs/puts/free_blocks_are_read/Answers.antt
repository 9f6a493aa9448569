use Rattle.file_laws.proofs.Reached.{free_data_some, free_data_none, free_index_some, free_index_none, middle_data_taken, middle_index_got}
use Rattle.file_laws.proofs.puts.free_blocks_are_read.Goals as goal

pub returns-clause-data : goal.returns-clause-data
returns-clause-data c = free_data_some

pub returns-clause-no_data : goal.returns-clause-no_data
returns-clause-no_data c = free_data_none

pub returns-clause-index : goal.returns-clause-index
returns-clause-index c = free_index_some

pub returns-clause-no_index : goal.returns-clause-no_index
returns-clause-no_index c = free_index_none

pub returns-clause-data_taken : goal.returns-clause-data_taken
returns-clause-data_taken c = middle_data_taken

pub returns-clause-index_taken : goal.returns-clause-index_taken
returns-clause-index_taken c = middle_index_got

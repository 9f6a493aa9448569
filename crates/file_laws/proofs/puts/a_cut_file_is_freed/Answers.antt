use Rattle.file_laws.proofs.Cutting.{cut_begins, cut_data, cut_index, cut_ends}
use Rattle.file_laws.proofs.puts.a_cut_file_is_freed.Goals as goal

pub returns-clause-begins : goal.returns-clause-begins
returns-clause-begins c = cut_begins

pub returns-clause-data : goal.returns-clause-data
returns-clause-data c = cut_data

pub returns-clause-index : goal.returns-clause-index
returns-clause-index c = cut_index

pub returns-clause-ends : goal.returns-clause-ends
returns-clause-ends c = cut_ends

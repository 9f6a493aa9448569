use Rattle.file_laws.proofs.ReadBlocks.{read_index_block, bytes_in_block}
use Rattle.file_laws.proofs.bytes.bytes_are_read.Goals as goal

pub returns-clause-index : goal.returns-clause-index
returns-clause-index c = read_index_block

pub returns-clause-data : goal.returns-clause-data
returns-clause-data c = bytes_in_block

use Rattle.file_laws.proofs.Middles.{middle_added}
use Rattle.file_laws.proofs.changes.a_data_block_is_added.Goals as goal

pub returns : goal.returns
returns c = middle_added

use Rattle.file_laws.proofs.Reached.{middle_read}
use Rattle.file_laws.proofs.Patched.{middle_sized}
use Rattle.file_laws.proofs.puts.a_file_is_read.Goals as goal

pub returns-clause-blocks : goal.returns-clause-blocks
returns-clause-blocks c = middle_read

pub returns-clause-size : goal.returns-clause-size
returns-clause-size c = middle_sized

use Rattle.xinu_commands.proofs.WrittenFiles.{written_files-load}
use Rattle.xinu_commands.proofs.laws.written_files_load.Goals as goal

pub returns : goal.returns
returns c = written_files-load

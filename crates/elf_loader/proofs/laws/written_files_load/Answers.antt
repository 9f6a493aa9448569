-- By the parts of the image: one part, a priority that isn't negative.
use Rattle.elf_loader.proofs.ReadBack.{written_loads}
use Rattle.elf_loader.proofs.laws.written_files_load.Goals as goal

pub returns : goal.returns
returns c = written_loads

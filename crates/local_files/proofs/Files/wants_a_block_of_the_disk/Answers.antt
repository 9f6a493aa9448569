use Rattle.local_files.proofs.OneBlock.{wanted_within}
use Rattle.local_files.proofs.Files.wants_a_block_of_the_disk.Goals as goal

pub returns : goal.returns
returns c = record { within = λ base disk s. wanted_within c.args.self.now base disk s }

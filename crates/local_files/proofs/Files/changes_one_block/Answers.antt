use Rattle.local_files.proofs.OneBlock.{one_block}
use Rattle.local_files.proofs.Files.changes_one_block.Goals as goal

pub returns : goal.returns
returns c = record { one = λ base disk s. one_block c.args.self.now base disk s }

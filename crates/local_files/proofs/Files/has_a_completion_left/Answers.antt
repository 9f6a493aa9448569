use Rattle.local_files.proofs.OneBlock.{some_left}
use Rattle.local_files.proofs.Files.has_a_completion_left.Goals as goal

pub returns : goal.returns
returns c = record { some = λ base disk s. some_left c.args.self.now base disk s }

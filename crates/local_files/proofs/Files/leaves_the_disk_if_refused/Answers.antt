use Rattle.local_files.proofs.Refused.{refused_before, refused_after}
use Rattle.local_files.proofs.Files.leaves_the_disk_if_refused.Goals as goal

pub returns-clause-before : goal.returns-clause-before
returns-clause-before c = λ base disk s. refused_before c.args.self.now base disk s

pub returns-clause-after : goal.returns-clause-after
returns-clause-after c = λ base disk s. refused_after c.args.self.now base disk s

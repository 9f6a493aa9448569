use Rattle.local_files.proofs.OnlyReading.{reads_leave}
use Rattle.local_files.proofs.Files.leaves_the_disk_if_it_reads.Goals as goal

pub returns : goal.returns
returns c = record { same = λ base disk s. reads_leave c.args.self.now base disk s }

use Rattle.std.proofs.Common.{refl}
use Rattle.xinu_examples.proofs.devices.file_calls_answer.Goals as goal

pub returns-clause-full_disk : goal.returns-clause-full_disk
returns-clause-full_disk c = refl

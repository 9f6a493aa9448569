-- One more byte.
use Rattle.std.proofs.Common.{arith}
use Rattle.std.proofs.lemmas.Grind.{common_steps}
use Rattle.gdb_answers.proofs.Pushes.{name_text-push}
use Rattle.gdb_answers.proofs.threads.push_name.Goals as goal

pub loop-byte-preserved : goal.loop-byte-preserved
loop-byte-preserved c = grind (arith, common_steps, name_text-push)

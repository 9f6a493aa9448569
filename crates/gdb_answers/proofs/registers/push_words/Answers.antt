-- One more word.
use Rattle.std.proofs.Common.{arith}
use Rattle.std.proofs.lemmas.Grind.{common_steps}
use Rattle.gdb_answers.proofs.Pushes.{words_text-push}
use Rattle.gdb_answers.proofs.registers.push_words.Goals as goal

pub loop-word-preserved : goal.loop-word-preserved
loop-word-preserved c = grind (arith, common_steps, words_text-push)

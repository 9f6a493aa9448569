-- So far the digits of the words before the present one were appended.
use Rattle.std.proofs.Common.{◌≡◌, ◌++◌, take}
use Rattle.gdb_answers.specs.Registers.{words_text}
use Rattle.gdb_answers.proofs.registers.push_words.Given as goal

abbrev pub invariant-loop-word : goal.invariant-loop-word
invariant-loop-word l = l.text.items ≡ l.initial.text.items ++ words_text (take l.word-index l.words)

-- The words so far were appended.
use Rattle.std.proofs.Common.{◌≡◌, ◌++◌, drop}
use Rattle.elf_loader.specs.WrittenElf.{words_bytes}
use Rattle.elf_loader.proofs.writer.push_words.Given as goal

abbrev pub invariant-loop-word : goal.invariant-loop-word
invariant-loop-word l = l.file.items ++ words_bytes (drop l.word-index l.words) ≡ l.initial.file.items ++ words_bytes l.words

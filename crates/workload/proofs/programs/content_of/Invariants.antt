-- The texts and the words so far.
use Rattle.std.proofs.Common.{◌≡◌, ◌+◌, ◌*◌, ◌++◌, drop, length}
use Rattle.std.specs.List.{flat_map}
use Rattle.asm_syntax.specs.Statements.{word_bytes}
use Rattle.workload.specs.Programs.{texts}
use Rattle.workload.proofs.programs.content_of.Given as goal

abbrev pub invariant-loop-word : goal.invariant-loop-word
invariant-loop-word l = record {
  bytes : l.bytes.items ++ flat_map word_bytes (drop l.word-index l.words) ≡ texts l.number ++ flat_map word_bytes l.words;
  size : length l.bytes.items ≡ 8 + 4 * l.word-index;
}

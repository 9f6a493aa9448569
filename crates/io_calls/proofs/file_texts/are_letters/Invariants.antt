-- The letters are those of what is left.
use Rattle.std.proofs.Common.{◌≡◌, drop, length}
use Rattle.io_calls.proofs.FileTexts.{are_letters}
use Rattle.io_calls.proofs.file_texts.are_letters.Given as goal

abbrev pub invariant-loop-i : goal.invariant-loop-i
invariant-loop-i l = record {
  end : l.i-end ≡ length l.text;
  so_far : are_letters l.text ≡ are_letters (drop l.i l.text);
}

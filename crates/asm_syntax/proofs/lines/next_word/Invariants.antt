-- Blanks are passed by.
use Rattle.std.proofs.Common.{◌≡◌, ◌≤◌, length}
use Rattle.asm_syntax.specs.Tokens.{tokens_of}
use Rattle.asm_syntax.specs.CodeLines.{skip}
use Rattle.asm_syntax.proofs.lines.next_word.Given as goal

abbrev pub invariant-loop-token : goal.invariant-loop-token
invariant-loop-token l = record {
  tokens : skip (tokens_of l.line) ≡ skip (tokens_of l.rest);
  shorter : length l.rest ≤ length l.line;
}

abbrev pub decreases-loop-token : goal.decreases-loop-token
decreases-loop-token l = length l.rest

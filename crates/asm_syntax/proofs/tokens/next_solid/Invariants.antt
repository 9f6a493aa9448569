-- Blanks are passed by.
use Rattle.std.proofs.Common.{◌≡◌, ◌≤◌, length}
use Rattle.asm_syntax.specs.Tokens.{solid, tokens_of}
use Rattle.asm_syntax.proofs.tokens.next_solid.Given as goal

abbrev pub invariant-loop-token : goal.invariant-loop-token
invariant-loop-token l = record {
  tokens : solid (tokens_of l.line) ≡ solid (tokens_of l.rest);
  shorter : length l.rest ≤ length l.line;
}

abbrev pub decreases-loop-token : goal.decreases-loop-token
decreases-loop-token l = length l.rest

-- The bytes of the tokens so far come before those of the tokens that are left.
use Rattle.std.proofs.Common.{◌≡◌, ◌+◌, ◌≤◌, length}
use Rattle.text_lines.specs.Lines.{tokens_of}
use Rattle.schedule_file.specs.Numbers.{bytes_in}
use Rattle.schedule_file.proofs.TypedLemmas.{behind}
use Rattle.schedule_file.proofs.line_events.typed.Given as goal

abbrev pub invariant-loop-token : goal.invariant-loop-token
invariant-loop-token l = record {
  bytes : bytes_in (tokens_of l.tokens) ≡ behind l.bytes.items (bytes_in (tokens_of l.rest));
  count : length (tokens_of l.tokens) ≡ length l.bytes.items + length (tokens_of l.rest);
  few : length l.bytes.items ≤ 64;
}

abbrev pub decreases-loop-token : goal.decreases-loop-token
decreases-loop-token l = length l.rest

-- As many words are behind it.
use Rattle.std.proofs.Common.{◌≡◌, drop}
use Rattle.text_lines.specs.Lines.{tokens_of}
use Rattle.printed_runs.proofs.names.name_word.Given as goal

abbrev pub invariant-loop : goal.invariant-loop
invariant-loop l = tokens_of l.rest ≡ drop l.counter (tokens_of l.line)

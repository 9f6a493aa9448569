-- The lines that are left say it if and only if all do.
use Rattle.std.proofs.Common.{◌≡◌, length}
use Rattle.std.specs.List.{list_all}
use Rattle.text_lines.specs.Lines.{lines_of, tokens_of}
use Rattle.races_command.specs.Stuck.{is_blocked}
use Rattle.races_command.proofs.stuck.are_blocked.Given as goal

abbrev pub invariant-loop-rest : goal.invariant-loop-rest
invariant-loop-rest l = list_all (λ line. is_blocked (tokens_of line)) (lines_of l.rest) ≡ list_all (λ line. is_blocked (tokens_of line)) (lines_of l.text)

abbrev pub decreases-loop-rest : goal.decreases-loop-rest
decreases-loop-rest l = length l.rest

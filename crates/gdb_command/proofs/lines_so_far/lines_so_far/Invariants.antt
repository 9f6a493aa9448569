-- The lines of the events so far, which aren't too many; and it is the same run.
use Rattle.std.proofs.Common.{◌≤◌, ◌-◌}
use Rattle.gdb_command.specs.Monitored.{IsTranscript}
use Rattle.replayed_run.specs.Replayed.{IsSameRun}
use Rattle.gdb_command.proofs.lines_so_far.lines_so_far.Given as goal

abbrev pub invariant-loop-replay : goal.invariant-loop-replay
invariant-loop-replay l = record {
  within : l.replay.taken ≤ l.count;
  lines : IsTranscript l.replay l.lines.items;
  same : IsSameRun l.initial.replay l.replay;
}

abbrev pub decreases-loop-replay : goal.decreases-loop-replay
decreases-loop-replay l = l.count - l.replay.taken

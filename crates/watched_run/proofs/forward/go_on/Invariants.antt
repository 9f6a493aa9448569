-- The run passed all events so far, and it is known what the bytes are that are watched.
use Rattle.std.proofs.Common.{◌≡◌, ◌-◌, length}
use Rattle.replayed_run.specs.Replayed.{IsSameRun}
use Rattle.watched_run.specs.Moves.{orders_of}
use Rattle.watched_run.specs.Stops.{HasPassed}
use Rattle.watched_run.specs.Watching.{HaveSeen}
use Rattle.watched_run.proofs.forward.go_on.Given as goal

abbrev pub invariant-loop-run : goal.invariant-loop-run
invariant-loop-run l = record {
  same : IsSameRun l.fn.run.replay l.run.replay;
  passed : HasPassed (orders_of l.goal l.fn.run) l.fn.run.replay l.run.replay;
  seen : HaveSeen l.run.replay.state.memory l.run.points.watches.items;
  told : orders_of l.goal l.run ≡ orders_of l.goal l.fn.run;
}

abbrev pub decreases-loop-run : goal.decreases-loop-run
decreases-loop-run l = length l.fn.run.replay.events - l.run.replay.taken

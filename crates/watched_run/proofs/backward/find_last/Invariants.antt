-- The last stop so far.
use Rattle.std.proofs.Common.{◌≡◌, ◌≤◌, ◌-◌}
use Rattle.replayed_run.specs.Replayed.{IsSameRun}
use Rattle.watched_run.specs.Moves.{orders_of}
use Rattle.watched_run.specs.Watching.{HaveSeen}
use Rattle.watched_run.specs.Windows.{Finds}
use Rattle.watched_run.proofs.backward.find_last.Given as goal

abbrev pub invariant-loop-run : goal.invariant-loop-run
invariant-loop-run l = record {
  same : IsSameRun l.fn.run.replay l.run.replay;
  within : l.run.replay.taken ≤ l.to;
  finds : Finds (orders_of l.goal l.fn.run) l.fn.run.replay l.run.replay l.found;
  seen : HaveSeen l.run.replay.state.memory l.run.points.watches.items;
  orders : orders_of l.goal l.run ≡ orders_of l.goal l.fn.run;
}

abbrev pub decreases-loop-run : goal.decreases-loop-run
decreases-loop-run l = l.to - l.run.replay.taken

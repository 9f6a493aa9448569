-- All events from so many on were looked through.
use Rattle.std.proofs.Common.{◌≡◌, ◌≤◌, true}
use Rattle.replayed_run.specs.Replayed.{IsSameRun}
use Rattle.watched_run.specs.Moves.{orders_of}
use Rattle.watched_run.specs.Windows.{IsLookedThrough}
use Rattle.watched_run.proofs.backward.look_back.Given as goal

abbrev pub invariant-loop-to : goal.invariant-loop-to
invariant-loop-to l = record {
  some : 1 ≤ l.window;
  same : IsSameRun l.fn.run.replay l.run.replay;
  looked : l.fn.run.replay.known ≡ true → IsLookedThrough (orders_of l.goal l.fn.run) l.to l.fn.run.replay l.run.replay;
  orders : orders_of l.goal l.run ≡ orders_of l.goal l.fn.run;
}

abbrev pub decreases-loop-to : goal.decreases-loop-to
decreases-loop-to l = l.to

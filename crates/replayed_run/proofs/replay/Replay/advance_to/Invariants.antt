-- Not too far, and the same run.
use Rattle.std.proofs.Common.{◌≤◌, ◌-◌}
use Rattle.replayed_run.specs.Replayed.{HasInputs, IsSameRun}
use Rattle.replayed_run.proofs.replay.Replay.advance_to.Given as goal

abbrev pub invariant-loop-self : goal.invariant-loop-self
invariant-loop-self l = record {
  ahead : l.self.taken ≤ l.count;
  inputs : HasInputs l.initial.self.disks l.initial.self.files l.initial.self.events l.self;
  same : IsSameRun l.initial.self l.self;
}

abbrev pub decreases-loop-self : goal.decreases-loop-self
decreases-loop-self l = l.count - l.self.taken

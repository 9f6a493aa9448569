-- What was taken and counted so far, and that the machine takes further events.
use Rattle.std.proofs.Common.{◌≡◌, ◌+◌, ◌≤◌, ℕ, false, length, List}
use Rattle.machine.specs.Printed.{Booted}
use Rattle.soak.proofs.Along.{Along}
use Rattle.workload.specs.Tallies.{Tallied}
use Rattle.xinu_base.specs.declared.events.Event.{Event}
use Rattle.soak.proofs.events.take_events.Given as goal

-- what holds before each event
pub record UnderWay (taken : ℕ) (start : Booted) (all : List Event) (here : Booted) (left : List Event) (before now : Tallied) : Type 0 where
  pub running : here.over ≡ false
  pub few : here.events + length left ≤ 1000000
  pub counted : taken + length left ≤ 1000000
  pub texts : now.texts + length left ≤ before.texts + length all
  pub along : Along taken start.state all here.state left before.counts now.counts

abbrev pub invariant-loop-event : goal.invariant-loop-event
invariant-loop-event l = UnderWay l.taken l.initial.machine l.initial.schedule l.machine l.schedule l.initial.tally l.tally

abbrev pub decreases-loop-event : goal.decreases-loop-event
decreases-loop-event l = length l.schedule

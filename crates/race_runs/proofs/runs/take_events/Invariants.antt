-- The run so far, whether something was chosen in it, and that the machine takes further events.
use Rattle.std.proofs.Common.{◌≡◌, ◌+◌, Bool, false, length, drop, List}
use Rattle.host_port.specs.Outside.{Outside}
use Rattle.host_port.specs.Printing.{Printing}
use Rattle.machine.specs.Printed.{Booted}
use Rattle.xinu_base.specs.declared.events.Event.{Event}
use Rattle.race_runs.proofs.Underway.{Taken}
use Rattle.race_runs.proofs.runs.take_events.Given as goal

-- what holds before each event
pub record UnderWay (start : Booted) (all : List Event) (here : Booted) (left : List Event) (is_quiet : Bool) (before after : Printing) (was is : Outside) : Type 0 where
  pub running : here.over ≡ false
  pub counted : here.events + length left ≡ start.events + length all
  pub taken : Taken start.state all here.state left is_quiet before after was is

abbrev pub invariant-loop-event : goal.invariant-loop-event
invariant-loop-event g l =
    UnderWay l.initial.machine l.events l.machine (drop l.event-index l.events) l.is_quiet l.initial.out l.out (g.H.Host.view l.initial.host) (g.H.Host.view l.host)

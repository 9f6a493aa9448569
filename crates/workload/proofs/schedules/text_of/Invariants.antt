-- The lines so far, and those that are left.
use Rattle.std.proofs.Common.{◌≡◌, ◌-◌, ◌*◌, ◌≤◌, ◌++◌, length}
use Rattle.workload.specs.Schedules.{events_in, text_of}
use Rattle.workload.proofs.schedules.text_of.Given as goal

abbrev pub invariant-loop : goal.invariant-loop
invariant-loop l = record {
  text : l.text.items ++ text_of (events_in (l.count - l.counter) l.draws) ≡ text_of (events_in l.count l.initial.draws);
  size : length l.text.items ≤ 10 * l.counter;
}

-- What is left to take off leaves what all leave.
use Rattle.std.proofs.Common.{◌≡◌, ◌-◌, drop}
use Rattle.schedule_file.proofs.schedules.Schedule.skip_each.Given as goal

abbrev pub invariant-loop : goal.invariant-loop
invariant-loop l = drop (l.count - l.counter) l.self ≡ drop l.count l.fn.self

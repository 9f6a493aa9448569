-- None of the addresses so far is it.
use Rattle.std.proofs.Common.{◌≡◌, drop}
use Rattle.watched_run.specs.Watching.{has}
use Rattle.watched_run.proofs.points.Points.has.Given as goal

abbrev pub invariant-loop-point : goal.invariant-loop-point
invariant-loop-point l = has (drop l.point-index l.self.addresses.items) l.address ≡ has l.self.addresses.items l.address

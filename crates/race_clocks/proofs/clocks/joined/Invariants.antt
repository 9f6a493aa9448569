-- The clocks are joined for the processes so far.
use Rattle.race_clocks.proofs.Joining.{Joined}
use Rattle.race_clocks.proofs.clocks.joined.Given as goal

abbrev pub invariant-loop-u : goal.invariant-loop-u
invariant-loop-u l = Joined l.a l.b l.both l.u

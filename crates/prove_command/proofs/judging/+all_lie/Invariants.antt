use Rattle.std.proofs.Common.{length}
use Rattle.prove_command.proofs.judging.+all_lie.Given as goal

abbrev pub decreases-all_lie : goal.decreases-all_lie
decreases-all_lie l = length l.ranges.now

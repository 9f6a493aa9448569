use Rattle.std.proofs.Common.{length}
use Rattle.prove_command.proofs.judging.+all_begin.Given as goal

abbrev pub decreases-all_begin : goal.decreases-all_begin
decreases-all_begin l = length l.images.now

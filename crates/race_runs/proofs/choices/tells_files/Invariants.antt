-- The lines that are left tell of a call on files if and only if all do.
use Rattle.std.proofs.Common.{◌≡◌, length}
use Rattle.race_runs.specs.Forced.{tells_files}
use Rattle.race_runs.proofs.choices.tells_files.Given as goal

abbrev pub invariant-loop-rest : goal.invariant-loop-rest
invariant-loop-rest l = tells_files l.rest ≡ tells_files l.text

abbrev pub decreases-loop-rest : goal.decreases-loop-rest
decreases-loop-rest l = length l.rest

use Rattle.std.proofs.Common.{◌≡◌, drop}
use Rattle.program_logic.specs.Kept.{programs_in}
use Rattle.program_logic.specs.SystemCheck.{programs_check}
use Rattle.program_logic.proofs.checking.ranges_check.Given as goal

abbrev pub invariant-loop-i : goal.invariant-loop-i
invariant-loop-i l = programs_check l.lock (programs_in l.table l.ranges) ≡ programs_check l.lock (programs_in l.table (drop l.i l.ranges))

use Rattle.std.proofs.Common.{◌≡◌, ◌++◌, drop, take}
use Rattle.program_logic.specs.Terms.{all_fixed}
use Rattle.program_logic.proofs.knowledge.all_fixed.Given as goal

abbrev pub invariant-loop-i : goal.invariant-loop-i
invariant-loop-i l = l.kept ≡ all_fixed (take l.i l.registers) ++ drop l.i l.registers

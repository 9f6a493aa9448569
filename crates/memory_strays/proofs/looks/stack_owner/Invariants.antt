-- It is in the stack of no process so far.
use Rattle.std.proofs.Common.{◌≡◌, ◌-◌}
use Rattle.memory_strays.specs.Looks.{stack_owner}
use Rattle.memory_strays.proofs.looks.stack_owner.Given as goal

abbrev pub invariant-loop-number : goal.invariant-loop-number
invariant-loop-number l = stack_owner l.tables l.address 1 63 ≡ stack_owner l.tables l.address l.number (64 - l.number)

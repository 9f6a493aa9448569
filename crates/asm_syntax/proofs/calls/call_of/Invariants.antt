-- The calls of greater numbers are left.
use Rattle.std.proofs.Common.{◌≡◌}
use Rattle.asm_syntax.specs.Values.{call_of}
use Rattle.asm_syntax.proofs.CallLemmas.{call_from}
use Rattle.asm_syntax.proofs.calls.call_of.Given as goal

abbrev pub invariant-loop-number : goal.invariant-loop-number
invariant-loop-number l = call_of l.name ≡ call_from l.number l.name

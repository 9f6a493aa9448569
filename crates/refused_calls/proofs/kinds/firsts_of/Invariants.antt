-- Those that are left decide which follow.
use Rattle.std.proofs.Common.{◌≡◌, [], drop}
use Rattle.refused_calls.specs.Kinds.{firsts_after}
use Rattle.refused_calls.proofs.kinds.firsts_of.Given as goal

abbrev pub invariant-loop-call : goal.invariant-loop-call
invariant-loop-call l = firsts_after l.firsts.items (drop l.call-index l.calls) ≡ firsts_after [] l.calls

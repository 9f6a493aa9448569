-- No byte so far is zero.
use Rattle.std.proofs.Common.{◌≡◌, ◌++◌, take, drop}
use Rattle.xinu_base.specs.Texts.{before_zero}
use Rattle.xinu_base.proofs.texts.before_zero.Given as goal

abbrev pub invariant-loop-b : goal.invariant-loop-b
invariant-loop-b l =
    (l.end ≡ l.b-index) × (before_zero l.bytes ≡ take l.b-index l.bytes ++ before_zero (drop l.b-index l.bytes))

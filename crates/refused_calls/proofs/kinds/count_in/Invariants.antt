-- Those that are left are counted too.
use Rattle.std.proofs.Common.{◌≡◌, ◌+◌, ◌≤◌, drop}
use Rattle.refused_calls.specs.Kinds.{same_kind}
use Rattle.xinu_model.specs.Sound.Tables.{times}
use Rattle.refused_calls.proofs.kinds.count_in.Given as goal

abbrev pub invariant-loop-other : goal.invariant-loop-other
invariant-loop-other l =
    (l.count + times (same_kind l.call) (drop l.other-index l.calls) ≡ times (same_kind l.call) l.calls) × (l.count ≤ l.other-index)

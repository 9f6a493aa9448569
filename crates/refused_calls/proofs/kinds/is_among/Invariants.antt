-- Those that are left decide.
use Rattle.std.proofs.Common.{◌≡◌, drop}
use Rattle.std.specs.List.{list_any}
use Rattle.refused_calls.specs.Kinds.{same_kind}
use Rattle.refused_calls.proofs.kinds.is_among.Given as goal

abbrev pub invariant-loop-other : goal.invariant-loop-other
invariant-loop-other l = list_any (same_kind l.call) (drop l.other-index l.calls) ≡ list_any (same_kind l.call) l.calls

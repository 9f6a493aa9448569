-- Those that are left are the other kinds.
use Rattle.std.proofs.Common.{◌≡◌, ◌++◌, drop, map}
use Rattle.refused_calls.specs.Kinds.{kind_in}
use Rattle.refused_calls.proofs.kinds.kinds_of.Given as goal

abbrev pub invariant-loop-first : goal.invariant-loop-first
invariant-loop-first l =
    l.kinds.items ++ map (kind_in l.calls) (drop l.first-index l.first-items) ≡ map (kind_in l.calls) l.first-items

-- Those that are left follow.
use Rattle.std.proofs.Common.{◌≡◌, ◌++◌, drop, map}
use Rattle.refused_calls.specs.Kinds.{single}
use Rattle.refused_calls.proofs.kinds.each_of.Given as goal

abbrev pub invariant-loop-first : goal.invariant-loop-first
invariant-loop-first l = l.kinds.items ++ map single (drop l.first-index l.first-items) ≡ map single l.first-items

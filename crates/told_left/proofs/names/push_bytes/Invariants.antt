-- The bytes so far are appended.
use Rattle.std.proofs.Common.{◌≡◌, ◌++◌, map, take}
use Rattle.told_left.specs.Names.{shown_byte}
use Rattle.told_left.proofs.names.push_bytes.Given as goal

abbrev pub invariant-loop-b : goal.invariant-loop-b
invariant-loop-b l = l.told.items ≡ l.initial.told.items ++ map shown_byte (take l.b-index l.name)

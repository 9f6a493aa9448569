-- The bytes so far have no entries.
use Rattle.race_entries.proofs.Bytes.{Cleared}
use Rattle.race_entries.proofs.entries.Entries.give.Given as goal

abbrev pub invariant-loop-byte : goal.invariant-loop-byte
invariant-loop-byte l = Cleared l.first l.byte l.initial.self-inside.bytes.items l.self-inside.bytes.items

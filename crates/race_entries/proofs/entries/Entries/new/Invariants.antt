-- The bytes so far have no entries.
use Rattle.race_entries.proofs.Bytes.{Empty}
use Rattle.race_entries.proofs.entries.Entries.new.Given as goal

abbrev pub invariant-loop : goal.invariant-loop
invariant-loop l = Empty l.counter l.bytes.items

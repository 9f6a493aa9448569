-- None of the entries so far is of the kind and process.
use Rattle.race_entries.proofs.Finding.{Missed}
use Rattle.race_entries.proofs.byte.ByteEntries.find.Given as goal

abbrev pub invariant-loop-entry : goal.invariant-loop-entry
invariant-loop-entry l = Missed l.stores l.process l.entry-items l.entry-index

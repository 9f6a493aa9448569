-- None of the entries so far is of the kind and process.
use Rattle.race_entries.proofs.Finding.{Unmatched}
use Rattle.race_entries.proofs.byte.ByteEntries.enter.Given as goal

abbrev pub invariant-loop-i : goal.invariant-loop-i
invariant-loop-i l =
    Unmatched l.entry.stores l.entry.process l.initial.self-inside.entries.items l.self-inside.entries.items l.i

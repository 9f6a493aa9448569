-- Something is said by now, and the lines that are left say the rest.
use Rattle.std.proofs.Common.{◌≡◌, List, length}
use Rattle.printed_runs.specs.Notes.{said_after}
use Rattle.printed_runs.specs.Semaphores.{Knows}
use Rattle.printed_runs.specs.declared.notes.Note.{Note}
use Rattle.text_lines.specs.Lines.{lines_of}
use Rattle.printed_runs.proofs.reader.note_all.Given as goal

abbrev pub invariant-loop-rest : goal.invariant-loop-rest
invariant-loop-rest l =
    (said : List Note) → Knows said l.fn.usages
    → (now : List Note) × (Knows now l.usages × (said_after (lines_of l.rest) now ≡ said_after (lines_of l.fn.text) said))

abbrev pub decreases-loop-rest : goal.decreases-loop-rest
decreases-loop-rest l = length l.rest

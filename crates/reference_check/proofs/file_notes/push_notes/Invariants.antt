use Rattle.std.proofs.Common.{◌≡◌, ◌++◌, map, drop}
use Rattle.xinu_model.specs.Files.Syscalls.{file_line}
use Rattle.reference_check.proofs.file_notes.push_notes.Given as goal

abbrev pub invariant-loop-note : goal.invariant-loop-note
invariant-loop-note l =
    l.lines.items ++ map file_line (drop l.note-index l.notes) ≡ l.fn.lines.items ++ map file_line l.notes

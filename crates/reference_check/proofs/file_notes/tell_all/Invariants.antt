use Rattle.std.proofs.Common.{◌≡◌, drop}
use Rattle.xinu_model.specs.Files.Syscalls.{all_told}
use Rattle.reference_check.proofs.file_notes.tell_all.Given as goal

abbrev pub invariant-loop-note : goal.invariant-loop-note
invariant-loop-note l = all_told (drop l.note-index l.notes) l.m ≡ all_told l.notes l.fn.m

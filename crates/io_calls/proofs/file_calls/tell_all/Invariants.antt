-- The callers of the calls of whom isn't told yet are the first who wait, and to tell of them is what is left.
use Rattle.std.proofs.Common.{◌≡◌, drop, map}
use Rattle.file_server.specs.Requests.{note_of}
use Rattle.io_calls.specs.Files.{AreTold}
use Rattle.xinu_model.specs.Files.Syscalls.{all_told}
use Rattle.io_calls.proofs.file_calls.tell_all.Given as goal

abbrev pub invariant-loop-note : goal.invariant-loop-note
invariant-loop-note l = record {
  callers : AreTold (map note_of (drop l.note-index l.notes)) l.k.call.state.tables;
  left : all_told (map note_of (drop l.note-index l.notes)) l.k.call ≡ all_told (map note_of l.notes) l.initial.k.call;
  image : l.k.image ≡ l.initial.k.image;
}

use Rattle.std.proofs.Common.{◌+◌, ◌∙◌, ap, drop, map, subst, sym}
use Rattle.file_server.specs.Requests.{note_of}
use Rattle.io_calls.proofs.FileCalls.{next_waits, notes_from, others_wait}
use Rattle.io_calls.proofs.file_calls.tell_all.Goals as goal
use Rattle.io_calls.specs.Files.{AreTold}
use Rattle.xinu_model.specs.Files.Syscalls.{all_told}
use Rattle.xinu_model.specs.Machine.{CallState}

pub tell-requires : goal.tell-requires
tell-requires c =
    let t = c.loop-note.k.call.state.tables in
    let n = c.note-item.result in
    let i = c.loop-note.note-index in
    let notes = c.args.notes.now in
    record {
      waits = next_waits (note_of n) (map note_of (drop (i + 1) notes)) t
          (subst (λ l. AreTold l t) (notes_from notes i n c.loop-note-test.true c.note-item.is) c.loop-note.invariant.callers);
    }

pub loop-note-preserved : goal.loop-note-preserved
loop-note-preserved c =
    let k = c.loop-note.k.call in
    let n = c.note-item.result in
    let i = c.loop-note.note-index in
    let notes = c.args.notes.now in
    let rest = map note_of (drop (i + 1) notes) in
    let first = notes_from notes i n c.loop-note-test.true c.note-item.is in
    record {
      callers = subst (λ (d : CallState). AreTold rest d.state.tables) (sym c.tell.ensures.told)
          (others_wait (note_of n) rest k (subst (λ l. AreTold l k.state.tables) first c.loop-note.invariant.callers));
      left = ap (all_told rest) c.tell.ensures.told ∙ sym (ap (λ l. all_told l k) first) ∙ c.loop-note.invariant.left;
      image = c.tell.ensures.image ∙ c.loop-note.invariant.image;
    }

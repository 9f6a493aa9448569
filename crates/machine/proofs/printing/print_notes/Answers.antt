use Rattle.std.proofs.Common.{List, map, subst, sym}
use Rattle.std.proofs.lemmas.List.{take_all}
use Rattle.std.proofs.lemmas.Simd.{map-map}
use Rattle.file_server.specs.Requests.{note_of}
use Rattle.file_server.specs.declared.requests.FileNote.{FileNote}
use Rattle.host_port.specs.Printing.{Prints}
use Rattle.xinu_base.specs.declared.lines.TranscriptLine.{TranscriptLine}
use Rattle.xinu_model.specs.Files.Syscalls.{file_line}
use Rattle.xinu_model.specs.Text.{shown}
use Rattle.machine.proofs.Walks.{printed_more}
use Rattle.machine.proofs.printing.print_notes.Goals as goal

pub loop-note-preserved : goal.loop-note-preserved
loop-note-preserved g c =
    printed_more (λ n. file_line (note_of n)) c.args.notes.now c.loop-note.note-index c.note-item.result _ _ _ _ _ _ c.loop-note-test.true c.note-item.is
    c.loop-note.invariant c.print_note.ensures.prints

pub returns : goal.returns
returns g c =
    let notes = c.args.notes.now in
    let P : List TranscriptLine → Type 0
    = λ l. Prints c.args.out.now c.loop-note.out (g.H.Host.view c.args.host.now) (g.H.Host.view c.loop-note.host) (shown c.args.out.now.plain l) in
    let line : FileNote → TranscriptLine = λ n. file_line (note_of n) in
    let all : P (map line notes) = subst (λ l. P (map line l)) (take_all c.loop-note.note-index notes c.loop-note-test.false) c.loop-note.invariant in
    record { prints = subst P (sym (map-map file_line note_of notes)) all }

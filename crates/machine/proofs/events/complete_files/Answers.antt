use Rattle.std.proofs.Common.{ℕ, List, [], ap, map, subst, sym}
use Rattle.file_server.specs.Requests.{note_of}
use Rattle.file_server.specs.declared.requests.FileNote.{FileNote}
use Rattle.host_port.specs.Printing.{Prints}
use Rattle.local_files.specs.Resting.{ServesDisk}
use Rattle.xinu_model.specs.Files.Syscalls.{file_line, files_of}
use Rattle.xinu_model.specs.Machine.{end_of_event}
use Rattle.xinu_model.specs.Text.{shown}
use Rattle.machine.proofs.Closing.{effect_as, lines_printed}
use Rattle.machine.proofs.FilesDone.{files_chosen}
use Rattle.machine.proofs.events.complete_files.Goals as goal

pub returns : goal.returns
returns g c =
    let s = c.args.kernel.now.came.call.state in
    let result = c.on_files-notes.new.self.came in
    let notes = map note_of c.on_files-notes.result.items in
    let e = ap (λ (n : ℕ). end_of_event n [] result) c.current-current.ensures.current in
    let P : List FileNote → Type 0
    = λ l. Prints c.args.out.now c.print_notes.new.out (g.H.Host.view c.args.host.now) (g.H.Host.view c.print_notes.new.host) (shown c.args.out.now.plain (map file_line (map note_of l))) in
    record {
      effect = files_chosen s c.end_event.new.kernel.came.call.state notes result c.end_event.result _ _ _ _ c.on_files-notes.ensures.completes
          (lines_printed s.tables.current (map file_line notes) result _ _ _ _ _ _ _ _ (subst P c.as_slice.ensures.value c.print_notes.ensures.prints)
          (effect_as _ _ _ _ _ _ _ _ e c.end_event.ensures.effect));
      idle = c.end_event.ensures.idle;
      sound = c.end_event.ensures.sound;
      image = subst (ServesDisk (files_of s) c.args.kernel.now.image) (sym c.end_event.ensures.image) c.on_files-notes.ensures.image;
    }

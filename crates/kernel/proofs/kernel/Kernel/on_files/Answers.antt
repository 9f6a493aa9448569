use Rattle.std.proofs.Common.{map, subst}
use Rattle.file_server.specs.Requests.{note_of}
use Rattle.io_calls.specs.Files.{CompletesFiles}
use Rattle.part_laws.specs.Preserve.{KeepsAll}
use Rattle.xinu_model.specs.Machine.{CallResult, Silent}
use Rattle.kernel.proofs.Kept.{completed_keeps, idle_sound}
use Rattle.kernel.proofs.Values.{came_is}
use Rattle.kernel.proofs.kernel.Kernel.on_files.Goals as goal

pub invariant_of-self : goal.invariant_of-self
invariant_of-self c =
    let h = c.args.self.now.came in
    let notes = map note_of c.on_files-notes.result.items in
    let result : CallResult = record { call = c.on_files-notes.new.k.call; answer = Silent } in
    let old : KeepsAll h = subst KeepsAll (came_is c.self.view_is) c.self.invariant.keeps in
    let P : CallResult → Type 0 = λ h. CompletesFiles h.call.state notes result in
    let is : CompletesFiles h.call.state notes result = subst P (came_is c.self.view_is) c.on_files-notes.ensures.completes in
    record { keeps = completed_keeps h.call.state notes result is (idle_sound h c.requires.idle old) }

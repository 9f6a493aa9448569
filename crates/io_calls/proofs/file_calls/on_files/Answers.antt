use Rattle.std.proofs.Common.{ℕ, List, map, refl, subst, sym}
use Rattle.file_server.specs.Requests.{note_of}
use Rattle.io_calls.proofs.FileCalls.{completed_told, stays}
use Rattle.local_files.specs.Resting.{ServesDisk}
use Rattle.kernel_state.proofs.Values.{call_is}
use Rattle.io_calls.proofs.file_calls.on_files.Goals as goal
use Rattle.io_calls.specs.Files.{AreTold}
use Rattle.kernel_state.specs.States.{kernel_state}
use Rattle.kernel_state.specs.Values.{KernelValue}
use Rattle.xinu_model.specs.Files.Syscalls.{files_of}
use Rattle.xinu_model.specs.Machine.{CallState}
use Rattle.xinu_model.specs.Sound.Disks.{IsFileDisk}
use Rattle.xinu_model.specs.Sound.Tables.{IsSoundTables}

pub tell_all-requires : goal.tell_all-requires
tell_all-requires c =
    let k = kernel_state c.k.inside in
    let t = k.state.tables in
    record {
      callers = subst (λ notes. AreTold (map note_of notes) t) (sym c.as_slice.ensures.value)
          (completed_told t (files_of k.state) k.state.memory _
          (subst (λ (d : CallState). IsSoundTables d.state.tables) (sym (call_is c.k.view_is)) c.requires.sound)
          (subst (λ (d : CallState). IsFileDisk d.state.tables (files_of d.state)) (sym (call_is c.k.view_is)) c.requires.files) c.complete-notes.ensures.completed);
    }

pub returns-then-not-are_calls-clause-image : goal.returns-then-not-are_calls-clause-image
returns-then-not-are_calls-clause-image c = stays _ refl

pub returns-clause-image : goal.returns-clause-image
returns-clause-image c =
    let P : List ℕ → Type 0 = λ x. ServesDisk c.k.inside.files.work c.k.inside.files.image x in
    let Q : KernelValue → Type 0 = λ v. ServesDisk (files_of v.call.state) v.image c.tell_all.new.k.image in
    subst Q c.k.view_is (subst P (sym c.tell_all.ensures.image) c.complete-notes.ensures.image)

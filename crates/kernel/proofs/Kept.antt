-- What holds of a kernel between two events and inside one.
use Rattle.std.proofs.Common.{◌≡◌, ◌≢◌, ℕ, Bool, Option, None, Some, List, [], refl, sym, subst}
use Rattle.std.specs.List.{AllByRecursion}
use Rattle.io_calls.specs.Consoles.{after_sending}
use Rattle.io_calls.specs.Disks.{after_completing}
use Rattle.io_calls.specs.Files.{CompletesFiles}
use Rattle.xinu_laws.proofs.Consoles.Kept.{sound_holds}
use Rattle.xinu_laws.proofs.Preserve.Events.{may_call, may_call_after, sending_keeps, served_keeps_all, state_end_of_event}
use Rattle.xinu_laws.proofs.RawDisks.Completed.{served_completes}
use Rattle.xinu_laws.proofs.RawDisks.Framed.{disks_in, with_disks}
use Rattle.xinu_laws.proofs.FileSyscalls.AtOnce.{at_once_keeps}
use Rattle.xinu_laws.proofs.FileSyscalls.Completed.{step_completes}
use Rattle.xinu_laws.proofs.Touches.Kept.{keeps_console, keeps_names, keeps_pools, keeps_ports, keeps_unused, keeps_heap}
use Rattle.xinu_model.specs.Files.Calls.{FileCall}
use Rattle.xinu_model.specs.Files.Sound.{IsFileRequest}
use Rattle.xinu_model.specs.Files.Syscalls.{awaits_files, files_of, request_for}
use Rattle.xinu_model.specs.Files.Work.{FileNote, FileRequest, queued_after}
use Rattle.xinu_model.specs.Console.Taking.{console_of}
use Rattle.xinu_model.specs.Console.Transmitting.{Sent, transmitted}
use Rattle.xinu_model.specs.RawDisk.Calls.{after_served, disk_of}
use Rattle.xinu_model.specs.RawDisk.Completions.{raw_completed, Served}
use Rattle.xinu_model.specs.Machine.{CallResult, current_hart, end_of_event, Silent, Xinu}
use Rattle.kernel_state.specs.Beginnings.{BeginsAs}
use Rattle.kernel_state.specs.Results.{idle, IsIdle}
use Rattle.kernel_state.specs.declared.begun.Begun.{Begun}
use Rattle.kernel_state.specs.declared.begun.Begun.TheVariants.{ByRow, AtOnce}
use Rattle.part_laws.specs.Preserve.{KeepsAll, MayCallAny}
use Rattle.xinu_model.specs.Events.{with_executed}
use Rattle.xinu_model.specs.Isa.Exec.{exec}
use Rattle.xinu_model.specs.Sound.State.{IsSound}

-- a sound state is kept while no event is under way
pub kept_idle : (s : Xinu) → IsSound s → KeepsAll (idle s)
kept_idle s k = record { preserved = record { tables = k.tables; harts = k.harts; released = tt }; unused = k.unused; pools = k.pools; ports = k.ports; devices = k.devices; ram = k.ram }

-- and it is sound then
pub idle_sound : (h : CallResult) → IsIdle h → KeepsAll h → IsSound h.call.state
idle_sound h i k =
    let j : KeepsAll (idle h.call.state) = subst KeepsAll i.is k in
    record { tables = j.preserved.tables; harts = j.preserved.harts; unused = j.unused; pools = j.pools; ports = j.ports; devices = j.devices; ram = j.ram }

-- a process that isn't the null process may call
pub idle_may_call : (h : CallResult) → IsIdle h → KeepsAll h → h.call.state.tables.current ≢ 0 → MayCallAny h.call.state
idle_may_call h i k n = may_call h.call.state (idle_sound h i k) n

-- after an instruction the state is sound
pub executed_sound : (s : Xinu) → MayCallAny s → IsSound (with_executed (exec (current_hart s) s.memory) s)
executed_sound s m = let c = may_call_after s m in record { tables = c.may.tables; harts = c.may.harts; unused = c.unused; pools = c.pools; ports = c.ports; devices = c.devices; ram = c.ram }

-- and so is it after an event
pub closed_kept : (h : CallResult) → KeepsAll h → KeepsAll (idle (end_of_event 0 [] h).state)
closed_kept h k = kept_idle (end_of_event 0 [] h).state (state_end_of_event 0 [] h k)

-- What a transmission leaves keeps all, whether a byte is sent or not.
pub after_sending_keeps : (found : Option Sent) (s : Xinu) → transmitted (console_of s) ≡ found → IsSound s
    → KeepsAll (record { call = after_sending found s; answer = Silent })
after_sending_keeps None s e k = kept_idle s k
after_sending_keeps (Some sent) s e k = sending_keeps sent s e k

-- So does what a completion of the raw disk leaves, whether a request waits or not.
pub after_completing_keeps : (good : Bool) (found : Option Served) (s : Xinu) → raw_completed good (disk_of s) ≡ found → IsSound s
    → KeepsAll (record { call = after_completing found s; answer = Silent })
after_completing_keeps good None s e k = kept_idle s k
after_completing_keeps good (Some x) s e k =
    served_keeps_all s (after_served x s) k (served_completes good x s e (sound_holds s k) (disks_in k.devices))

-- the one call that is made can be carried out, if it could wait
made_can : (call : FileCall) (at : ℕ) (s : Xinu) → (files_of s).calls ≡ [] → KeepsAll (awaits_files call at s) → IsFileRequest (request_for call at s)
made_can call at s alone waits =
    let a = request_for call at s in
    (subst (λ (l : List FileRequest). AllByRecursion IsFileRequest (queued_after l a s.memory (files_of s)).calls) alone waits.devices.files.itself.calls).0

-- A call that began keeps all if what its row does keeps it.
pub begun_keeps : (b : Begun) (row : CallResult) (s : Xinu) (result : CallResult) → BeginsAs b row s result → MayCallAny s → KeepsAll row
    → KeepsAll result
begun_keeps (ByRow next) row s result is may keeps = subst KeepsAll (sym is) keeps
begun_keeps (AtOnce reply) row s result is may keeps =
    subst KeepsAll (sym is.effect)
    (at_once_keeps (request_for is.call is.at s) s may is.alone refl
    (made_can is.call is.at s is.alone (subst KeepsAll is.waits keeps)))

-- And so does what a good completion of the disk with files leaves.
pub completed_keeps : (s : Xinu) (notes : List FileNote) (result : CallResult) → CompletesFiles s notes result → IsSound s → KeepsAll result
completed_keeps s notes result c k =
    let r = step_completes c.effects s c.least (sound_holds s k) (disks_in k.devices) in
    subst KeepsAll (sym c.is) (record {
      preserved = record { tables = r.tables; harts = r.harts; released = r.released };
      unused = keeps_unused (r.touches.free refl) k.unused;
      pools = keeps_pools refl r.touches k.pools;
      ports = keeps_ports refl r.touches r.tables.inside k.ports;
      devices = with_disks (keeps_console refl r.touches r.tables.inside k.devices.console) (keeps_names refl r.touches k.devices.names) r.disks;
      ram = record { bytes = r.ram k.ram.bytes; heap = keeps_heap r.touches.parts.extent k.ram.heap };
    })

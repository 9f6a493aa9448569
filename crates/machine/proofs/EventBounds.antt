-- In an event the clock goes on by one tick at most, and the number of a port rises by one at most.
use Rattle.std.proofs.Common.{◌≡◌, ◌∙◌, ℕ, ◌+◌, ◌≤◌, Bool, true, false, List, [], ◌∷◌, refl, subst, arith}
use Rattle.host_port.specs.Outside.{Outside}
use Rattle.host_port.specs.Printing.{Printing}
use Rattle.machine.specs.FileEffects.{ChosenPrints}
use Rattle.xinu_base.specs.declared.events.Event.{Event}
use Rattle.xinu_base.specs.declared.events.Event.TheVariants.{Step, Tick, Key, Tx, Disk0, Disk1, Fail0, Fail1, Dump}
use Rattle.xinu_laws.proofs.FileSyscalls.AtOnce.{step_holds}
use Rattle.event_laws.proofs.Rises.ClockEvents.{ticks_keyed, ticks_stepped, ticks_ticked, ticks_transmits, closed_ticks}
use Rattle.event_laws.proofs.Rises.PortEvents.{RisesOnce, keyed_once, stepped_once, ticked_once, transmits_once, stays_once}
use Rattle.xinu_model.specs.Events.{effect_of, next_file_call, step_at_once, with_executed}
use Rattle.xinu_model.specs.Files.Syscalls.{at_once, completed_in, completing, files_of, file_step, with_step}
use Rattle.xinu_model.specs.Files.Work.{calls_completed, FileRequest, least_effects}
use Rattle.xinu_model.specs.Isa.Exec.{exec}
use Rattle.xinu_model.specs.Machine.{current_hart, EventResult, start, Xinu}
use Rattle.xinu_model.specs.RawDisk.Calls.{disk_of}
use Rattle.xinu_model.specs.RawDisk.Completions.{raw_completed}
use Rattle.xinu_model.specs.Sound.State.{IsSound}
use Rattle.machine.proofs.Completions.{completion_once, completion_ticks}
use Rattle.machine.proofs.FilesDone.{told_ports, told_ticks}

-- a step in which a call on files takes effect as it is made
at_once_ticks : (a : FileRequest) (s : Xinu) → (step_at_once a s).state.tables.ticks ≡ s.tables.ticks
at_once_ticks a s = closed_ticks (at_once a (with_executed (exec (current_hart s) s.memory) s))

-- a good completion of the files' disk
done_ticks : (calls : List FileRequest) (choice : ℕ) (s : Xinu) → (completed_in calls choice s).state.tables.ticks ≡ s.tables.ticks
done_ticks [] choice s = refl
done_ticks (a ∷ calls) choice s =
    let x = calls_completed (least_effects (a ∷ calls) (files_of s) + choice) (file_step s) in
    closed_ticks (completing x s) ∙ told_ticks x.notes (start (with_step x s))

done_ports : (calls : List FileRequest) (choice : ℕ) (s : Xinu) → (completed_in calls choice s).state.parts.ports ≡ s.parts.ports
done_ports [] choice s = refl
done_ports (a ∷ calls) choice s =
    let x = calls_completed (least_effects (a ∷ calls) (files_of s) + choice) (file_step s) in told_ports x.notes (start (with_step x s))

event_ticks : (s : Xinu) (e : Event) (choice : ℕ) → IsSound s → (effect_of s e choice).state.tables.ticks ≤ s.tables.ticks + 1
event_ticks s Step choice k =
    step_holds (λ (x : EventResult). x.state.tables.ticks ≤ s.tables.ticks + 1) choice (next_file_call s) s
    (let e = ticks_stepped s k in omega (arith, e)) (λ a. let e = at_once_ticks a s in omega (arith, e))
event_ticks s Tick choice k = (let e = ticks_ticked s in omega (arith, e))
event_ticks s (Key b) choice k = (let e = ticks_keyed b s k in omega (arith, e))
event_ticks s Tx choice k = (let e = ticks_transmits s k in omega (arith, e))
event_ticks s Disk0 choice k = (let e = completion_ticks (raw_completed true (disk_of s)) s in omega (arith, e))
event_ticks s Fail0 choice k = (let e = completion_ticks (raw_completed false (disk_of s)) s in omega (arith, e))
event_ticks s Disk1 choice k = (let e = done_ticks (files_of s).calls choice s in omega (arith, e))
event_ticks s Fail1 choice k = omega arith
event_ticks s Dump choice k = omega arith

event_once : (s : Xinu) (e : Event) (choice : ℕ) → IsSound s → RisesOnce s (effect_of s e choice).state
event_once s Step choice k =
    step_holds (λ (x : EventResult). RisesOnce s x.state) choice (next_file_call s) s (stepped_once s k) (λ a. stays_once s (step_at_once a s).state refl)
event_once s Tick choice k = ticked_once s k
event_once s (Key b) choice k = keyed_once b s k
event_once s Tx choice k = transmits_once s k
event_once s Disk0 choice k = completion_once (raw_completed true (disk_of s)) s
event_once s Fail0 choice k = completion_once (raw_completed false (disk_of s)) s
event_once s Disk1 choice k = stays_once s (effect_of s Disk1 choice).state (done_ports (files_of s).calls choice s)
event_once s Fail1 choice k = stays_once s s refl
event_once s Dump choice k = stays_once s s refl

-- The clock goes on by one tick at most.
pub chosen_ticks : (old new : Xinu) (e : Event) (panics : Bool) (a b : Printing) (h i : Outside) → IsSound old → ChosenPrints old e new panics a b h i
    → new.tables.ticks ≤ old.tables.ticks + 1
chosen_ticks old new e panics a b h i sound k =
    subst (λ (s : Xinu). s.tables.ticks ≤ old.tables.ticks + 1) k.prints.state (event_ticks old e k.choice sound)

-- A port's number rises by one at most.
pub chosen_once : (old new : Xinu) (e : Event) (panics : Bool) (a b : Printing) (h i : Outside) → IsSound old → ChosenPrints old e new panics a b h i
    → RisesOnce old new
chosen_once old new e panics a b h i sound k = subst (RisesOnce old) k.prints.state (event_once old e k.choice sound)

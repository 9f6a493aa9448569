-- Each event leaves the heap where it begins, with as many cells as it has.
use Rattle.std.proofs.Common.{◌∷◌, [], ◌+◌, ◌≡◌, refl, false, ℕ, ◌==◌, Bool, true, cond, List, Option, Some, None, ap, subst}
use Rattle.std.proofs.lemmas.Bool.{cond_both, eqb-false}
use Rattle.xinu_base.specs.declared.events.Event.{Event}
use Rattle.xinu_base.specs.declared.events.Event.TheVariants.{Step, Tick, Key, Tx, Disk0, Disk1, Fail0}
use Rattle.xinu_base.specs.declared.lines.TranscriptLine.{TranscriptLine}
use Rattle.xinu_base.specs.declared.registers.Outcome.{Outcome}
use Rattle.xinu_base.specs.declared.registers.Outcome.TheVariants as outcome
use Rattle.xinu_model.specs.Calls.{calls, continued}
use Rattle.xinu_model.specs.Clock.{ticked}
use Rattle.xinu_model.specs.Console.Signals.{sent_in}
use Rattle.xinu_model.specs.Console.Taking.{console_of}
use Rattle.xinu_model.specs.Console.Transmitting.{Sent, transmitted}
use Rattle.xinu_model.specs.Events.{call_of, with_executed, reacted, instruction_step, is_done, stepped, next_file_call, effect_of, Happens}
use Rattle.xinu_laws.proofs.FileSyscalls.AtOnce.{step_holds}
use Rattle.xinu_laws.proofs.FileSyscalls.Completed.{step_completes}
use Rattle.xinu_model.specs.Files.Syscalls.{completed_in, files_of}
use Rattle.xinu_model.specs.Files.Work.{FileRequest, least_effects}
use Rattle.event_laws.specs.Ownership.GivingAway.{next}
use Rattle.xinu_model.specs.Machine.{Xinu, current_hart, EventResult, nothing_happens, end_of_event}
use Rattle.xinu_model.specs.RawDisk.Calls.{disk_of, served_in}
use Rattle.xinu_model.specs.RawDisk.Completions.{Served, raw_completed}
use Rattle.xinu_model.specs.Sound.State.{IsSound}
use Rattle.xinu_model.specs.Tables.{process_at}
use Rattle.xinu_laws.specs.Touches.{at_a_tick, Touches}
use Rattle.part_laws.specs.FreeCells.{HasSameExtent}
use Rattle.xinu_laws.proofs.Consoles.Kept.{sound_holds}
use Rattle.xinu_laws.proofs.Consoles.Signalled.{receiving_signals, sending_signals}
use Rattle.part_laws.proofs.HeapCells.Extent.{same_extent}
use Rattle.xinu_laws.proofs.Preserve.Calls.{sound_where_called}
use Rattle.xinu_laws.proofs.Preserve.Events.{least_chosen, may_call, may_call_after}
use Rattle.xinu_laws.proofs.RawDisks.Completed.{served_completes}
use Rattle.xinu_laws.proofs.RawDisks.Framed.{disks_in}
use Rattle.xinu_laws.proofs.Touches.Continued.{continued_touches}
use Rattle.xinu_laws.proofs.Touches.Events.{touches_ticked}
use Rattle.xinu_laws.proofs.Touches.Processes.{exit_touches}
use Rattle.xinu_laws.proofs.Touches.Few.{IsLawOfFew, law_of_few}

-- the heap of s and that of u have the same extent
abbrev HaveSameExtent : Xinu → Xinu → Type 0
HaveSameExtent s u = HasSameExtent s.parts.heap u.parts.heap

-- each call keeps it: no footprint names the extent
extent_law : IsLawOfFew (λ f. false) (λ number s u. HaveSameExtent s u)
unfolding calls
extent_law = record { same = λ number s. same_extent s.parts.heap; others = λ number f s u e t. t.parts.extent; few = tt }

-- what comes of an instruction
extent_reacted : (o : Outcome) (s : Xinu) → IsSound s → HaveSameExtent s (reacted o s).state
extent_reacted outcome.Went s k = same_extent s.parts.heap
extent_reacted outcome.Call s k = let call = call_of (current_hart s) in law_of_few extent_law call.number call.args s k
extent_reacted outcome.Exit s k = (exit_touches s k).parts.extent
extent_reacted (outcome.Trap cause) s k = (exit_touches s k).parts.extent

-- a machine step
extent_stepped : (s : Xinu) → IsSound s → HaveSameExtent s (stepped s).state
extent_stepped s k =
    let left = (process_at s.tables s.tables.current).rest in
    let goes_on = end_of_event s.tables.current [] (continued left s) in
    cond_both (s.tables.current == 0) (nothing_happens s) (cond (is_done left) (instruction_step s) goes_on)
    (λ (e : EventResult). HaveSameExtent s e.state)
    (λ _. same_extent s.parts.heap)
    (λ b. let c = may_call s k (eqb-false s.tables.current 0 b) in
    cond_both (is_done left) (instruction_step s) goes_on (λ (e : EventResult). HaveSameExtent s e.state)
    (λ _. let u = with_executed (next s) s in extent_reacted (next s).outcome u (sound_where_called u (may_call_after s c)))
    (λ _. (continued_touches left s k).parts.extent))

-- a transmission
extent_sent : (found : Option Sent) (s : Xinu) → transmitted (console_of s) ≡ found → IsSound s → HaveSameExtent s (sent_in found s).state
extent_sent None s e k = same_extent s.parts.heap
extent_sent (Some sent) s e k = (sending_signals sent s e (sound_holds s k)).touches.parts.extent

-- a completion of the raw disk
extent_served : (good : Bool) (found : Option Served) (s : Xinu) → raw_completed good (disk_of s) ≡ found → IsSound s
    → HaveSameExtent s (served_in found s).state
extent_served good None s e k = same_extent s.parts.heap
extent_served good (Some x) s e k = (served_completes good x s e (sound_holds s k) (disks_in k.devices)).touches.parts.extent

-- a good completion of the files' disk
extent_called : (calls : List FileRequest) (choice : ℕ) (s : Xinu) → (files_of s).calls ≡ calls → IsSound s
    → HaveSameExtent s (completed_in calls choice s).state
extent_called [] choice s e k = same_extent s.parts.heap
extent_called (a ∷ calls) choice s e k =
    (step_completes (least_effects (a ∷ calls) (files_of s) + choice) s (least_chosen (a ∷ calls) choice s e) (sound_holds s k)
    (disks_in k.devices)).touches.parts.extent

-- what an event leaves, whatever is chosen in it
extent_effect_of : (s : Xinu) (e : Event) (choice : ℕ) → IsSound s → HaveSameExtent s (effect_of s e choice).state
extent_effect_of s Step choice k =
    step_holds (λ (x : EventResult). HaveSameExtent s x.state) choice (next_file_call s) s (extent_stepped s k)
    (λ a. same_extent s.parts.heap)
extent_effect_of s Tick choice k = let touches : Touches at_a_tick s (ticked s).state = touches_ticked {f = at_a_tick} refl s k.tables in touches.parts.extent
extent_effect_of s (Key b) choice k = (receiving_signals b s (sound_holds s k)).touches.parts.extent
extent_effect_of s Tx choice k = extent_sent (transmitted (console_of s)) s refl k
extent_effect_of s Disk0 choice k = extent_served true (raw_completed true (disk_of s)) s refl k
extent_effect_of s Fail0 choice k = extent_served false (raw_completed false (disk_of s)) s refl k
extent_effect_of s Disk1 choice k = extent_called (files_of s).calls choice s refl k
extent_effect_of s _ choice k = same_extent s.parts.heap

-- Each event leaves the heap where it begins, with as many cells as it has.
pub extent_happens : (old : Xinu) (e : Event) (lines : List TranscriptLine) (new : Xinu) → IsSound old → Happens old e lines new
    → HasSameExtent old.parts.heap new.parts.heap
extent_happens old e lines new k h =
    subst (HaveSameExtent old) (ap (λ (x : EventResult). x.state) h.effect) (extent_effect_of old e h.choice k)

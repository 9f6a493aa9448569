-- Each event keeps a predicate that is closed under the moves of calls, if a resched at its end and a tick do.
use Rattle.std.proofs.Common.{◌≡◌, ℕ, zero, suc, ◌+◌, ◌==◌, Bool, true, false, cond, ◌||◌, List, [], ◌∷◌, ◌++◌, Option, Some, None, refl, sym, ap, subst, ◌∙◌, arith, ℤ}
use Rattle.std.proofs.lemmas.Bool.{cond_both, eqb-false}
use Rattle.xinu_model.specs.Calls.{called, continued}
use Rattle.xinu_model.specs.Console.Taking.{console_of, with_console}
use Rattle.xinu_model.specs.Machine.{Xinu, CallState, CallResult, start}
use Rattle.xinu_model.specs.Process.Death.{exit}
use Rattle.xinu_model.specs.RawDisk.Calls.{with_disk}
use Rattle.xinu_model.specs.Semaphores.Waiting.{signalled}
use Rattle.xinu_model.specs.Sound.Tables.{IsInside, IsSoundTables}
use Rattle.xinu_model.specs.Tables.{Tables, process_at, semaphore_at}
use Rattle.scheduling_laws.proofs.Kernels.{HaveKernels, all_kernels}
use Rattle.scheduling_laws.proofs.Moves.{Anyone, Goes, Inside, Settled, IsClosed, MayDo}
use Rattle.scheduling_laws.specs.Moments.{call_in, first_call}
use Rattle.xinu_base.specs.declared.syscalls.Call.{Call}
use Rattle.std.specs.Prelude.{is_some}
use Rattle.xinu_base.specs.declared.events.End.{End}
use Rattle.xinu_base.specs.declared.events.Event.{Event}
use Rattle.xinu_base.specs.declared.events.Event.TheVariants.{Step, Tick, Key, Tx, Disk0, Disk1, Fail0}
use Rattle.xinu_base.specs.declared.lines.TranscriptLine.{TranscriptLine}
use Rattle.xinu_base.specs.declared.registers.Outcome.{Outcome}
use Rattle.xinu_base.specs.declared.registers.Outcome.TheVariants as outcome
use Rattle.xinu_model.specs.Clock.{ticked}
use Rattle.xinu_model.specs.Console.Receiving.{received}
use Rattle.xinu_model.specs.Console.Signals.{receiving, keyed, sending, sent_in}
use Rattle.xinu_model.specs.Console.Transmitting.{Sent, transmitted}
use Rattle.xinu_model.specs.Events.{call_of, with_executed, reacted, is_done, instruction_step, stepped, next_file_call, step_at_once, step_with, effect_of, Happens}
use Rattle.xinu_model.specs.Files.Syscalls.{files_of, file_step, with_step, told, all_told, completing, completed_in, at_once, answer_kept, answer_told}
use Rattle.xinu_model.specs.Files.Work.{copied, FileNote, FileRequest, calls_completed, callers_waiting, least_effects, issued}
use Rattle.xinu_model.specs.Isa.Exec.{exec}
use Rattle.xinu_model.specs.Machine.{EventResult, current_hart, nothing_happens, end_of_event, is_off}
use Rattle.xinu_model.specs.Process.Scheduling.{resched}
use Rattle.xinu_model.specs.RawDisk.Calls.{disk_of, reply_kept, keep_reply, after_served, serving, served_in}
use Rattle.xinu_model.specs.RawDisk.Completions.{Served, raw_completed}
use Rattle.xinu_model.specs.Runs.{RunsTo}
use Rattle.xinu_model.specs.Sound.State.{IsSound}
use Rattle.xinu_model.specs.RawDisk.Callers.{living, callers}
use Rattle.xinu_model.specs.RawDisk.Requests.{requesters}
use Rattle.part_laws.proofs.RawDisks.Served.{serves_first}
use Rattle.part_laws.specs.FileWork.{caller_first, callers_told}
use Rattle.part_laws.specs.Preserve.{KeepsAll, MayCallAny}
use Rattle.xinu_laws.proofs.Consoles.Kept.{sound_holds}
use Rattle.xinu_laws.proofs.FileSyscalls.AtOnce.{next_is, next_can, not_null_makes, at_once_keeps}
use Rattle.xinu_laws.proofs.FileSyscalls.Completed.{told_living, told_and_left}
use Rattle.xinu_laws.proofs.Preserve.Calls.{inside_preserved, called_keeps, exit_keeps, continued_keeps}
use Rattle.xinu_laws.proofs.Preserve.Events.{may_call, may_call_after, least_chosen, receiving_keeps, sending_keeps, served_keeps_all, completing_keeps, state_stepped, sound_happens}
use Rattle.xinu_laws.proofs.Preserve.Runs.{runs_keep}
use Rattle.xinu_laws.proofs.RawDisks.Completed.{served_completes}
use Rattle.xinu_laws.proofs.RawDisks.Framed.{disks_in}
use Rattle.xinu_laws.proofs.RawDisks.Moves.{first_replied}
use Rattle.scheduling_laws.proofs.Passes.Calls.{called_settles, continued_settles}
use Rattle.scheduling_laws.proofs.Passes.Steps.{inside_signalled, inside_signalled_times}
use Rattle.scheduling_laws.proofs.Passes.TableCalls.{exit_settles}

-- What a predicate on tables that is closed under the moves comes to as an event ends, if nothing happens in it, and in a tick.
pub record IsCarried (May Touch : ℕ → Type 0) (Begins : Tables → Type 0) (Holds : Tables → Bool → Type 0) (Ends : Tables → Type 0) : Type 0 where
  pub moves : IsClosed May Touch Begins Holds
  pub stays : (t : Tables) → Begins t → Ends t
  pub ends : (t : Tables) → IsInside t → Holds t false → Ends t
  pub rescheds : (t : Tables) → IsInside t → Holds t true → Ends (resched t)
  pub ticks : (s : Xinu) → IsSoundTables s.tables → Begins s.tables → Ends (ticked s).state.tables

-- either of two tests passes in either order
either_order : (a b : Bool) → a || b ≡ b || a
either_order true true = refl
either_order true false = refl
either_order false true = refl
either_order false false = refl

-- any call may be made
any_may : (made : Option Call) → MayDo Anyone Anyone made
any_may None = tt
any_may (Some call) = (λ e. tt, λ e. tt)

module _ {May Touch : ℕ → Type 0} {Begins : Tables → Type 0} {Holds : Tables → Bool → Type 0} {Ends : Tables → Type 0}
    (k : IsCarried May Touch Begins Holds Ends) where
  -- the end of an event
  carried_end : (h : CallResult) → KeepsAll h → Settled Holds h → (was : ℕ) (first : List TranscriptLine)
      → Ends (end_of_event was first h).state.tables
  carried_end h c settled was first =
      let t = h.call.state.tables in
      let due = h.call.owes_resched || is_off h.answer in
      let o = inside_preserved h c.preserved in
      let held : Holds t due = subst (Holds t) (either_order (is_off h.answer) h.call.owes_resched) settled in
      cond_both due (resched t) t Ends (λ e. k.rescheds t o (subst (Holds t) e held)) (λ e. k.ends t o (subst (Holds t) e held))

  -- what comes of an instruction
  carried_reacted : (o : Outcome) (s : Xinu) → MayCallAny s → HaveKernels Touch s.parts → Begins s.tables → MayDo May Touch (first_call (reacted o s).lines)
      → Ends (reacted o s).state.tables
  carried_reacted outcome.Went s c o b may = k.stays s.tables b
  carried_reacted outcome.Call s c o b may =
      let call = call_of (current_hart s) in
      carried_end (called call.number call.args s) (called_keeps call.number call.args s c)
      (called_settles k.moves call.number call.args s c.may.tables o b may) s.tables.current []
  carried_reacted outcome.Exit s c o b may =
      carried_end (exit s) (exit_keeps s c) (exit_settles k.moves s (k.moves.begins s.tables b)) s.tables.current []
  carried_reacted (outcome.Trap cause) s c o b may =
      carried_end (exit s) (exit_keeps s c) (exit_settles k.moves s (k.moves.begins s.tables b)) s.tables.current []

  -- a machine step
  carried_stepped : (s : Xinu) → IsSound s → HaveKernels Touch s.parts → Begins s.tables → MayDo May Touch (first_call (stepped s).lines) → Ends (stepped s).state.tables
  carried_stepped s c o b =
      let left = (process_at s.tables s.tables.current).rest in
      let did = exec (current_hart s) s.memory in
      let goes_on = end_of_event s.tables.current [] (continued left s) in
      cond_both (s.tables.current == 0) (nothing_happens s) (cond (is_done left) (instruction_step s) goes_on)
      (λ (e : EventResult). MayDo May Touch (first_call e.lines) → Ends e.state.tables) (λ _ _. k.stays s.tables b)
      (λ e. let may = may_call s c (eqb-false s.tables.current 0 e) in
      cond_both (is_done left) (instruction_step s) goes_on (λ (e : EventResult). MayDo May Touch (first_call e.lines) → Ends e.state.tables)
      (λ _. carried_reacted did.outcome (with_executed did s) (may_call_after s may) o b)
      (λ _ _. carried_end (continued left s) (continued_keeps s may) (continued_settles k.moves left s c.tables o b) s.tables.current []))

  -- a received character
  carried_keyed : (c : ℕ) (s : Xinu) → IsSound s → HaveKernels Touch s.parts → Begins s.tables → Ends (keyed c s).state.tables
  carried_keyed c s sound o b =
      let m = received c (console_of s) in
      carried_end (receiving c s) (receiving_keeps c s sound)
      (inside_signalled_times k.moves 0 m.count (record (start s) { state = with_console m.console s })
      (o.devices 0 (omega arith)) (k.moves.begins s.tables b)) s.tables.current []

  -- a byte that is sent
  carried_sent : (found : Option Sent) (s : Xinu) → transmitted (console_of s) ≡ found → IsSound s → HaveKernels Touch s.parts → Begins s.tables
      → Ends (sent_in found s).state.tables
  carried_sent None s e sound o b = k.stays s.tables b
  carried_sent (Some sent) s e sound o b =
      let d = start (with_console sent.console s) in
      let h = k.moves.begins s.tables b in
      carried_end (sending sent s) (sending_keeps sent s e sound)
      (cond_both sent.is_output (signalled 1 d) d (Inside Holds) (λ _. inside_signalled k.moves 1 d (o.devices 1 (omega arith)) h) (λ _. h)) s.tables.current []

  -- the caller of a request is told
  inside_served : (caller : Option ℕ) (reply : ℤ) (l : List ℕ) (d : CallState) → Touch 2 → IsSoundTables d.state.tables
      → (semaphore_at d.state.tables 2).waiters ≡ living caller ++ l → Inside Holds d → Inside Holds (reply_kept caller reply d)
  inside_served None reply l d may sound e h = h
  inside_served (Some p) reply l d may sound e h = k.moves.replies d.state.tables d.owes_resched 2 p l reply may sound e h

  -- a request is served
  carried_served : (good : Bool) (found : Option Served) (s : Xinu) → raw_completed good (disk_of s) ≡ found → IsSound s → HaveKernels Touch s.parts → Begins s.tables
      → Ends (served_in found s).state.tables
  carried_served good None s e sound o b = k.stays s.tables b
  carried_served good (Some x) s e sound o b =
      let disks = disks_in sound.devices in
      let f = serves_first good (disk_of s) x e in
      carried_end (serving x s) (served_keeps_all s (after_served x s) sound (served_completes good x s e (sound_holds s sound) disks))
      (inside_served x.request.caller x.reply (requesters x.disk.requests)
      (start (record (with_disk x.disk s) { memory = copied x.request.caller x.request.at x.bytes s.memory })) (o.devices 2 (omega arith)) sound.tables
      (disks.raw.waiters ∙ ap requesters f.first) (k.moves.begins s.tables b)) s.tables.current []

  -- the callers of calls on files are told, the first of them first
  inside_told : Touch 3 → (notes : List FileNote) (l : List ℕ) (d : CallState) → IsSoundTables d.state.tables
      → (semaphore_at d.state.tables 3).waiters ≡ told_living notes ++ l → Inside Holds d → Inside Holds (all_told notes d)
  inside_told may [] l d sound e h = h
  inside_told may (n ∷ notes) l d sound e h = by_note (λ x c f. inside_told may notes l x c f) n.reply n.caller e
    where
      by_note : ((x : CallState) → IsSoundTables x.state.tables → (semaphore_at x.state.tables 3).waiters ≡ told_living notes ++ l → Inside Holds x → Inside Holds (all_told notes x))
          → (reply : Option ℤ) (caller : Option ℕ)
          → (semaphore_at d.state.tables 3).waiters ≡ callers (λ (o : Option ℕ). o) (caller_first reply caller (callers_told notes)) ++ l
          → Inside Holds (all_told notes (told reply caller d))
      by_note go None caller e = go d sound e h
      by_note go (Some reply) None e = go d sound e h
      by_note go (Some reply) (Some p) e =
          let one = first_replied 1 p reply (told_living notes ++ l) d.state.tables (omega arith) sound e in
          go (keep_reply p reply d) one.tables one.waiters
          (k.moves.replies d.state.tables d.owes_resched 3 p (told_living notes ++ l) reply may sound e h)

  -- a good completion of the files' disk
  carried_completed : (calls : List FileRequest) (choice : ℕ) (s : Xinu) → (files_of s).calls ≡ calls → IsSound s → HaveKernels Touch s.parts → Begins s.tables
      → Ends (completed_in calls choice s).state.tables
  carried_completed [] choice s e sound o b = k.stays s.tables b
  carried_completed (a ∷ calls) choice s e sound o b =
      let n = least_effects (a ∷ calls) (files_of s) + choice in
      let x = calls_completed n (file_step s) in
      let disks = disks_in sound.devices in
      carried_end (completing x s) (completing_keeps n s (least_chosen (a ∷ calls) choice s e) sound)
      (inside_told (o.devices 3 (omega arith)) x.notes (callers_waiting x.work.calls) (start (with_step x s)) sound.tables
      (disks.files.waiters ∙ told_and_left n (file_step s) refl) (k.moves.begins s.tables b)) s.tables.current []

  -- what a call on files answers as it is made
  answered_reply : (reply : Option ℤ) (s : Xinu) → Goes Holds s → Holds s.tables (is_off (answer_kept reply) || false)
  answered_reply None s h = h
  answered_reply (Some reply) s h = h

  answered_at_once : (notes : List FileNote) (s : Xinu) → Goes Holds s → Holds s.tables (is_off (answer_told notes) || false)
  answered_at_once [] s h = h
  answered_at_once (n ∷ notes) s h = answered_reply n.reply s h

  -- a call on files that takes effect as it is made
  carried_at_once : (a : FileRequest) (s : Xinu) → next_file_call s ≡ Some a → IsSound s → Begins s.tables
      → Ends (step_at_once a s).state.tables
  carried_at_once a s made sound b =
      let u = with_executed (exec (current_hart s) s.memory) s in
      let x = issued 1 a u.memory (files_of u) in
      let m = next_is s a made in
      let after = state_stepped s sound in
      carried_end (at_once a u)
      (at_once_keeps a u (may_call_after s (may_call s sound (not_null_makes s a made))) m.none (ap is_some m.caller)
      (next_can s a made after.devices.files.itself)) (answered_at_once x.notes s (k.moves.begins s.tables b)) u.tables.current []

  carried_step_with : (choice : ℕ) (found : Option FileRequest) (s : Xinu) → next_file_call s ≡ found → IsSound s → HaveKernels Touch s.parts → Begins s.tables
      → MayDo May Touch (first_call (step_with choice found s).lines) → Ends (step_with choice found s).state.tables
  carried_step_with zero found s e sound o b = carried_stepped s sound o b
  carried_step_with (suc choice) None s e sound o b = carried_stepped s sound o b
  carried_step_with (suc choice) (Some a) s e sound o b = λ _. carried_at_once a s e sound b

  -- What holds before an event comes to what holds after it, whatever is chosen in it.
  carried_event : (s : Xinu) (e : Event) (choice : ℕ) → IsSound s → HaveKernels Touch s.parts → Begins s.tables → MayDo May Touch (call_in e (effect_of s e choice).lines)
      → Ends (effect_of s e choice).state.tables
  carried_event s Step choice sound o b may = carried_step_with choice (next_file_call s) s refl sound o b may
  carried_event s Tick choice sound o b may = k.ticks s sound.tables b
  carried_event s (Key c) choice sound o b may = carried_keyed c s sound o b
  carried_event s Tx choice sound o b may = carried_sent (transmitted (console_of s)) s refl sound o b
  carried_event s Disk0 choice sound o b may = carried_served true (raw_completed true (disk_of s)) s refl sound o b
  carried_event s Fail0 choice sound o b may = carried_served false (raw_completed false (disk_of s)) s refl sound o b
  carried_event s Disk1 choice sound o b may = carried_completed (files_of s).calls choice s refl sound o b
  carried_event s _ choice sound o b may = k.stays s.tables b

  pub carried_where : (old : Xinu) (e : Event) (lines : List TranscriptLine) (new : Xinu) → IsSound old → HaveKernels Touch old.parts
      → Begins old.tables → Happens old e lines new → MayDo May Touch (call_in e lines) → Ends new.tables
  carried_where old e lines new sound o b h may =
      subst (λ (x : Xinu). Ends x.tables) (ap (λ (x : EventResult). x.state) h.effect)
      (carried_event old e h.choice sound o b (subst (λ l. MayDo May Touch (call_in e l)) (sym (ap (λ (x : EventResult). x.lines) h.effect)) may))

-- So it does in any event if any call may be made.
pub carried_happens : {Begins : Tables → Type 0} {Holds : Tables → Bool → Type 0} {Ends : Tables → Type 0} → IsCarried Anyone Anyone Begins Holds Ends
    → (old : Xinu) (e : Event) (lines : List TranscriptLine) (new : Xinu) → IsSound old → Begins old.tables → Happens old e lines new
    → Ends new.tables
carried_happens k old e lines new sound b h = carried_where k old e lines new sound (all_kernels old.parts) b h (any_may (call_in e lines))

-- A sound state in which something holds of the tables.
abbrev pub IsSoundAnd : (Tables → Type 0) → Xinu → Type 0
IsSoundAnd Holds s = IsSound s × Holds s.tables

-- What each event keeps is kept by each run.
pub carried_run : {Always : Tables → Type 0} {Holds : Tables → Bool → Type 0} → IsCarried Anyone Anyone Always Holds Always
    → (events : List Event) (old : Xinu) (lines : List TranscriptLine) (new : Xinu) (end : End) → IsSoundAnd Always old
    → RunsTo old events lines new end → IsSoundAnd Always new
carried_run {Always} k =
    runs_keep (IsSoundAnd Always)
    (λ old e lines new c h. (sound_happens old e lines new c.0 h, carried_happens k old e lines new c.0 c.1 h))

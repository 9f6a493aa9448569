-- The lines of a run tell of each call of `signal` once.
use Rattle.std.proofs.Common.{List, None, Option, Some, [], ap, arith, cond, false, map, refl, subst, suc, sym, true, zero, ℕ, ℤ, ◌++◌, ◌+◌, ◌==◌, ◌∙◌, ◌∷◌, ◌≡◌}
use Rattle.std.proofs.lemmas.Bool.{cond_both}
use Rattle.std.specs.Prelude.{slice_index_or}
use Rattle.scheduling_laws.specs.Moments.{LeadTo, Moment, call_in, first_call, printed}
use Rattle.scheduling_laws.specs.Tokens.{is_made}
use Rattle.xinu_base.specs.declared.events.End.{End}
use Rattle.xinu_base.specs.declared.events.Event.{Event}
use Rattle.xinu_base.specs.declared.events.Event.TheVariants.{Disk0, Disk1, Dump, Fail0, Fail1, Key, Step, Tick, Tx}
use Rattle.xinu_base.specs.declared.lines.TranscriptLine.{TranscriptLine}
use Rattle.xinu_base.specs.declared.processes.Process.{Process}
use Rattle.xinu_base.specs.declared.registers.Outcome.{Outcome}
use Rattle.xinu_base.specs.declared.syscalls.Call.{Call}
use Rattle.xinu_model.specs.Calls.{called, continued}
use Rattle.xinu_model.specs.Clock.{ticked, wakeup}
use Rattle.xinu_model.specs.Console.Signals.{receiving, sending, sent_in}
use Rattle.xinu_model.specs.Console.Taking.{console_of}
use Rattle.xinu_model.specs.Console.Transmitting.{Sent, transmitted}
use Rattle.xinu_model.specs.Devices.State.{Devices}
use Rattle.xinu_model.specs.Events.{Happens, call_of, effect_of, exit_call, instruction_step, is_done, next_file_call, reacted, step_with, stepped, with_executed}
use Rattle.xinu_model.specs.Files.Constants.{LFILE0}
use Rattle.xinu_model.specs.Files.Rest.{is_busy}
use Rattle.xinu_model.specs.Files.Syscalls.{at_once, completed_in, completing, file_line, file_step, files_of}
use Rattle.xinu_model.specs.Files.Systems.{FileSystem, OpenFile}
use Rattle.xinu_model.specs.Files.Work.{FileRequest, calls_completed, issued, least_effects}
use Rattle.xinu_model.specs.Heap.Cells.{free_blocks}
use Rattle.xinu_model.specs.Isa.Exec.{exec}
use Rattle.xinu_model.specs.Machine.{CallResult, EventResult, Xinu, closed, current_hart, end_of_event, nothing_happens, replies_of, return_line, switched}
use Rattle.xinu_model.specs.Pools.Buffers.{BufferPool}
use Rattle.xinu_model.specs.Ports.Queues.{MessagePort, PortQueue}
use Rattle.xinu_model.specs.Process.Death.{exit}
use Rattle.xinu_model.specs.RawDisk.Calls.{disk_of, served_in, serving}
use Rattle.xinu_model.specs.RawDisk.Completions.{Served, raw_completed}
use Rattle.xinu_model.specs.Tables.{Semaphore, is_free, process_at}
use Rattle.xinu_model.specs.Text.{device_lines, free_line, is_shown, open_file_line, open_file_lines, pool_line, pool_lines, port_line, port_lines, process_line, process_lines, ready_line, semaphore_line, semaphore_lines, sleeper_line, tables_of}
use Rattle.xinu_base.specs.declared.lines.TranscriptLine.TheVariants as line
use Rattle.xinu_base.specs.declared.registers.Outcome.TheVariants as outcome
use Rattle.program_logic.specs.Kept.{tells, times_given_back, told}

module _ (sem : ℕ) where
  told_append : (a b : List TranscriptLine) → told sem (a ++ b) ≡ told sem a + told sem b
  told_append [] b = omega arith
  told_append (x ∷ a) b = let e = told_append a b in omega arith

  silent_both : (a b : List TranscriptLine) → told sem a ≡ 0 → told sem b ≡ 0 → told sem (a ++ b) ≡ 0
  silent_both a b x z = let e = told_append a b in omega arith

  silent_map : {A : Type 0} (f : A → TranscriptLine) → ((x : A) → tells sem (f x) ≡ 0) → (l : List A) → told sem (map f l) ≡ 0
  silent_map f none [] = refl
  silent_map f none (x ∷ l) = let a = none x in let e = silent_map f none l in omega arith

  silent_switch : (a b : ℕ) → told sem (switched a b) ≡ 0
  silent_switch a b = cond_both (a == b) [] (line.Switch b ∷ []) (λ l. told sem l ≡ 0) (λ _. refl) (λ _. refl)

  told_ended : (was : ℕ) (first : List TranscriptLine) (r : CallResult) → told sem (end_of_event was first r).lines ≡ told sem first
  told_ended was first r =
      let a = told_append (first ++ map return_line (replies_of r)) (switched was (closed r).current) in
      let b = told_append first (map return_line (replies_of r)) in
      let c = silent_map return_line (λ x. refl) (replies_of r) in
      let d = silent_switch was (closed r).current in
      omega arith

  processes_silent : (p : ℕ) (l : List Process) (messages : List (Option ℕ)) → told sem (process_lines p l messages) ≡ 0
  processes_silent p [] messages = refl
  processes_silent p (x ∷ l) messages =
      silent_both (process_line p x (slice_index_or messages p None)) (process_lines (p + 1) l messages)
      (cond_both (is_free x.state) [] (line.Process p x.state x.priority x.parent (slice_index_or messages p None) x.name ∷ []) (λ l. told sem l ≡ 0) (λ _. refl) (λ _. refl))
      (processes_silent (p + 1) l messages)

  semaphores_silent : (number : ℕ) (l : List Semaphore) → told sem (semaphore_lines number l) ≡ 0
  semaphores_silent number [] = refl
  semaphores_silent number (x ∷ l) =
      silent_both (semaphore_line number x) (semaphore_lines (number + 1) l)
      (cond_both (is_shown x) (line.Semaphore number _ ∷ map (line.Waiter number) x.waiters) [] (λ l. told sem l ≡ 0)
      (λ _. (let e = silent_map (line.Waiter number) (λ w. refl) x.waiters in omega arith)) (λ _. refl)) (semaphores_silent (number + 1) l)

  pools_silent : (i : ℕ) (l : List BufferPool) → told sem (pool_lines i l) ≡ 0
  pools_silent i [] = refl
  pools_silent i (x ∷ l) =
      silent_both (pool_line i x) (pool_lines (i + 1) l) (let e = silent_map (line.Buffer i) (λ w. refl) x.free in omega arith) (pools_silent (i + 1) l)

  ports_silent : (q : ℕ) (l : List MessagePort) → told sem (port_lines q l) ≡ 0
  ports_silent q [] = refl
  ports_silent q (x ∷ l) = silent_both (port_line q x.seq x.queue) (port_lines (q + 1) l) (one x.queue) (ports_silent (q + 1) l)
    where
      one : (o : Option PortQueue) → told sem (port_line q x.seq o) ≡ 0
      one None = refl
      one (Some queue) = let e = silent_map (line.Node q) (λ w. refl) queue.messages in omega arith

  open_silent : (dev : ℕ) (l : List (Option OpenFile)) (s : FileSystem) → told sem (open_file_lines dev l s) ≡ 0
  open_silent dev [] s = refl
  open_silent dev (x ∷ l) s = silent_both (open_file_line dev x s) (open_file_lines (dev + 1) l s) (one x) (open_silent (dev + 1) l s)
    where
      one : (o : Option OpenFile) → told sem (open_file_line dev o s) ≡ 0
      one None = refl
      one (Some f) = refl

  devices_silent : (d : Devices) → told sem (device_lines d) ≡ 0
  devices_silent d =
      let e = silent_both (open_file_lines LFILE0 d.files.system.devices d.files.system) (line.Disk1 (is_busy d.files) ∷ []) (open_silent LFILE0 d.files.system.devices d.files.system) refl in
      omega arith

  tables_silent : (s : Xinu) → told sem (tables_of s) ≡ 0
  tables_silent s =
      let a = process_lines 0 s.tables.processes s.tables.messages in
      let b = map ready_line s.tables.ready in
      let c = semaphore_lines 0 s.tables.semaphores in
      let d = map sleeper_line s.tables.sleepers in
      let f = map free_line (free_blocks s.parts.heap) in
      let g = pool_lines 0 s.parts.pools in
      let h = port_lines 0 s.parts.ports in
      let i = device_lines s.parts.devices in
      let ab = silent_both a b (processes_silent 0 s.tables.processes s.tables.messages) (silent_map ready_line (λ x. refl) s.tables.ready) in
      let ac = silent_both (a ++ b) c ab (semaphores_silent 0 s.tables.semaphores) in
      let ad = silent_both (a ++ b ++ c) d ac (silent_map sleeper_line (λ x. refl) s.tables.sleepers) in
      let af = silent_both (a ++ b ++ c ++ d) f ad (silent_map free_line (λ x. refl) (free_blocks s.parts.heap)) in
      let ag = silent_both (a ++ b ++ c ++ d ++ f) g af (pools_silent 0 s.parts.pools) in
      let ah = silent_both (a ++ b ++ c ++ d ++ f ++ g) h ag (ports_silent 0 s.parts.ports) in
      let ai = silent_both (a ++ b ++ c ++ d ++ f ++ g ++ h) i ah (devices_silent s.parts.devices) in
      omega arith

  -- the lines tell of a call of `signal` if and only if one is made
  abbrev IsRight : Event → List TranscriptLine → Type 0
  IsRight e lines = told sem lines ≡ cond (is_made 19 sem (call_in e lines)) 1 0

  -- replies and a switch begin with no call
  first_silent : (l : List (ℕ × ℤ)) (a b : ℕ) → first_call (map return_line l ++ switched a b) ≡ None
  first_silent [] a b = cond_both (a == b) [] (line.Switch b ∷ []) (λ l. first_call l ≡ None) (λ _. refl) (λ _. refl)
  first_silent (x ∷ l) a b = refl

  ended_silent : (was : ℕ) (r : CallResult) → IsRight Step (end_of_event was [] r).lines
  ended_silent was r =
      let e : cond (is_made 19 sem (first_call (map return_line (replies_of r) ++ switched was (closed r).current))) 1 0 ≡ 0 =
      ap {B = ℕ} (λ o. cond (is_made 19 sem o) 1 0) (first_silent (replies_of r) was (closed r).current) in
      told_ended was [] r ∙ sym e

  called_right : (was p : ℕ) (call : Call) (more : List TranscriptLine) (r : CallResult) → told sem more ≡ 0 → IsRight Step (end_of_event was (line.Call p call ∷ more) r).lines
  called_right was p call more r none = let e = told_ended was (line.Call p call ∷ more) r in omega arith

  reacted_right : (o : Outcome) (s : Xinu) → IsRight Step (reacted o s).lines
  reacted_right outcome.Went s = refl
  reacted_right outcome.Call s =
      let call = call_of (current_hart s) in called_right s.tables.current s.tables.current call [] (called call.number call.args s) refl
  reacted_right outcome.Exit s = called_right s.tables.current s.tables.current (exit_call (current_hart s)) [] (exit s) refl
  reacted_right (outcome.Trap cause) s = told_ended s.tables.current (line.Trap s.tables.current cause ∷ []) (exit s)

  stepped_right : (s : Xinu) → IsRight Step (stepped s).lines
  stepped_right s =
      let left = (process_at s.tables s.tables.current).rest in
      let did = exec (current_hart s) s.memory in
      cond_both (s.tables.current == 0) (nothing_happens s) (cond (is_done left) (instruction_step s) (end_of_event s.tables.current [] (continued left s)))
      (λ (x : EventResult). IsRight Step x.lines) (λ _. refl)
      (λ _. cond_both (is_done left) (instruction_step s) (end_of_event s.tables.current [] (continued left s)) (λ (x : EventResult). IsRight Step x.lines)
      (λ _. reacted_right did.outcome (with_executed did s)) (λ _. ended_silent s.tables.current (continued left s)))

  step_right : (choice : ℕ) (found : Option FileRequest) (s : Xinu) → IsRight Step (step_with choice found s).lines
  step_right zero found s = stepped_right s
  step_right (suc choice) None s = stepped_right s
  step_right (suc choice) (Some a) s =
      let u = with_executed (exec (current_hart s) s.memory) s in
      let x = issued 1 a u.memory (files_of u) in
      called_right u.tables.current u.tables.current (call_of (current_hart u)) (map file_line x.notes) (at_once a u) (silent_map file_line (λ n. refl) x.notes)

  sent_silent : (found : Option Sent) (s : Xinu) → told sem (sent_in found s).lines ≡ 0
  sent_silent None s = refl
  sent_silent (Some sent) s = told_ended s.tables.current (line.Con sent.byte ∷ []) (sending sent s)

  served_silent : (found : Option Served) (s : Xinu) → told sem (served_in found s).lines ≡ 0
  served_silent None s = refl
  served_silent (Some x) s = told_ended s.tables.current [] (serving x s)

  completed_silent : (calls : List FileRequest) (choice : ℕ) (s : Xinu) → told sem (completed_in calls choice s).lines ≡ 0
  completed_silent [] choice s = refl
  completed_silent (a ∷ calls) choice s =
      let x = calls_completed (least_effects (a ∷ calls) (files_of s) + choice) (file_step s) in
      told_ended s.tables.current (map file_line x.notes) (completing x s) ∙ silent_map file_line (λ n. refl) x.notes

  ticked_silent : (s : Xinu) → told sem (ticked s).lines ≡ 0
  ticked_silent s =
      let d = wakeup s in
      silent_both (map return_line d.released) (switched s.tables.current (ticked s).state.tables.current) (silent_map return_line (λ x. refl) d.released)
      (silent_switch s.tables.current (ticked s).state.tables.current)

  -- Each event tells sem of its call once, whatever the state is and whatever is chosen.
  pub event_right : (e : Event) (choice : ℕ) (s : Xinu) → IsRight e (effect_of s e choice).lines
  event_right Step choice s = step_right choice (next_file_call s) s
  event_right Tick choice s = ticked_silent s
  event_right (Key b) choice s = told_ended s.tables.current [] (receiving b s)
  event_right Tx choice s = sent_silent (transmitted (console_of s)) s
  event_right Disk0 choice s = served_silent (raw_completed true (disk_of s)) s
  event_right Disk1 choice s = completed_silent (files_of s).calls choice s
  event_right Fail0 choice s = served_silent (raw_completed false (disk_of s)) s
  event_right Fail1 choice s = refl
  event_right Dump choice s = tables_silent s

  happened_right : (old : Xinu) (e : Event) (lines : List TranscriptLine) (new : Xinu) → Happens old e lines new → IsRight e lines
  happened_right old e lines new h = subst (λ (x : EventResult). IsRight e x.lines) h.effect (event_right e h.choice old)

  -- So the lines of a stretch tell of as many as are made.
  pub stretch_right : (ms : List Moment) (old new : Xinu) → LeadTo old ms new → told sem (printed ms) ≡ times_given_back sem ms
  stretch_right [] old new lead = refl
  stretch_right (m ∷ ms) old new lead =
      let a = told_append m.lines (printed ms) in
      let b = happened_right m.before m.event m.lines m.after lead.1 in
      let c = stretch_right ms m.after new lead.2 in
      omega arith

  -- The lines of a transcript tell of as many as those of its run.
  pub whole_told : (start last : Xinu) (lines : List TranscriptLine) (end : End)
      → told sem ((line.Switch start.tables.current ∷ lines) ++ tables_of last ++ line.End end ∷ []) ≡ told sem lines
  whole_told start last lines end =
      let one = told_append (line.Switch start.tables.current ∷ lines) (tables_of last) in
      let two = told_append ((line.Switch start.tables.current ∷ lines) ++ tables_of last) (line.End end ∷ []) in
      let none = tables_silent last in
      omega arith

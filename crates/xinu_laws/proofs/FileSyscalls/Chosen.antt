-- Each choice that is allowed has an outcome: a step in which a call on files is made doesn't end in a panic.
use Rattle.std.proofs.Common.{◌≡◌, ◌≢◌, ◌⊎◌, ◌∙◌, ℕ, zero, suc, ◌==◌, ◌||◌, ◌%◌, false, cond, List, [], ◌∷◌, Option, Some, None, refl, sym, ap, inl, inr, ⊎_elim}
use Rattle.std.proofs.lemmas.Bool.{cond_both, eqb-false}
use Rattle.xinu_base.specs.declared.events.Event.{Event}
use Rattle.xinu_base.specs.declared.events.Event.TheVariants.{Step, Tick, Key, Tx, Disk0, Disk1, Fail0, Fail1, Dump}
use Rattle.xinu_base.specs.declared.lines.TranscriptLine.{TranscriptLine}
use Rattle.xinu_base.specs.declared.lines.TranscriptLine.TheVariants as line
use Rattle.xinu_base.specs.declared.processes.Rest.{Rest}
use Rattle.xinu_base.specs.declared.processes.Rest.TheVariants as rest
use Rattle.xinu_base.specs.declared.processes.State.TheVariants.{Current, Waiting}
use Rattle.xinu_base.specs.declared.registers.Outcome.{Outcome}
use Rattle.xinu_base.specs.declared.registers.Outcome.TheVariants as outcome
use Rattle.part_laws.specs.Preserve.{MayCallAny, KeepsAll}
use Rattle.table_laws.specs.Preserve.{FitsAnswer}
use Rattle.xinu_laws.specs.Touches.{reach, touched_by, Touches}
use Rattle.xinu_model.specs.Calls.{calls, called, continued}
use Rattle.xinu_model.specs.Events.{call_of, call_line, exit_call, with_executed, reacted, instruction_step, is_done, stepped, next_file_call, step_with, effect_of, MayChoose, Happens}
use Rattle.xinu_model.specs.Files.Syscalls.{files_of, completed_in}
use Rattle.xinu_model.specs.Files.Work.{FileRequest, orphaned_call}
use Rattle.xinu_model.specs.Footprints.{Footprint, on_tables, on_console, on_disk}
use Rattle.xinu_model.specs.Isa.Exec.{exec}
use Rattle.xinu_model.specs.Machine.{Xinu, Answer, Returns, Waits, Gone, Panics, Silent, CallState, CallResult, EventResult, start, current_hart, is_panic, nothing_happens, end_of_event, refused}
use Rattle.xinu_model.specs.Messages.{sent}
use Rattle.xinu_model.specs.Process.Calls.{kill}
use Rattle.xinu_model.specs.Process.Death.{killed, exit}
use Rattle.xinu_model.specs.RawDisk.Callers as callers
use Rattle.xinu_model.specs.Sound.State.{IsSound}
use Rattle.xinu_model.specs.Tables.{process_at, state_at, message_at, is_free, InSemaphore}
use Rattle.xinu_model.specs.Words.{signed}
use Rattle.xinu_laws.proofs.Consoles.Kept.{sound_holds}
use Rattle.xinu_laws.proofs.Consoles.Put.{putc_keeps, write_keeps}
use Rattle.xinu_laws.proofs.Consoles.Signalled.{console_control_keeps}
use Rattle.xinu_laws.proofs.Consoles.Taken.{getc_keeps, read_keeps}
use Rattle.xinu_laws.proofs.Devices.Kept.{OfFiles, device_open_holds, device_close_holds, device_read_holds, device_write_holds, device_getc_holds, device_putc_holds, device_seek_holds, device_control_holds}
use Rattle.xinu_laws.proofs.FileSyscalls.AtOnce.{next_is}
use Rattle.xinu_laws.proofs.Rows.RowByRow.{◌⨾◌}
use Rattle.table_laws.proofs.Preserve.{current_within}
use Rattle.xinu_laws.proofs.Preserve.Calls.{sound_where_called, called_keeps, exit_keeps, continued_keeps}
use Rattle.xinu_laws.proofs.Preserve.Events.{may_call, may_call_after}
use Rattle.xinu_laws.proofs.RawDisks.Kept.{disk_read_keeps, disk_write_keeps, disk_control_keeps}
use Rattle.table_laws.proofs.Tables.MoveTo.{process_move_same}
use Rattle.xinu_laws.proofs.Touches.Continued.{continued_touches}
use Rattle.xinu_laws.proofs.Touches.Few.{IsLawOfFew, law_of_few}
use Rattle.xinu_laws.proofs.Touches.Moves.{touches_sent}

-- From s to u no call on files is made as the first, or the current process waits.
abbrev NoneMade : Xinu → Xinu → Type 0
NoneMade s u = (files_of s).calls ≡ [] → ((files_of u).calls ≡ []) ⊎ (state_at u.tables u.tables.current ≡ Waiting)

pub none_if_same : (s u : Xinu) → files_of u ≡ files_of s → NoneMade s u
none_if_same s u same e = inl (ap (λ w. w.calls) same ∙ e)

none_touched : (f : Footprint) {s u : Xinu} → f.files ≡ false → Touches (reach f) s u → NoneMade s u
none_touched f {s} {u} e t = none_if_same s u (t.parts.devices.files e)

-- A process that dies makes no call on files.
pub killed_none : (p : ℕ) (d : CallState) → (files_of d.state).calls ≡ [] → (files_of (killed p d).state).calls ≡ []
killed_none p d e =
    let parent = (process_at d.state.tables p).parent in
    let t : Touches (reach on_tables) d.state (sent parent p d).state = touches_sent parent p d in
    ap (λ l. callers.given_up (λ (a : FileRequest). a.caller) orphaned_call p l) (ap (λ w. w.calls) (t.parts.devices.files refl) ∙ e)

-- A process that exits makes no call on files.
pub exit_none : (s : Xinu) → (files_of s).calls ≡ [] → (files_of (exit s).call.state).calls ≡ []
exit_none s = killed_none s.tables.current (start s)

-- A process that kills another, or itself, makes no call on files.
pub kill_none : (p : ℕ) (s : Xinu) → (files_of s).calls ≡ [] → (files_of (kill p s).call.state).calls ≡ []
kill_none p s =
    let P : CallResult → Type 0 = λ h. (files_of s).calls ≡ [] → (files_of h.call.state).calls ≡ [] in
    cond_both ((p == 0) || is_free (state_at s.tables p)) (refused s) _ P (λ _ e. e)
    (λ _. cond_both (p == s.tables.current) (exit s) _ P (λ _. exit_none s) (λ _. killed_none p (start s)))

-- a call on files is made by one who waits
asks_none : (s : Xinu) → IsSound s → OfFiles (λ (h : CallResult). NoneMade s h.call.state) s
asks_none s k None at asked = none_if_same s s refl
asks_none s k (Some call) at asked = λ _. (let t = s.tables in
    inr (ap (λ y. y.state)
    (process_move_same t t.current (record (process_at t t.current) { state = Waiting; rest = rest.Disk None }) (message_at t t.current)
    (InSemaphore 3)
    k.tables.inside.processes (current_within t k.tables))))

-- No call makes one otherwise.
none_law : IsLawOfFew (λ f. f.files) (λ number s u. NoneMade s u)
unfolding calls
none_law = record {
  same = λ number s. none_if_same s s refl;
  others = λ number f s u e t. none_if_same s u (t.parts.devices.files e);
  few =
      (λ a s k e. inl (kill_none (a 0) s e)) ⨾
      (λ a s k e. inl (exit_none s e)) ⨾
      (λ a s k. device_open_holds (λ (h : CallResult). NoneMade s h.call.state) (a 0) (a 1) (a 2) s (none_if_same s s refl)
      (none_if_same s s refl) (none_if_same s s refl) (asks_none s k)) ⨾
      (λ a s k. device_close_holds (λ (h : CallResult). NoneMade s h.call.state) (a 0) s (none_if_same s s refl) (none_if_same s s refl)
      (asks_none s k)) ⨾
      (λ a s k. device_read_holds (λ (h : CallResult). NoneMade s h.call.state) (a 0) (a 1) (a 2) s (none_if_same s s refl)
      (none_touched on_console refl (read_keeps (a 1) (signed (a 2)) s (sound_holds s k)).touches)
      (none_touched on_disk refl (disk_read_keeps (a 1) (a 2) s (sound_holds s k)).touches) (asks_none s k)) ⨾
      (λ a s k. device_write_holds (λ (h : CallResult). NoneMade s h.call.state) (a 0) (a 1) (a 2) s (none_if_same s s refl)
      (none_touched on_console refl (write_keeps (a 1) (signed (a 2)) s (sound_holds s k)).touches)
      (none_touched on_disk refl (disk_write_keeps (a 1) (a 2) s (sound_holds s k)).touches) (asks_none s k)) ⨾
      (λ a s k. device_getc_holds (λ (h : CallResult). NoneMade s h.call.state) (a 0) s (none_if_same s s refl)
      (none_touched on_console refl (getc_keeps s (sound_holds s k)).touches) (asks_none s k)) ⨾
      (λ a s k. device_putc_holds (λ (h : CallResult). NoneMade s h.call.state) (a 0) (a 1 % 256) s (none_if_same s s refl)
      (none_touched on_console refl (putc_keeps (a 1 % 256) s (sound_holds s k)).touches) (asks_none s k)) ⨾
      (λ a s k. device_seek_holds (λ (h : CallResult). NoneMade s h.call.state) (a 0) (signed (a 1)) s (none_if_same s s refl)
      (asks_none s k)) ⨾
      (λ a s k. device_control_holds (λ (h : CallResult). NoneMade s h.call.state) (a 0) (a 1) (a 2) s (none_if_same s s refl)
      (none_touched on_console refl (console_control_keeps (a 1) s (sound_holds s k)).touches)
      (none_touched on_disk refl (disk_control_keeps (a 1) s (sound_holds s k)).touches) (asks_none s k)) ⨾
      tt;
}

-- What is left of a call that waited changes no files.
pub touched_files : (left : Rest) → (touched_by left).files ≡ false
touched_files (rest.GetBuf i) = refl
touched_files (rest.PtSend ticket message) = refl
touched_files (rest.PtRecv ticket) = refl
touched_files rest.TtyGet = refl
touched_files (rest.TtyRead part) = refl
touched_files (rest.TtyPut b returned) = refl
touched_files (rest.TtyWrite part returned) = refl
touched_files rest.Nothing = refl
touched_files rest.Receive = refl
touched_files rest.Timed = refl
touched_files rest.SelfSuspend = refl
touched_files (rest.Disk reply) = refl

-- The kernel doesn't panic in an event in which a call on files is made.
calm : (s : Xinu) (was : ℕ) (first : List TranscriptLine) (result : CallResult) → KeepsAll result → NoneMade s result.call.state
    → (files_of s).calls ≡ [] → (files_of (end_of_event was first result).state).calls ≢ [] → (end_of_event was first result).panics ≡ false
calm s was first result k none before some = by_answer result.answer k.preserved.tables
  where
    by_answer : (answer : Answer) → FitsAnswer answer result.call.state.tables → is_panic answer ≡ false
    by_answer (Returns value) fits = refl
    by_answer Waits fits = refl
    by_answer Gone fits = refl
    by_answer Silent fits = refl
    by_answer Panics fits =
        ⊎_elim (λ e. absurd (some e)) (λ waits. let f : Current ≡ Waiting = sym fits.runs ∙ waits in absurd (cc)) (none before)

-- which is said of an event so
abbrev IsCalm : EventResult → Type 0
IsCalm x = (files_of x.state).calls ≢ [] → x.panics ≡ false

calm_reacted : (o : Outcome) (s : Xinu) → MayCallAny s → (files_of s).calls ≡ [] → IsCalm (reacted o s)
calm_reacted outcome.Went s c before some = refl
calm_reacted outcome.Call s c before some =
    let call = call_of (current_hart s) in
    calm s s.tables.current (call_line s call ∷ []) (called call.number call.args s) (called_keeps call.number call.args s c)
    (law_of_few none_law call.number call.args s (sound_where_called s c)) before some
calm_reacted outcome.Exit s c before some =
    calm s s.tables.current (call_line s (exit_call (current_hart s)) ∷ []) (exit s) (exit_keeps s c)
    (λ e. inl (exit_none s e)) before some
calm_reacted (outcome.Trap cause) s c before some =
    calm s s.tables.current (line.Trap s.tables.current cause ∷ []) (exit s) (exit_keeps s c)
    (λ e. inl (exit_none s e)) before some

calm_stepped : (s : Xinu) → IsSound s → (files_of s).calls ≡ [] → IsCalm (stepped s)
calm_stepped s k before =
    let left = (process_at s.tables s.tables.current).rest in
    let did = exec (current_hart s) s.memory in
    let goes_on = end_of_event s.tables.current [] (continued left s) in
    cond_both (s.tables.current == 0) (nothing_happens s) (cond (is_done left) (instruction_step s) goes_on) IsCalm
    (λ _ _. refl)
    (λ b. let c = may_call s k (eqb-false s.tables.current 0 b) in
    cond_both (is_done left) (instruction_step s) goes_on IsCalm
    (λ _. calm_reacted did.outcome (with_executed did s) (may_call_after s c) before)
    (λ _. calm s s.tables.current [] (continued left s) (continued_keeps s c)
    (none_if_same s (continued left s).call.state ((continued_touches left s k).parts.devices.files (touched_files left))) before))

-- so it panics as little whatever is chosen
step_panics : (choice : ℕ) (found : Option FileRequest) (s : Xinu) → IsSound s → next_file_call s ≡ found
    → (step_with choice found s).panics ≡ (stepped s).panics
step_panics zero found s k e = refl
step_panics (suc choice) None s k e = refl
step_panics (suc choice) (Some a) s k e =
    let m = next_is s a e in
    let some : (files_of (stepped s).state).calls ≢ [] = λ none. (let f : a ∷ m.more ≡ [] = sym m.is ∙ none in absurd (cc)) in
    sym (calm_stepped s k m.none some)

completed_panics : (calls_ : List FileRequest) (choice : ℕ) (s : Xinu)
    → (completed_in calls_ choice s).panics ≡ (completed_in calls_ 0 s).panics
completed_panics [] choice s = refl
completed_panics (a ∷ calls_) choice s = refl

pub effect_panics : (s : Xinu) (e : Event) (choice : ℕ) → IsSound s → (effect_of s e choice).panics ≡ (effect_of s e 0).panics
effect_panics s Step choice k = step_panics choice (next_file_call s) s k refl
effect_panics s Disk1 choice k = completed_panics (files_of s).calls choice s
effect_panics s Tick choice k = refl
effect_panics s Dump choice k = refl
effect_panics s (Key b) choice k = refl
effect_panics s Tx choice k = refl
effect_panics s Disk0 choice k = refl
effect_panics s Fail0 choice k = refl
effect_panics s Fail1 choice k = refl

-- Each choice that is allowed has its outcome.
pub choice_happens : (old : Xinu) (e : Event) (choice : ℕ) → IsSound old → MayChoose old e choice
    → Happens old e (effect_of old e choice).lines (effect_of old e choice).state
choice_happens old e choice k may =
    let x = effect_of old e choice in
    record { choice = choice; allowed = may; effect = ap (λ b. record { lines = x.lines; state = x.state; panics = b }) (effect_panics old e choice k) }

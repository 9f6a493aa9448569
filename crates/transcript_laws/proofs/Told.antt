-- A text tells the choice of the event with which it begins.
use Rattle.std.proofs.Common.{◌≡◌, ◌≢◌, ◌==◌, ℕ, zero, suc, ◌+◌, ◌-◌, ◌≤◌, true, false, if◌then◌else◌, List, [], ◌∷◌, ◌++◌, map, length, drop, Option, Some, None, refl, sym, ap, ◌∙◌, append_assoc, append-nil, arith, ℤ}
use Rattle.std.specs.Prelude.{is_some, unwrap_or}
use Rattle.std.proofs.lemmas.Bool.{cond_both, eqb-true}
use Rattle.xinu_base.specs.declared.events.Event.{Event}
use Rattle.xinu_base.specs.declared.events.Event.TheVariants.{Step, Tick, Key, Tx, Disk0, Disk1, Fail0, Fail1, Dump}
use Rattle.xinu_base.specs.declared.lines.FileMoment.TheVariants.{Finished, Next}
use Rattle.xinu_base.specs.declared.lines.TranscriptLine.{TranscriptLine}
use Rattle.xinu_base.specs.declared.lines.TranscriptLine.TheVariants as line
use Rattle.xinu_model.proofs.FileOutcomes.{note_lines, least_le, first_calls}
use Rattle.xinu_model.specs.Agree.{begins_next}
use Rattle.xinu_base.specs.declared.registers.Outcome.{Outcome}
use Rattle.xinu_base.specs.declared.registers.Outcome.TheVariants as outcome
use Rattle.xinu_laws.proofs.FileSyscalls.AtOnce.{next_is}
use Rattle.xinu_laws.proofs.FileSyscalls.Texts.{other_runs, after_notes}
use Rattle.xinu_laws.proofs.Touches.Moves.{touches_sent}
use Rattle.xinu_laws.specs.Touches.{reach, Touches}
use Rattle.xinu_model.specs.Footprints.{on_tables}
use Rattle.xinu_model.specs.RawDisk.Callers as callers
use Rattle.xinu_model.specs.Messages.{sent}
use Rattle.xinu_model.specs.Calls.{called, continued}
use Rattle.xinu_model.specs.Isa.Exec.{exec}
use Rattle.xinu_model.specs.Process.Death.{exit}
use Rattle.xinu_model.specs.Tables.{process_at}
use Rattle.xinu_model.specs.Events.{MayChoose, call_of, effect_of, instruction_step, is_done, next_file_call, reacted, stepped, step_at_once, step_with, with_executed}
use Rattle.xinu_model.specs.Files.Calls.{file_effect}
use Rattle.xinu_model.specs.Files.Syscalls.{at_once, files_of, file_step, completing, completed_in}
use Rattle.xinu_model.specs.Files.Work.{FileRequest, FileNote, FileStep, had_turn, took_effect, first_effect, next_effects, orphaned_call, turned, calls_completed, least_effects}
use Rattle.xinu_model.specs.Machine.{Xinu, EventResult, start, current_hart, nothing_happens, return_line, switched, end_of_event, replies_of, closed}
use Rattle.xinu_model.specs.Sound.State.{IsSound}
use Rattle.xinu_model.specs.Text.{text}
use Rattle.transcript_laws.specs.Reading.{starts_with, Tells}
use Rattle.transcript_laws.specs.Choices.{moment_text, nexts_told, effects_told, begins_done, step_told, says_done, told}
use Rattle.transcript_laws.proofs.Texts.{starts, rest_of}
use Rattle.transcript_laws.proofs.LineStarts.{done_begins, not_next, said_after, turn_apart}

-- no more is told than there are calls
pub nexts_most : (calls : List FileRequest) (rest : List ℕ) → nexts_told calls rest ≤ length calls
nexts_most [] rest = omega arith
nexts_most (a ∷ calls) rest =
    let i = nexts_most calls (drop (length (moment_text Next a)) rest) in
    cond_both (starts_with (moment_text Next a) rest) (suc (nexts_told calls (drop (length (moment_text Next a)) rest))) 0
    (λ n. n ≤ suc (length calls)) (λ _. omega (arith, i)) (λ _. omega arith)

effects_most : (calls : List FileRequest) (rest : List ℕ) → effects_told calls rest ≤ length calls
effects_most [] rest = omega arith
effects_most (a ∷ calls) rest =
    let i = nexts_most calls (drop (length (moment_text Finished a)) rest) in
    cond_both (starts_with (moment_text Finished a) rest) (suc (nexts_told calls (drop (length (moment_text Finished a)) rest))) 0
    (λ n. n ≤ suc (length calls)) (λ _. omega (arith, i)) (λ _. omega arith)

-- at most one call takes effect in a step
step_most : (found : Option FileRequest) (rest : List ℕ) → step_told found rest ≤ (if is_some found then 1 else 0)
step_most None rest = omega arith
step_most (Some a) rest = cond_both (says_done rest) 1 0 (λ n. n ≤ 1) (λ _. omega arith) (λ _. omega arith)

-- What is told may be chosen.
may_tell : (s : Xinu) (e : Event) (rest : List ℕ) → MayChoose s e (told s e rest)
may_tell s Step rest = step_most (next_file_call s) rest
may_tell s Disk1 rest = let h = effects_most (files_of s).calls rest in omega (arith, h)
may_tell s Tick rest = omega arith
may_tell s Dump rest = omega arith
may_tell s (Key b) rest = omega arith
may_tell s Tx rest = omega arith
may_tell s Disk0 rest = omega arith
may_tell s Fail0 rest = omega arith
may_tell s Fail1 rest = omega arith

-- what follows the notes of an event doesn't begin with a call that took effect as the next one
pub end_begins : (replies : List (ℕ × ℤ)) (was is : ℕ) (more : List TranscriptLine) → begins_next more ≡ false
    → begins_next ((map return_line replies ++ switched was is) ++ more) ≡ false
end_begins [] was is more e = cond_both (was == is) [] (line.Switch is ∷ []) (λ l. begins_next (l ++ more) ≡ false) (λ _. e) (λ _. refl)
end_begins (r ∷ replies) was is more e = refl

-- so no call is told by it
none_told : (calls : List FileRequest) (lines : List TranscriptLine) → begins_next lines ≡ false → nexts_told calls (text lines) ≡ 0
none_told [] lines e = refl
none_told (a ∷ calls) lines e =
    ap (λ b. if b then suc (nexts_told calls (drop (length (moment_text Next a)) (text lines))) else 0)
    (not_next (unwrap_or a.caller 0) lines e)

-- one call more is told
one_told : (a : FileRequest) (calls : List FileRequest) (lines : List TranscriptLine)
    → nexts_told (a ∷ calls) (text (line.File (unwrap_or a.caller 0) Next ∷ lines)) ≡ suc (nexts_told calls (text lines))
one_told a calls lines =
    ap (λ b. if b then suc (nexts_told calls (drop (length (moment_text Next a)) (moment_text Next a ++ text lines))) else 0)
    (starts (moment_text Next a) (text lines))
    ∙ ap (λ r. suc (nexts_told calls r)) (rest_of (moment_text Next a) (text lines))

first_told : (a : FileRequest) (calls : List FileRequest) (lines : List TranscriptLine)
    → effects_told (a ∷ calls) (text (line.File (unwrap_or a.caller 0) Finished ∷ lines)) ≡ suc (nexts_told calls (text lines))
first_told a calls lines =
    ap (λ b. if b then suc (nexts_told calls (drop (length (moment_text Finished a)) (moment_text Finished a ++ text lines))) else 0)
    (starts (moment_text Finished a) (text lines))
    ∙ ap (λ r. suc (nexts_told calls r)) (rest_of (moment_text Finished a) (text lines))

-- further effects add lines that tell them
record Adds (k : ℕ) (calls : List FileRequest) (before after : List FileNote) : Type 0 where
  notes : List FileNote
  are : after ≡ before ++ notes
  tell : (tail : List TranscriptLine) → begins_next tail ≡ false → nexts_told calls (text (note_lines notes ++ tail)) ≡ k

next_adds : (k : ℕ) (calls : List FileRequest) (x : FileStep) → x.work.calls ≡ calls → k ≤ length calls
    → Adds k calls x.notes (next_effects k x).notes
next_adds zero calls x e h = record { notes = []; are = sym (append-nil x.notes); tell = λ tail n. none_told calls tail n }
next_adds (suc k) [] x e h = absurd (omega (arith, h))
next_adds (suc k) (a ∷ calls) x e h =
    let y = first_effect (a ∷ calls) Next x in
    let r = (file_effect a.call x.work.bytes x.work.system).reply in
    let i = next_adds k calls y (first_calls calls _ _) (omega (arith, h)) in
    let is : (next_effects k (first_effect x.work.calls Next x)).notes
    ≡ (next_effects k y).notes = ap (λ l. (next_effects k (first_effect l Next x)).notes) e in
    record {
      notes = took_effect a Next r ∷ i.notes;
      are = is ∙ i.are ∙ append_assoc x.notes (took_effect a Next r ∷ []) i.notes;
      tell = λ tail n. one_told a calls (note_lines i.notes ++ tail) ∙ ap suc (i.tell tail n);
    }

-- The text of a completion tells how many calls took effect.
completed_told : (k : ℕ) (a : FileRequest) (calls : List FileRequest) (s : Xinu) (more : List TranscriptLine)
    → (files_of s).calls ≡ a ∷ calls
    → k ≤ suc (length calls) → begins_next more ≡ false
    → (let x = calls_completed k (file_step s) in
    effects_told (a ∷ calls) (text ((end_of_event s.tables.current (note_lines x.notes) (completing x s)).lines ++ more))) ≡ k
completed_told zero a calls s more e few none =
    let x = calls_completed zero (file_step s) in
    let first : x.notes ≡ had_turn a ∷ [] = ap (λ l. (turned l (file_step s)).notes) e in
    let replies = map return_line (replies_of (completing x s)) in
    let end = switched s.tables.current (closed (completing x s)).current in
    ap (λ l. effects_told (a ∷ calls) (text l)) (after_notes (note_lines x.notes) replies end more)
    ∙ ap (λ n. effects_told (a ∷ calls) (text (note_lines n ++ ((replies ++ end) ++ more)))) first
    ∙ ap (λ b. if b then suc (nexts_told calls (drop (length (moment_text Finished a))
    (text (note_lines (had_turn a ∷ []) ++ ((replies ++ end) ++ more))))) else 0)
    (turn_apart (unwrap_or a.caller 0) (unwrap_or a.caller 0) (text ((replies ++ end) ++ more)))
completed_told (suc k) a calls s more e few none =
    let x = calls_completed (suc k) (file_step s) in
    let w = file_step s in
    let y = first_effect (a ∷ calls) Finished w in
    let note = took_effect a Finished (file_effect a.call w.work.bytes w.work.system).reply in
    let i = next_adds k calls y (first_calls calls _ _) (omega (arith, few)) in
    let is : x.notes ≡ note ∷ i.notes = ap (λ l. (next_effects k (first_effect l Finished w)).notes) e ∙ i.are in
    let replies = map return_line (replies_of (completing x s)) in
    let end = switched s.tables.current (closed (completing x s)).current in
    let tail = (replies ++ end) ++ more in
    ap (λ l. effects_told (a ∷ calls) (text l)) (after_notes (note_lines x.notes) replies end more)
    ∙ ap (λ n. effects_told (a ∷ calls) (text (note_lines n ++ tail))) is
    ∙ first_told a calls (note_lines i.notes ++ tail)
    ∙ ap suc (i.tell tail (end_begins (replies_of (completing x s)) s.tables.current (closed (completing x s)).current more none))

-- what the text of a completion tells is what was chosen in it
completion_right : (calls : List FileRequest) (c : ℕ) (s : Xinu) (more : List TranscriptLine) → (files_of s).calls ≡ calls
    → c ≤ length calls - least_effects calls (files_of s) → begins_next more ≡ false
    → effects_told calls (text ((completed_in calls c s).lines ++ more)) - least_effects calls (files_of s) ≡ c
completion_right [] c s more e may none = omega (arith, may)
completion_right (a ∷ calls) c s more e may none =
    let low = least_effects (a ∷ calls) (files_of s) in
    let l = least_le (a ∷ calls) (files_of s) in
    let t = completed_told (low + c) a calls s more e (omega (arith, l, may)) none in
    omega (arith, t)

-- the replies and the switch of an event after which another process is current
switch_apart : (replies : List (ℕ × ℤ)) (was is : ℕ) (more : List TranscriptLine) → is ≢ was
    → begins_done (text ((map return_line replies ++ switched was is) ++ more)) ≡ false
switch_apart [] was is more n =
    cond_both (was == is) [] (line.Switch is ∷ []) (λ l. begins_done (text (l ++ more)) ≡ false)
    (λ e. absurd (n (sym (eqb-true was is e)))) (λ _. refl)
switch_apart (r ∷ replies) was is more n = refl

-- no call is said by them
goes_on_apart : (replies : List (ℕ × ℤ)) (was is : ℕ) (more : List TranscriptLine) → is ≢ was
    → says_done (text ((map return_line replies ++ switched was is) ++ more)) ≡ false
goes_on_apart [] was is more n =
    cond_both (was == is) [] (line.Switch is ∷ []) (λ l. says_done (text (l ++ more)) ≡ false) (λ e. absurd (n (sym (eqb-true was is e))))
    (λ _. refl)
goes_on_apart (r ∷ replies) was is more n = refl

-- an exit makes no call on files
exit_makes_none : (s : Xinu) → (files_of s).calls ≡ []
    → (files_of (exit (with_executed (exec (current_hart s) s.memory) s)).call.state).calls ≡ []
exit_makes_none s e =
    let u = with_executed (exec (current_hart s) s.memory) s in
    let p = u.tables.current in
    let parent = (process_at u.tables p).parent in
    let t : Touches (reach on_tables) u (sent parent p (start u)).state = touches_sent parent p (start u) in
    ap (λ l. callers.given_up (λ (a : FileRequest). a.caller) orphaned_call p l) (ap (λ w. w.calls) (t.parts.devices.files refl) ∙ e)

-- So a step in which a call on files is made that waits isn't one in which it takes effect.
step_waits : (s : Xinu) (a : FileRequest) (more : List TranscriptLine) → IsSound s → next_file_call s ≡ Some a
    → says_done (text ((stepped s).lines ++ more)) ≡ false
step_waits s a more k made =
    let left = (process_at s.tables s.tables.current).rest in
    let did = exec (current_hart s) s.memory in
    let goes_on = end_of_event s.tables.current [] (continued left s) in
    let other = other_runs s a k made in
    let files = next_is s a made in
    let none : (files_of (stepped s).state).calls ≡ [] → ⊥ = λ e. (let f : a ∷ files.more ≡ [] = sym files.is ∙ e in absurd (cc)) in
    let P : EventResult → Type 0 = λ x. x.state.tables.current ≢ s.tables.current → ((files_of x.state).calls ≡ [] → ⊥)
    → says_done (text (x.lines ++ more)) ≡ false in
    (cond_both (s.tables.current == 0) (nothing_happens s) (if is_done left then instruction_step s else goes_on) P
    (λ _ n m. absurd (n refl))
    (λ _. cond_both (is_done left) (instruction_step s) goes_on P
    (λ _. by_outcome did.outcome files.none)
    (λ _ n m. goes_on_apart (replies_of (continued left s)) s.tables.current (closed (continued left s)).current more n)))
    other none
  where
    by_outcome : (o : Outcome) → (files_of s).calls ≡ []
        → (let x = with_executed (exec (current_hart s) s.memory) s in
        (reacted o x).state.tables.current ≢ s.tables.current → ((files_of (reacted o x).state).calls ≡ [] → ⊥)
        → says_done (text ((reacted o x).lines ++ more)) ≡ false)
    by_outcome outcome.Went e n m = absurd (n refl)
    by_outcome outcome.Call e n m =
        let x = with_executed (exec (current_hart s) s.memory) s in
        let call = call_of (current_hart x) in
        let result = called call.number call.args x in
        said_after x.tables.current call (text ((map return_line (replies_of result) ++ switched x.tables.current (closed result).current)
        ++ more))
        ∙ switch_apart (replies_of result) x.tables.current (closed result).current more n
    by_outcome outcome.Exit e n m = absurd (m (exit_makes_none s e))
    by_outcome (outcome.Trap cause) e n m = absurd (m (exit_makes_none s e))

-- a step in which it takes effect as it is made says so
at_once_says : (s : Xinu) (a : FileRequest) (more : List TranscriptLine) → says_done (text ((step_at_once a s).lines ++ more)) ≡ true
at_once_says s a more =
    let x = with_executed (exec (current_hart s) s.memory) s in
    let result = at_once a x in
    let end = (map return_line (replies_of result) ++ switched x.tables.current (closed result).current) ++ more in
    said_after x.tables.current (call_of (current_hart x)) (text (line.File (unwrap_or a.caller 0) Finished ∷ end))
    ∙ done_begins (unwrap_or a.caller 0) (text end)

-- the text of a step tells whether the call on files in it took effect
step_right : (c : ℕ) (found : Option FileRequest) (s : Xinu) (more : List TranscriptLine) → IsSound s → next_file_call s ≡ found
    → c ≤ (if is_some found then 1 else 0) → step_told found (text ((step_with c found s).lines ++ more)) ≡ c
step_right c None s more k made may = omega (arith, may)
step_right zero (Some a) s more k made may = ap (λ b. if b then 1 else 0) (step_waits s a more k made)
step_right (suc zero) (Some a) s more k made may = ap (λ b. if b then 1 else 0) (at_once_says s a more)
step_right (suc (suc c)) (Some a) s more k made may = absurd (omega (arith, may))

-- each event has the effect that its text tells
event_right : (s : Xinu) (e : Event) (c : ℕ) (more : List TranscriptLine) → IsSound s → MayChoose s e c → begins_next more ≡ false
    → effect_of s e (told s e (text ((effect_of s e c).lines ++ more))) ≡ effect_of s e c
event_right s Step c more k may none = ap (λ n. step_with n (next_file_call s) s) (step_right c (next_file_call s) s more k refl may)
event_right s Disk1 c more k may none = ap (λ n. completed_in (files_of s).calls n s)
    (completion_right (files_of s).calls c s more refl may none)
event_right s Tick c more k may none = refl
event_right s Dump c more k may none = refl
event_right s (Key b) c more k may none = refl
event_right s Tx c more k may none = refl
event_right s Disk0 c more k may none = refl
event_right s Fail0 c more k may none = refl
event_right s Fail1 c more k may none = refl

-- The text of an event tells what was chosen in it.
pub tells : Tells told
tells = record { allowed = may_tell; right = event_right }

-- A text tells how many calls on files took effect in the event with which it begins.
use Rattle.std.proofs.Common.{◌≡◌, ◌≢◌, ◌==◌, ℕ, zero, suc, ◌+◌, ◌-◌, ◌<◌, ◌≤◌, Bool, true, false, List, [], ◌∷◌, ◌++◌, map, length, if◌then◌else◌, Option, Some, None, refl, sym, ap, ◌∙◌, subst, ℤ, arith, append_assoc, append-nil}
use Rattle.std.specs.Prelude.{is_some}
use Rattle.std.proofs.lemmas.Bool.{cond_both, eqb-true}
use Rattle.xinu_base.specs.declared.events.Event.{Event}
use Rattle.xinu_base.specs.declared.events.Event.TheVariants.{Step, Tick, Key, Tx, Disk0, Disk1, Fail0, Fail1, Dump}
use Rattle.xinu_base.specs.declared.lines.FileMoment.TheVariants.{Finished, Next}
use Rattle.xinu_base.specs.declared.lines.TranscriptLine.{TranscriptLine}
use Rattle.xinu_base.specs.declared.lines.TranscriptLine.TheVariants as line
use Rattle.xinu_base.specs.declared.processes.State.TheVariants.{Current, Waiting}
use Rattle.xinu_base.specs.declared.registers.Outcome.{Outcome}
use Rattle.xinu_base.specs.declared.registers.Outcome.TheVariants as outcome
use Rattle.xinu_base.specs.declared.syscalls.Call.{Call}
use Rattle.xinu_model.proofs.FileOutcomes.{effect_one, note_lines, least_le}
use Rattle.xinu_model.proofs.Outcomes.{same_outcome}
use Rattle.xinu_model.specs.Agree.{begins_next}
use Rattle.xinu_model.specs.Calls.{called, continued}
use Rattle.xinu_model.specs.Events.{call_of, exit_call, with_executed, reacted, instruction_step, is_done, stepped, next_file_call, step_with, effect_of, MayChoose, Happens}
use Rattle.xinu_model.specs.Files.Calls.{file_effect}
use Rattle.xinu_model.specs.Files.Syscalls.{files_of, file_step, completing, completed_in}
use Rattle.xinu_model.specs.Files.Work.{FileRequest, FileNote, FileStep, had_turn, took_effect, first_effect, next_effects, turned, calls_completed, least_effects, callers_waiting}
use Rattle.xinu_model.specs.Isa.Exec.{exec}
use Rattle.xinu_model.specs.Machine.{Xinu, EventResult, current_hart, nothing_happens, return_line, switched, end_of_event, replies_of, closed}
use Rattle.xinu_model.specs.Process.Death.{exit}
use Rattle.xinu_model.specs.RawDisk.Callers.{living}
use Rattle.xinu_model.specs.Sound.State.{IsSound}
use Rattle.xinu_model.specs.Sound.Tables.{count_in}
use Rattle.xinu_model.specs.Tables.{process_at, state_at, semaphore_at}
use Rattle.xinu_laws.proofs.FileSyscalls.AtOnce.{next_is}
use Rattle.table_laws.proofs.Lists.Counts.{first_is_counted}
use Rattle.xinu_laws.proofs.Preserve.Events.{state_stepped}
use Rattle.table_laws.proofs.Tables.Unblock.{waiter_waits}

-- how many calls that took effect as the next ones a text begins with
abbrev nexts_led : List TranscriptLine → ℕ
nexts_led (line.File p Next ∷ lines) = suc (nexts_led lines)
nexts_led _ = 0

-- how many calls took effect in the completion with which it begins
abbrev choice_led : List TranscriptLine → ℕ
choice_led (line.File p Finished ∷ lines) = suc (nexts_led lines)
choice_led _ = 0

led_none : (lines : List TranscriptLine) → begins_next lines ≡ false → nexts_led lines ≡ 0
led_none (line.File p Next ∷ lines) e = cc
led_none _ e = refl

-- further effects add just such lines
record Adds (k : ℕ) (before after : List FileNote) : Type 0 where
  notes : List FileNote
  are : after ≡ before ++ notes
  lead : (more : List TranscriptLine) → nexts_led (note_lines notes ++ more) ≡ k + nexts_led more

next_adds : (k : ℕ) (x : FileStep) → k ≤ length x.work.calls → Adds k x.notes (next_effects k x).notes
next_adds zero x h = record { notes = []; are = sym (append-nil x.notes); lead = λ more. (let z : nexts_led more ≡ 0 + nexts_led more = omega arith in z) }
next_adds (suc k) x h = by_calls (λ y g. next_adds k y g) x.work.calls h
  where
    by_calls : ((y : FileStep) → k ≤ length y.work.calls → Adds k y.notes (next_effects k y).notes) → (calls : List FileRequest)
        → suc k ≤ length calls → Adds (suc k) x.notes (next_effects k (first_effect calls Next x)).notes
    by_calls go [] few = absurd (omega (arith, few))
    by_calls go (a ∷ calls) few =
        let one = (effect_one (a ∷ calls) Next x refl (omega (arith, few))).0 in
        let i = go (first_effect (a ∷ calls) Next x) (omega (arith, one, few)) in
        let note = took_effect a Next (file_effect a.call x.work.bytes x.work.system).reply in
        record {
          notes = note ∷ i.notes;
          are = i.are ∙ append_assoc x.notes (note ∷ []) i.notes;
          lead = λ more. (let j = i.lead more in omega (arith, j));
        }

-- what follows the notes of a completion doesn't begin with one
end_leads : (replies : List (ℕ × ℤ)) (was is : ℕ) (more : List TranscriptLine) → begins_next more ≡ false
    → nexts_led ((map return_line replies ++ switched was is) ++ more) ≡ 0
end_leads [] was is more e =
    cond_both (was == is) [] (line.Switch is ∷ []) (λ l. nexts_led (l ++ more) ≡ 0) (λ _. led_none more e) (λ _. refl)
end_leads (r ∷ replies) was is more e = refl

pub after_notes : (notes replies end more : List TranscriptLine) → ((notes ++ replies) ++ end) ++ more ≡ notes ++ ((replies ++ end) ++ more)
after_notes notes replies end more =
    append_assoc (notes ++ replies) end more ∙ append_assoc notes replies (end ++ more)
    ∙ ap (λ x. notes ++ x) (sym (append_assoc replies end more))

-- The text of a completion tells how many calls took effect.
completed_leads : (k : ℕ) (a : FileRequest) (calls : List FileRequest) (s : Xinu) (more : List TranscriptLine)
    → (files_of s).calls ≡ a ∷ calls → k ≤ length (files_of s).calls → begins_next more ≡ false
    → (let x = calls_completed k (file_step s) in choice_led ((end_of_event s.tables.current (note_lines x.notes) (completing x s)).lines ++ more)) ≡ k
completed_leads zero a calls s more e few none =
    let x = calls_completed zero (file_step s) in
    let first : x.notes ≡ had_turn a ∷ [] = ap (λ l. (turned l (file_step s)).notes) e in
    ap (λ n. choice_led (((note_lines n ++ map return_line (replies_of (completing x s))) ++ switched s.tables.current (closed (completing x s)).current) ++ more)) first
completed_leads (suc k) a calls s more e few none =
    let x = calls_completed (suc k) (file_step s) in
    let w = file_step s in
    let note = took_effect a Finished (file_effect a.call w.work.bytes w.work.system).reply in
    let y = first_effect w.work.calls Finished w in
    let first : y.notes ≡ note ∷ [] = ap (λ l. (first_effect l Finished w).notes) e in
    let one = (effect_one w.work.calls Finished w refl (omega (arith, few))).0 in
    let i = next_adds k y (omega (arith, one, few)) in
    let are : x.notes ≡ note ∷ i.notes = i.are ∙ ap (λ n. n ++ i.notes) first in
    let replies = map return_line (replies_of (completing x s)) in
    let end = switched s.tables.current (closed (completing x s)).current in
    let led = i.lead ((replies ++ end) ++ more) in
    let last = end_leads (replies_of (completing x s)) s.tables.current (closed (completing x s)).current more none in
    ap choice_led (after_notes (note_lines x.notes) replies end more)
    ∙ ap (λ n. choice_led (note_lines n ++ ((replies ++ end) ++ more))) are
    ∙ (let z : suc (nexts_led (note_lines i.notes ++ ((replies ++ end) ++ more))) ≡ suc k = omega (arith, led, last) in z)

completed_choice : (calls : List FileRequest) (c d : ℕ) (s : Xinu) (more rest : List TranscriptLine) → (files_of s).calls ≡ calls
    → begins_next more ≡ false → begins_next rest ≡ false → c ≤ length calls - least_effects calls (files_of s)
    → d ≤ length calls - least_effects calls (files_of s) → (completed_in calls c s).lines ++ more ≡ (completed_in calls d s).lines ++ rest
    → c ≡ d
completed_choice [] c d s more rest e m r p q same = omega (arith, p, q)
completed_choice (a ∷ calls) c d s more rest e m r p q same =
    let low = least_effects (a ∷ calls) (files_of s) in
    let l = least_le (a ∷ calls) (files_of s) in
    let n = ap length e in
    let x = completed_leads (low + c) a calls s more e (omega (arith, l, n, p)) m in
    let y = completed_leads (low + d) a calls s rest e (omega (arith, l, n, q)) r in
    let z = ap choice_led same in
    omega (arith, x, y, z)

-- whether a text begins with a call that takes effect as it is made
abbrev begins_done : List TranscriptLine → Bool
begins_done (line.Call p call ∷ line.File q Finished ∷ lines) = true
begins_done _ = false

-- not that of a call whose caller waits
waits_not_done : (p : ℕ) (call : Call) (replies : List (ℕ × ℤ)) (was is : ℕ) (more : List TranscriptLine) → is ≢ was
    → begins_done (((line.Call p call ∷ map return_line replies) ++ switched was is) ++ more) ≡ false
waits_not_done p call [] was is more n =
    cond_both (was == is) [] (line.Switch is ∷ []) (λ l. begins_done ((line.Call p call ∷ l) ++ more) ≡ false)
    (λ e. absurd (n (sym (eqb-true was is e)))) (λ _. refl)
waits_not_done p call (r ∷ replies) was is more n = refl

goes_on_not_done : (replies : List (ℕ × ℤ)) (was is : ℕ) (more : List TranscriptLine) → is ≢ was
    → begins_done ((map return_line replies ++ switched was is) ++ more) ≡ false
goes_on_not_done [] was is more n =
    cond_both (was == is) [] (line.Switch is ∷ []) (λ l. begins_done (l ++ more) ≡ false) (λ e. absurd (n (sym (eqb-true was is e))))
    (λ _. refl)
goes_on_not_done (r ∷ replies) was is more n = refl

-- so a step after which another process is current has no such text
abbrev Undone : Xinu → List TranscriptLine → EventResult → Type 0
Undone s more x = x.state.tables.current ≢ s.tables.current → begins_done (x.lines ++ more) ≡ false

step_not_done : (s : Xinu) (more : List TranscriptLine) → Undone s more (stepped s)
step_not_done s more =
    let left = (process_at s.tables s.tables.current).rest in
    let did = exec (current_hart s) s.memory in
    let goes_on = end_of_event s.tables.current [] (continued left s) in
    cond_both (s.tables.current == 0) (nothing_happens s) (if is_done left then instruction_step s else goes_on) (Undone s more)
    (λ _ n. absurd (n refl))
    (λ _. cond_both (is_done left) (instruction_step s) goes_on (Undone s more)
    (λ _. by_outcome did.outcome (with_executed did s) refl)
    (λ _ n. goes_on_not_done (replies_of (continued left s)) s.tables.current (closed (continued left s)).current more n))
  where
    by_outcome : (o : Outcome) (x : Xinu) → x.tables ≡ s.tables → Undone s more (reacted o x)
    by_outcome outcome.Went x e n = absurd (n (ap (λ t. t.current) e))
    by_outcome outcome.Call x e n =
        let call = call_of (current_hart x) in
        let result = called call.number call.args x in
        waits_not_done x.tables.current call (replies_of result) x.tables.current (closed result).current more
        (λ f. n (f ∙ ap (λ t. t.current) e))
    by_outcome outcome.Exit x e n =
        waits_not_done x.tables.current (exit_call (current_hart x)) (replies_of (exit x)) x.tables.current (closed (exit x)).current more
        (λ f. n (f ∙ ap (λ t. t.current) e))
    by_outcome (outcome.Trap cause) x e n = refl

-- Who makes a call and waits runs no longer.
pub other_runs : (s : Xinu) (a : FileRequest) → IsSound s → next_file_call s ≡ Some a → (stepped s).state.tables.current ≢ s.tables.current
other_runs s a k made same =
    let m = next_is s a made in
    let after = state_stepped s k in
    let t = (stepped s).state.tables in
    let p = s.tables.current in
    let waiters : (semaphore_at t 3).waiters ≡ p ∷ callers_waiting m.more =
    after.devices.files.waiters ∙ ap callers_waiting m.is ∙ ap (λ o. living o ++ callers_waiting m.more) m.caller in
    let waits : state_at t p ≡ Waiting =
    waiter_waits t 3 p after.tables.inside (subst (λ ws. 0 < count_in p ws) (sym waiters) (first_is_counted p (callers_waiting m.more))) in
    let runs : state_at t p ≡ Current = subst (λ q. state_at t q ≡ Current) same after.tables.runs in
    let f = sym waits ∙ runs in
    absurd (cc)

step_choice : (c d : ℕ) (found : Option FileRequest) (s : Xinu) (more rest : List TranscriptLine) → IsSound s → next_file_call s ≡ found
    → c ≤ (if is_some found then 1 else 0) → d ≤ (if is_some found then 1 else 0)
    → (step_with c found s).lines ++ more ≡ (step_with d found s).lines ++ rest → c ≡ d
step_choice c d None s more rest k e p q same = omega (arith, p, q)
step_choice zero zero (Some a) s more rest k e p q same = refl
step_choice zero (suc d) (Some a) s more rest k e p q same =
    let f : true ≡ false = sym (ap begins_done same) ∙ step_not_done s more (other_runs s a k e) in absurd (cc)
step_choice (suc c) zero (Some a) s more rest k e p q same =
    let f : true ≡ false = ap begins_done same ∙ step_not_done s rest (other_runs s a k e) in absurd (cc)
step_choice (suc c) (suc d) (Some a) s more rest k e p q same = omega (arith, p, q)

-- The text of an event tells what was chosen in it.
event_choice : (s : Xinu) (e : Event) (c d : ℕ) (more rest : List TranscriptLine) → IsSound s → begins_next more ≡ false
    → begins_next rest ≡ false → MayChoose s e c → MayChoose s e d → (effect_of s e c).lines ++ more ≡ (effect_of s e d).lines ++ rest
    → c ≡ d
event_choice s Step c d more rest k m r p q same = step_choice c d (next_file_call s) s more rest k refl p q same
event_choice s Disk1 c d more rest k m r p q same = completed_choice (files_of s).calls c d s more rest refl m r p q same
event_choice s Tick c d more rest k m r p q same = omega (arith, p, q)
event_choice s Dump c d more rest k m r p q same = omega (arith, p, q)
event_choice s (Key b) c d more rest k m r p q same = omega (arith, p, q)
event_choice s Tx c d more rest k m r p q same = omega (arith, p, q)
event_choice s Disk0 c d more rest k m r p q same = omega (arith, p, q)
event_choice s Fail0 c d more rest k m r p q same = omega (arith, p, q)
event_choice s Fail1 c d more rest k m r p q same = omega (arith, p, q)

-- One text has one outcome.
pub texts_agree : (old : Xinu) (e : Event) (lines others : List TranscriptLine) (new other : Xinu) (more rest : List TranscriptLine)
    → IsSound old → begins_next more ≡ false → begins_next rest ≡ false → Happens old e lines new → Happens old e others other
    → lines ++ more ≡ others ++ rest → (lines ≡ others) × (new ≡ other)
texts_agree old e lines others new other more rest sound m r h k same =
    same_outcome old e lines others new other h k
    (ap (effect_of old e) (event_choice old e h.choice k.choice more rest sound m r h.allowed k.allowed
    (ap (λ (x : EventResult). x.lines ++ more) h.effect ∙ same ∙ sym (ap (λ (x : EventResult). x.lines ++ rest) k.effect))))

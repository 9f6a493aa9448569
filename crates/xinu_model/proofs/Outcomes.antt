-- The outcomes of an event: there is one, and no other.
use Rattle.std.proofs.Common.{◌≡◌, ◌==◌, ℕ, zero, suc, ◌≤◌, nat_lt, arith, true, false, List, [], ◌∷◌, ◌++◌, map, Option, Some, None, if◌then◌else◌, refl, sym, ap, ◌∙◌, subst, ℤ}
use Rattle.std.specs.Prelude.{is_some}
use Rattle.std.proofs.lemmas.Bool.{cond_both}
use Rattle.std.proofs.lemmas.Bool.Decides.{nat_tests}
use Rattle.xinu_base.specs.declared.events.Event.{Event}
use Rattle.xinu_base.specs.declared.events.Event.TheVariants.{Step, Tick, Key, Tx, Disk0, Disk1, Fail0, Fail1, Dump}
use Rattle.xinu_base.specs.declared.lines.TranscriptLine.{TranscriptLine}
use Rattle.xinu_base.specs.declared.lines.TranscriptLine.TheVariants as line
use Rattle.xinu_base.specs.declared.lines.TranscriptLine.TheVariants.{Switch}
use Rattle.xinu_base.specs.declared.registers.Outcome.{Outcome}
use Rattle.xinu_base.specs.declared.registers.Outcome.TheVariants as outcome
use Rattle.xinu_model.specs.Agree.{begins_next, OutcomesAgree}
use Rattle.xinu_model.specs.Calls.{called, continued}
use Rattle.xinu_model.specs.Clock.{wakeup, quantum_falls, a_tick_later}
use Rattle.xinu_model.specs.Console.Signals.{receiving, sent_in}
use Rattle.xinu_model.specs.Console.Taking.{console_of}
use Rattle.xinu_model.specs.Console.Transmitting.{Sent, transmitted}
use Rattle.xinu_model.specs.Events.{call_of, call_line, exit_call, reacted, is_done, instruction_step, stepped, next_file_call, step_at_once, step_with, effect_of, most_chosen, MayChoose, Happens, with_executed}
use Rattle.xinu_model.specs.Files.Syscalls.{files_of, file_line, at_once}
use Rattle.xinu_model.specs.Files.Work.{FileRequest, issued}
use Rattle.xinu_model.specs.Isa.Exec.{exec}
use Rattle.xinu_model.specs.Machine.{Xinu, EventResult, current_hart, nothing_happens, return_line, switched, end_of_event, replies_of, closed}
use Rattle.xinu_model.specs.Process.Death.{exit}
use Rattle.xinu_model.specs.RawDisk.Calls.{disk_of, serving, served_in}
use Rattle.xinu_model.specs.RawDisk.Completions.{Served, raw_completed}
use Rattle.xinu_model.specs.Tables.{process_at}
use Rattle.xinu_model.proofs.FileOutcomes.{effects_told, end_tells, choices_told, completed_no_next}

-- one choice has one outcome
pub same_outcome : (old : Xinu) (e : Event) (lines others : List TranscriptLine) (new other : Xinu) (h : Happens old e lines new)
    (k : Happens old e others other) → effect_of old e h.choice ≡ effect_of old e k.choice → (lines ≡ others) × (new ≡ other)
same_outcome old e lines others new other h k same =
    let all = sym h.effect ∙ same ∙ k.effect in
    (ap (λ (x : EventResult). x.lines) all, ap (λ (x : EventResult). x.state) all)

-- An event has this outcome at least, in which no more calls on files take effect than have to.
pub least_happens : (old : Xinu) (e : Event) → Happens old e (effect_of old e 0).lines (effect_of old e 0).state
least_happens old e = record { choice = 0; allowed = omega arith; effect = refl }

-- the line of a switch is none of a file call
switch_no_next : (was is : ℕ) → begins_next (switched was is) ≡ false
switch_no_next was is = cond_both (was == is) [] (Switch is ∷ []) (λ l. begins_next l ≡ false) (λ _. refl) (λ _. refl)

-- nor are those of replies before it
replies_no_next : (replies : List (ℕ × ℤ)) (was is : ℕ) → begins_next (map return_line replies ++ switched was is) ≡ false
replies_no_next [] was is = switch_no_next was is
replies_no_next (reply ∷ replies) was is = refl

-- the lines of a step
step_no_next : (s : Xinu) → begins_next (stepped s).lines ≡ false
step_no_next s =
    let rest = (process_at s.tables s.tables.current).rest in
    let did = exec (current_hart s) s.memory in
    cond_both (s.tables.current == 0) (nothing_happens s) (if is_done rest then instruction_step s else end_of_event s.tables.current [] (continued rest s)) (λ (x : EventResult). begins_next x.lines ≡ false)
    (λ _. refl)
    (λ _. cond_both (is_done rest) (instruction_step s) (end_of_event s.tables.current [] (continued rest s)) (λ (x : EventResult). begins_next x.lines ≡ false)
    (λ _. by_outcome did.outcome (with_executed did s))
    (λ _. replies_no_next (replies_of (continued rest s)) s.tables.current (closed (continued rest s)).current))
  where
    by_outcome : (o : Outcome) (x : Xinu) → begins_next (reacted o x).lines ≡ false
    by_outcome outcome.Went x = refl
    by_outcome outcome.Call x = refl
    by_outcome outcome.Exit x = refl
    by_outcome (outcome.Trap cause) x = refl

-- the lines of a transmission
sent_no_next : (sent : Option Sent) (s : Xinu) → begins_next (sent_in sent s).lines ≡ false
sent_no_next None s = refl
sent_no_next (Some sent) s = refl

-- the lines of a completion of the raw disk
served_no_next : (found : Option Served) (s : Xinu) → begins_next (served_in found s).lines ≡ false
served_no_next None s = refl
served_no_next (Some x) s = replies_no_next (replies_of (serving x s)) s.tables.current (closed (serving x s)).current

-- the lines of an event, whether the machine has it or not
step_with_no_next : (choice : ℕ) (found : Option FileRequest) (s : Xinu) → begins_next (step_with choice found s).lines ≡ false
step_with_no_next zero found s = step_no_next s
step_with_no_next (suc choice) None s = step_no_next s
step_with_no_next (suc choice) (Some a) s = refl

event_no_next : (s : Xinu) (e : Event) (choice : ℕ) → begins_next (effect_of s e choice).lines ≡ false
event_no_next s Step choice = step_with_no_next choice (next_file_call s) s
event_no_next s Tick choice =
    replies_no_next (wakeup s).released s.tables.current (quantum_falls (a_tick_later (wakeup s).owes_resched (wakeup s).state.tables)).current
event_no_next s Dump choice = refl
event_no_next s (Key b) choice = replies_no_next (replies_of (receiving b s)) s.tables.current (closed (receiving b s)).current
event_no_next s Tx choice = sent_no_next (transmitted (console_of s)) s
event_no_next s Disk0 choice = served_no_next (raw_completed true (disk_of s)) s
event_no_next s Disk1 choice = completed_no_next (files_of s).calls choice s refl
event_no_next s Fail0 choice = served_no_next (raw_completed false (disk_of s)) s
event_no_next s Fail1 choice = refl

-- a step in which no call on files takes effect tells of none
step_tells : (s : Xinu) → effects_told (stepped s).lines ≡ 0
step_tells s =
    let rest = (process_at s.tables s.tables.current).rest in
    let did = exec (current_hart s) s.memory in
    cond_both (s.tables.current == 0) (nothing_happens s) (if is_done rest then instruction_step s else end_of_event s.tables.current [] (continued rest s))
    (λ (x : EventResult). effects_told x.lines ≡ 0)
    (λ _. refl)
    (λ _. cond_both (is_done rest) (instruction_step s) (end_of_event s.tables.current [] (continued rest s)) (λ (x : EventResult). effects_told x.lines ≡ 0)
    (λ _. by_outcome did.outcome (with_executed did s))
    (λ _. end_tells s.tables.current [] (continued rest s)))
  where
    by_outcome : (o : Outcome) (x : Xinu) → effects_told (reacted o x).lines ≡ 0
    by_outcome outcome.Went x = refl
    by_outcome outcome.Call x =
        let call = call_of (current_hart x) in end_tells x.tables.current (call_line x call ∷ []) (called call.number call.args x)
    by_outcome outcome.Exit x = end_tells x.tables.current (call_line x (exit_call (current_hart x)) ∷ []) (exit x)
    by_outcome (outcome.Trap cause) x = end_tells x.tables.current (line.Trap x.tables.current cause ∷ []) (exit x)

-- and one in which one does tells of it
at_once_tells : (a : FileRequest) (old : Xinu) → effects_told (step_at_once a old).lines ≡ 1
at_once_tells a old =
    let s = with_executed (exec (current_hart old) old.memory) old in
    let x = issued 1 a s.memory (files_of s) in
    end_tells s.tables.current (call_line s (call_of (current_hart s)) ∷ map file_line x.notes) (at_once a s)

-- so a step tells what was chosen in it
step_choices : (c d : ℕ) (found : Option FileRequest) (s : Xinu) → c ≤ (if is_some found then 1 else 0) → d ≤ (if is_some found then 1 else 0)
    → (step_with c found s).lines ≡ (step_with d found s).lines → c ≡ d
step_choices c d None s p q same = omega (arith, p, q)
step_choices zero zero (Some a) s p q same = refl
step_choices zero (suc d) (Some a) s p q same =
    let x = step_tells s in
    let y = at_once_tells a s in
    let z = ap effects_told same in
    absurd (omega (arith, x, y, z))
step_choices (suc c) zero (Some a) s p q same =
    let x = step_tells s in
    let y = at_once_tells a s in
    let z = ap effects_told same in
    absurd (omega (arith, x, y, z))
step_choices (suc c) (suc d) (Some a) s p q same = omega (arith, p, q)

-- The lines of an event tell what was chosen in it.
same_choice : (s : Xinu) (e : Event) (c d : ℕ) → MayChoose s e c → MayChoose s e d → (effect_of s e c).lines ≡ (effect_of s e d).lines → c ≡ d
same_choice s Step c d p q same = step_choices c d (next_file_call s) s p q same
same_choice s Disk1 c d p q same = choices_told c d (files_of s).calls s refl p q same
same_choice s Tick c d p q same = omega (arith, p, q)
same_choice s Dump c d p q same = omega (arith, p, q)
same_choice s (Key b) c d p q same = omega (arith, p, q)
same_choice s Tx c d p q same = omega (arith, p, q)
same_choice s Disk0 c d p q same = omega (arith, p, q)
same_choice s Fail0 c d p q same = omega (arith, p, q)
same_choice s Fail1 c d p q same = omega (arith, p, q)

-- Choices with equal lines have one effect.
same_effect : (s : Xinu) (e : Event) (c d : ℕ) → MayChoose s e c → MayChoose s e d → (effect_of s e c).lines ≡ (effect_of s e d).lines
    → effect_of s e c ≡ effect_of s e d
same_effect s e c d p q same = ap (effect_of s e) (same_choice s e c d p q same)

-- if nothing is chosen there is one choice
forced_choice : (n c d : ℕ) → nat_lt 0 n ≡ false → c ≤ n → d ≤ n → c ≡ d
forced_choice n c d never p q = let none : n ≤ 0 = grind (arith, nat_tests) in omega (arith, none, p, q)

-- Outcomes agree.
pub agree : (old : Xinu) (e : Event) → OutcomesAgree old e
agree old e = record {
  forced = λ never lines others new other h k.
      same_outcome old e lines others new other h k (ap (effect_of old e) (forced_choice (most_chosen old e) h.choice k.choice never h.allowed k.allowed));
  told = λ lines new other h k.
      (same_outcome old e lines lines new other h k
      (same_effect old e h.choice k.choice h.allowed k.allowed (ap (λ (x : EventResult). x.lines) (h.effect) ∙ sym (ap (λ (x : EventResult). x.lines) k.effect)))).1;
  first = λ lines new h. subst (λ (l : List TranscriptLine). begins_next l ≡ false) (ap (λ (x : EventResult). x.lines) h.effect) (event_no_next old e h.choice);
}

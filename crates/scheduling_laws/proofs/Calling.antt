-- A step that prints a call on a semaphore is that call, in a sound state with the same tables.
use Rattle.std.proofs.Common.{◌≡◌, ◌≢◌, ◌⊎◌, inl, inr, ⊎_elim, ℕ, zero, suc, ◌==◌, true, false, cond, ◌||◌, List, [], ◌∷◌, ◌++◌, map, Option, Some, None, refl, sym, ap, subst, ◌∙◌, ℤ}
use Rattle.std.specs.Prelude.{slice_index}
use Rattle.std.proofs.lemmas.Bool.{cond_both, or_cases, eqb-false, eqb-true}
use Rattle.xinu_base.specs.declared.events.Event.{Event}
use Rattle.xinu_base.specs.declared.events.Event.TheVariants.{Step, Tick, Key, Tx, Disk0, Disk1, Fail0, Fail1, Dump}
use Rattle.xinu_base.specs.declared.lines.TranscriptLine.{TranscriptLine}
use Rattle.xinu_base.specs.declared.lines.TranscriptLine.TheVariants as line
use Rattle.xinu_base.specs.declared.registers.Outcome.{Outcome}
use Rattle.xinu_base.specs.declared.registers.Outcome.TheVariants as outcome
use Rattle.xinu_base.specs.declared.syscalls.Call.{Call}
use Rattle.xinu_model.specs.Calls.{calls, called, continued}
use Rattle.xinu_model.specs.Events.{call_of, with_executed, reacted, is_done, instruction_step, stepped, next_file_call, step_at_once, step_with, Happens}
use Rattle.xinu_model.specs.Files.Syscalls.{files_of}
use Rattle.xinu_model.specs.Files.Work.{FileRequest}
use Rattle.xinu_model.specs.Isa.Exec.{exec}
use Rattle.xinu_model.specs.Machine.{Xinu, EventResult, CallResult, current_hart, nothing_happens, end_of_event, closed, replies_of, return_line, switched}
use Rattle.xinu_model.specs.Semaphores.Calls.{semdelete, semreset, wait, signal, signaln}
use Rattle.xinu_model.specs.Sound.State.{IsSound}
use Rattle.xinu_model.specs.Tables.{Tables, process_at}
use Rattle.xinu_model.specs.Words.{signed}
use Rattle.part_laws.specs.Preserve.{MayCallAny}
use Rattle.xinu_laws.proofs.FileSyscalls.AtOnce.{next_is}
use Rattle.xinu_laws.proofs.Preserve.Events.{may_call, may_call_after}
use Rattle.xinu_laws.proofs.Touches.Continued.{continued_touches}
use Rattle.xinu_laws.proofs.Touches.Semaphores.{semdelete_touches, semreset_touches, wait_touches, signal_touches, signaln_touches}
use Rattle.scheduling_laws.specs.Moments.{call_in, first_call}
use Rattle.scheduling_laws.specs.Tokens.{changes_semaphore}
use Rattle.xinu_laws.proofs.FileSyscalls.Chosen.{touched_files, exit_none}
use Rattle.xinu_laws.proofs.Preserve.Within.{sound_where_called}

-- The call is made in a sound state with the tables of before, and the event ends with what it leaves.
pub record IsCalled (old : Xinu) (call : Call) (after : Tables) : Type 0 where
  pub state : Xinu
  pub sound : IsSound state
  pub tables : state.tables ≡ old.tables
  pub not_null : state.tables.current ≢ 0
  pub leaves : after ≡ closed (called call.number call.args state)

-- what the calls on semaphores do
pub deleted_by : (args : List ℕ) (s : Xinu) → called 15 args s ≡ semdelete (slice_index args 0) s
unfolding calls
deleted_by args s = refl

pub reset_by : (args : List ℕ) (s : Xinu) → called 16 args s ≡ semreset (slice_index args 0) (signed (slice_index args 1)) s
unfolding calls
reset_by args s = refl

pub waited_by : (args : List ℕ) (s : Xinu) → called 18 args s ≡ wait (slice_index args 0) s
unfolding calls
waited_by args s = refl

pub signalled_by : (args : List ℕ) (s : Xinu) → called 19 args s ≡ signal (slice_index args 0) s
unfolding calls
signalled_by args s = refl

pub signals_by_many : (args : List ℕ) (s : Xinu) → called 20 args s ≡ signaln (slice_index args 0) (signed (slice_index args 1)) s
unfolding calls
signals_by_many args s = refl

-- a call that changes a semaphore is one of five
pub one_of_five : (number : ℕ) → changes_semaphore number ≡ true
    → (number ≡ 15) ⊎ ((number ≡ 16) ⊎ ((number ≡ 18) ⊎ ((number ≡ 19) ⊎ (number ≡ 20))))
one_of_five number e =
    ⊎_elim (λ f. inl (eqb-true number 15 f)) (λ r. inr
    (⊎_elim (λ f. inl (eqb-true number 16 f)) (λ r. inr
    (⊎_elim (λ f. inl (eqb-true number 18 f)) (λ r. inr
    (⊎_elim (λ f. inl (eqb-true number 19 f)) (λ r. inr (eqb-true number 20 (⊎_elim (λ (f : (number == 20) ≡ true). f) (λ (f : false ≡ true). cc) (or_cases (number == 20) false r))))
    (or_cases (number == 19) (number == 20 || false) r)))
    (or_cases (number == 18) (number == 19 || (number == 20 || false)) r)))
    (or_cases (number == 16) (number == 18 || (number == 19 || (number == 20 || false))) r)))
    (or_cases (number == 15) (number == 16 || (number == 18 || (number == 19 || (number == 20 || false)))) e)

-- none of them changes files
files_stay : (number : ℕ) (args : List ℕ) (s : Xinu) → IsSound s → changes_semaphore number ≡ true
    → files_of (called number args s).call.state ≡ files_of s
files_stay number args s k e =
    let P = λ (n : ℕ). files_of (called n args s).call.state ≡ files_of s in
    let keeps = λ (h : CallResult). files_of h.call.state ≡ files_of s in
    ⊎_elim (λ f. subst P (sym f) (subst keeps (sym (deleted_by args s)) ((semdelete_touches (slice_index args 0) s k).parts.devices.files refl)))
    (λ r. ⊎_elim (λ f. subst P (sym f) (subst keeps (sym (reset_by args s)) ((semreset_touches (slice_index args 0) (signed (slice_index args 1)) s k).parts.devices.files refl)))
    (λ r. ⊎_elim (λ f. subst P (sym f) (subst keeps (sym (waited_by args s)) ((wait_touches (slice_index args 0) s k).parts.devices.files refl)))
    (λ r. ⊎_elim (λ f. subst P (sym f) (subst keeps (sym (signalled_by args s)) ((signal_touches (slice_index args 0) s k).parts.devices.files refl)))
    (λ f. subst P (sym f) (subst keeps (sym (signals_by_many args s)) ((signaln_touches (slice_index args 0) (signed (slice_index args 1)) s k).parts.devices.files refl)))
    r) r) r) (one_of_five number e)

-- what begins with answers or a switch doesn't begin with a call
none_first : (replies : List (ℕ × ℤ)) (was is : ℕ) → first_call (map return_line replies ++ switched was is) ≡ None
none_first (r ∷ replies) was is = refl
none_first [] was is = cond_both (was == is) [] (line.Switch is ∷ []) (λ l. first_call l ≡ None) (λ _. refl) (λ _. refl)

-- The step tells of a call that changes a semaphore: that is the call that it is.
abbrev Tells : Xinu → EventResult → Type 0
Tells old r = (call : Call) → first_call r.lines ≡ Some call → changes_semaphore call.number ≡ true → IsCalled old call r.state.tables

-- after an instruction
reacted_tells : (o : Outcome) (old s : Xinu) → MayCallAny s → s.tables ≡ old.tables → Tells old (reacted o s)
reacted_tells outcome.Went old s c e call first changing = cc
reacted_tells outcome.Call old s c e call first changing =
    let made = call_of (current_hart s) in
    let same : made ≡ call = cc in
    subst (λ (x : Call). IsCalled old x (closed (called made.number made.args s))) same
    (record { state = s; sound = sound_where_called s c; tables = e; not_null = c.may.not_null; leaves = refl })
reacted_tells outcome.Exit old s c e call first changing =
    let number : 9 ≡ call.number = cc in
    let f : changes_semaphore 9 ≡ true = subst (λ n. changes_semaphore n ≡ true) (sym number) changing in
    absurd (cc)
reacted_tells (outcome.Trap cause) old s c e call first changing = cc

stepped_tells : (s : Xinu) → IsSound s → Tells s (stepped s)
stepped_tells s k =
    let left = (process_at s.tables s.tables.current).rest in
    let did = exec (current_hart s) s.memory in
    let goes_on = end_of_event s.tables.current [] (continued left s) in
    cond_both (s.tables.current == 0) (nothing_happens s) (cond (is_done left) (instruction_step s) goes_on) (Tells s)
    (λ _ call first changing. cc)
    (λ b. let c = may_call s k (eqb-false s.tables.current 0 b) in
    cond_both (is_done left) (instruction_step s) goes_on (Tells s)
    (λ _. reacted_tells did.outcome s (with_executed did s) (may_call_after s c) refl)
    (λ _ call first changing.
    let none = none_first (replies_of (continued left s)) s.tables.current (closed (continued left s)).current in
    let f = sym none ∙ first in cc))

-- A step that tells of such a call makes no call on files,
abbrev Spares : Xinu → EventResult → Type 0
Spares s r = (files_of s).calls ≡ [] → (files_of r.state).calls ≡ []

reacted_spares : (o : Outcome) (s : Xinu) → IsSound s → changes_semaphore (call_of (current_hart s)).number ≡ true → Spares s (reacted o s)
reacted_spares outcome.Went s k changing none = none
reacted_spares outcome.Call s k changing none =
    let call = call_of (current_hart s) in ap (λ w. w.calls) (files_stay call.number call.args s k changing) ∙ none
reacted_spares outcome.Exit s k changing none = exit_none s none
reacted_spares (outcome.Trap cause) s k changing none = exit_none s none

stepped_spares : (s : Xinu) → IsSound s → changes_semaphore (call_of (current_hart (with_executed (exec (current_hart s) s.memory) s))).number ≡ true
    → Spares s (stepped s)
stepped_spares s k changing =
    let left = (process_at s.tables s.tables.current).rest in
    let did = exec (current_hart s) s.memory in
    let goes_on = end_of_event s.tables.current [] (continued left s) in
    cond_both (s.tables.current == 0) (nothing_happens s) (cond (is_done left) (instruction_step s) goes_on) (Spares s)
    (λ _ none. none)
    (λ b. let c = may_call s k (eqb-false s.tables.current 0 b) in
    cond_both (is_done left) (instruction_step s) goes_on (Spares s)
    (λ _. reacted_spares did.outcome (with_executed did s) (sound_where_called (with_executed did s) (may_call_after s c)) changing)
    (λ _ none. ap (λ w. w.calls) ((continued_touches left s k).parts.devices.files (touched_files left)) ∙ none))

-- so that none takes effect in it as it is made.
at_once_tells : (a : FileRequest) (s : Xinu) → next_file_call s ≡ Some a → IsSound s → Tells s (step_at_once a s)
at_once_tells a s made k call first changing =
    let did = exec (current_hart s) s.memory in
    let u = with_executed did s in
    let same : call_of (current_hart u) ≡ call = cc in
    let m = next_is s a made in
    let none = stepped_spares s k (subst (λ (x : Call). changes_semaphore x.number ≡ true) (sym same) changing) m.none in
    let f = sym none ∙ m.is in
    absurd (cc)

step_with_tells : (choice : ℕ) (found : Option FileRequest) (s : Xinu) → next_file_call s ≡ found → IsSound s → Tells s (step_with choice found s)
step_with_tells zero found s e k = stepped_tells s k
step_with_tells (suc choice) None s e k = stepped_tells s k
step_with_tells (suc choice) (Some a) s e k = at_once_tells a s e k

-- An event that tells of a call that changes a semaphore is that call.
pub event_tells : (old : Xinu) (e : Event) (lines : List TranscriptLine) (new : Xinu) → IsSound old → Happens old e lines new → (call : Call)
    → call_in e lines ≡ Some call → changes_semaphore call.number ≡ true → IsCalled old call new.tables
event_tells old Step lines new k h call made changing =
    subst (λ (x : Xinu). IsCalled old call x.tables) (ap (λ (r : EventResult). r.state) h.effect)
    (step_with_tells h.choice (next_file_call old) old refl k call (ap (λ (r : EventResult). first_call r.lines) h.effect ∙ made) changing)
event_tells old Tick lines new k h call made changing = cc
event_tells old (Key c) lines new k h call made changing = cc
event_tells old Tx lines new k h call made changing = cc
event_tells old Disk0 lines new k h call made changing = cc
event_tells old Disk1 lines new k h call made changing = cc
event_tells old Fail0 lines new k h call made changing = cc
event_tells old Fail1 lines new k h call made changing = cc
event_tells old Dump lines new k h call made changing = cc

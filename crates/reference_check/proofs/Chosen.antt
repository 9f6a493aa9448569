-- A machine step by what the current process's instruction came to: which call on files may take effect in it.
use Rattle.std.proofs.Common.{◌≡◌, ◌≢◌, ◌∙◌, ◌+◌, ◌==◌, ◌++◌, ℕ, zero, suc, Bool, true, false, cond, List, [], ◌∷◌, map, Option, Some, None, refl, sym, ap, subst}
use Rattle.std.specs.List.{AllByRecursion}
use Rattle.std.specs.Prelude.{if◌then◌else◌}
use Rattle.std.proofs.lemmas.Bool.{cond-true, eq-eqb, ne_eqb}
use Rattle.reference_check.specs.Leaving.{NoneMade}
use Rattle.reference_check.specs.Steps.{asked_with, call_made, call_result, called_with, done_told, ends_at_once, reacted_with}
use Rattle.reference_check.proofs.Made.{continued_none, none_if_same}
use Rattle.reference_check.specs.Bounds.{IsWithin}
use Rattle.transcript_laws.specs.Choices.{says_done, step_told}
use Rattle.xinu_base.specs.declared.lines.TranscriptLine.{TranscriptLine}
use Rattle.xinu_base.specs.declared.processes.Rest.{Rest}
use Rattle.xinu_base.specs.declared.processes.Rest.TheVariants.{Nothing}
use Rattle.xinu_base.specs.declared.registers.Outcome.{Outcome}
use Rattle.xinu_base.specs.declared.registers.Outcome.TheVariants as outcome
use Rattle.part_laws.specs.Preserve.{MayCallAny}
use Rattle.xinu_laws.proofs.FileSyscalls.Chosen.{exit_none}
use Rattle.xinu_laws.proofs.Preserve.Calls.{called_keeps, sound_where_called}
use Rattle.xinu_laws.proofs.Preserve.Events.{may_call, may_call_after}
use Rattle.xinu_model.specs.Calls.{continued}
use Rattle.xinu_model.specs.Events.{call_line, call_of, instruction_step, is_done, made_first, next_file_call, reacted, step_with, stepped, with_executed}
use Rattle.xinu_model.specs.Files.Calls.{FileCall}
use Rattle.xinu_model.specs.Files.Rest.{are_calls}
use Rattle.xinu_model.specs.Files.Sound.{IsFileRequest}
use Rattle.xinu_model.specs.Files.Syscalls.{awaits_files, completed_in, completing, file_line, file_step, files_of, request_for}
use Rattle.xinu_model.specs.Files.Work.{FileRequest, calls_completed, least_effects, queued_after}
use Rattle.xinu_model.specs.Isa.Exec.{exec}
use Rattle.xinu_model.specs.Machine.{CallResult, EventResult, Xinu, current_hart, end_of_event, nothing_happens}
use Rattle.xinu_model.specs.Sound.State.{IsSound}
use Rattle.xinu_model.specs.Tables.{process_at}

-- no call on files is found if none is made
made_none : (p : ℕ) (before after : List FileRequest) → (before ≡ [] → after ≡ []) → made_first p before after ≡ None
made_none p [] after none = ap (λ l. made_first p [] l) (none refl)
made_none p (b ∷ before) after none = refl

next_none : (s : Xinu) → NoneMade s (stepped s).state → next_file_call s ≡ None
unfolding next_file_call
next_none s none = made_none s.tables.current (files_of s).calls (files_of (stepped s).state).calls none

-- a step in which none is found is the same whatever is chosen
waits_only : (choice : ℕ) (s : Xinu) → step_with choice None s ≡ stepped s
waits_only zero s = refl
waits_only (suc choice) s = refl

-- A text tells of the call on files that a step makes whether it takes effect, if the step makes one.
pub step_along : (text : List ℕ) (found : Option FileRequest) (s : Xinu) → step_with (done_told text) found s ≡ step_with (step_told found text) found s
step_along text None s = waits_only (done_told text) s
step_along text (Some a) s = refl

only_step : (choice : ℕ) (s : Xinu) (x : EventResult) → stepped s ≡ x → NoneMade s x.state → step_with choice (next_file_call s) s ≡ x
only_step choice s x is none =
    ap (λ f. step_with choice f s) (next_none s (subst (λ (y : EventResult). NoneMade s y.state) (sym is) none)) ∙ waits_only choice s ∙ is

-- The null process does nothing.
pub null_step : (choice : ℕ) (s : Xinu) → s.tables.current ≡ 0 → step_with choice (next_file_call s) s ≡ nothing_happens s
null_step choice s null =
    let left = (process_at s.tables s.tables.current).rest in
    only_step choice s (nothing_happens s)
    (cond-true (s.tables.current == 0) (nothing_happens s)
    (if is_done left then instruction_step s else end_of_event s.tables.current [] (continued left s))
    (eq-eqb s.tables.current 0 null))
    (none_if_same s s refl)

-- another process's step, by whether something is left of its call
runs_on : (s : Xinu) (b : Bool) → s.tables.current ≢ 0 → is_done (process_at s.tables s.tables.current).rest ≡ b
    → stepped s ≡ cond b (instruction_step s) (end_of_event s.tables.current [] (continued (process_at s.tables s.tables.current).rest s))
runs_on s b n is =
    let left = (process_at s.tables s.tables.current).rest in
    let goes_on = end_of_event s.tables.current [] (continued left s) in
    ap (λ c. cond c (nothing_happens s) (cond (is_done left) (instruction_step s) goes_on)) (ne_eqb s.tables.current 0 n)
    ∙ ap (λ c. cond c (instruction_step s) goes_on) is

is_not_done : (left : Rest) → left ≢ Nothing → is_done left ≡ false
is_not_done Nothing n = absurd (n refl)
is_not_done _ n = refl

-- Who waited in a call goes on with it.
pub continuing_step : (choice : ℕ) (s : Xinu) → IsSound s → s.tables.current ≢ 0 → (process_at s.tables s.tables.current).rest ≢ Nothing
    → step_with choice (next_file_call s) s ≡ end_of_event s.tables.current [] (continued (process_at s.tables s.tables.current).rest s)
continuing_step choice s k n left =
    let rest = (process_at s.tables s.tables.current).rest in
    only_step choice s (end_of_event s.tables.current [] (continued rest s)) (runs_on s false n (is_not_done rest left)) (continued_none rest s k)

-- the step of a call, by the call on files that is found
found_called : (choice : ℕ) (found : Option FileRequest) (s : Xinu)
    → stepped s ≡ reacted outcome.Call (with_executed (exec (current_hart s) s.memory) s)
    → step_with choice found s ≡ called_with choice found (with_executed (exec (current_hart s) s.memory) s)
found_called zero found s is = is
found_called (suc choice) None s is = is
found_called (suc choice) (Some a) s is = refl

next_found : (s : Xinu) → stepped s ≡ reacted outcome.Call (with_executed (exec (current_hart s) s.memory) s)
    → next_file_call s ≡ call_made (with_executed (exec (current_hart s) s.memory) s)
unfolding next_file_call
next_found s is = ap (λ (x : EventResult). made_first s.tables.current (files_of s).calls (files_of x.state).calls) is

by_outcome : (choice : ℕ) (s : Xinu) (o : Outcome) → stepped s ≡ reacted o (with_executed (exec (current_hart s) s.memory) s)
    → step_with choice (next_file_call s) s ≡ reacted_with choice o (with_executed (exec (current_hart s) s.memory) s)
by_outcome choice s outcome.Went is =
    let u = with_executed (exec (current_hart s) s.memory) s in only_step choice s (nothing_happens u) is (none_if_same s u refl)
by_outcome choice s outcome.Call is =
    ap (λ f. step_with choice f s) (next_found s is)
    ∙ found_called choice (call_made (with_executed (exec (current_hart s) s.memory) s)) s is
by_outcome choice s outcome.Exit is =
    let u = with_executed (exec (current_hart s) s.memory) s in only_step choice s (reacted outcome.Exit u) is (exit_none u)
by_outcome choice s (outcome.Trap cause) is =
    let u = with_executed (exec (current_hart s) s.memory) s in only_step choice s (reacted (outcome.Trap cause) u) is (exit_none u)

-- Of whose call nothing is left, that carries out an instruction.
pub instruction_chosen : (choice : ℕ) (s : Xinu) → s.tables.current ≢ 0 → (process_at s.tables s.tables.current).rest ≡ Nothing
    → step_with choice (next_file_call s) s ≡ reacted_with choice (exec (current_hart s) s.memory).outcome (with_executed (exec (current_hart s) s.memory) s)
instruction_chosen choice s n done =
    by_outcome choice s (exec (current_hart s) s.memory).outcome (runs_on s true n (ap is_done done))

-- what is within bounds before an instruction is after it
pub within_executed : (n : ℕ) (s : Xinu) → s.tables.current ≢ 0 → IsWithin n s → IsWithin n (with_executed (exec (current_hart s) s.memory) s)
within_executed n s not_null w =
    let u = with_executed (exec (current_hart s) s.memory) s in
    record {
      sound = sound_where_called u (may_call_after s (may_call s w.sound not_null));
      ticks = w.ticks;
      numbers = w.numbers;
      blocks = w.blocks;
    }

-- A call that makes none is the same whatever is chosen.
pub done_called : (choice : ℕ) (s : Xinu) (r : CallResult) → r ≡ call_result s → NoneMade s r.call.state
    → called_with choice (call_made s) s ≡ end_of_event s.tables.current (call_line s (call_of (current_hart s)) ∷ []) r
done_called choice s r is none =
    let p = s.tables.current in
    let made : call_made s ≡ None =
    made_none p (files_of s).calls (files_of (call_result s).call.state).calls (subst (λ (x : CallResult). NoneMade s x.call.state) is none) in
    ap (λ f. called_with choice f s) made ∙ alone choice ∙ ap (λ (x : CallResult). end_of_event p (call_line s (call_of (current_hart s)) ∷ []) x) (sym is)
  where
    alone : (c : ℕ) → called_with c None s ≡ reacted outcome.Call s
    alone zero = refl
    alone (suc c) = refl

-- the call on files that is asked for is the one that is found, if none is before it
asked_found : (s : Xinu) (call : FileCall) (at : ℕ) → awaits_files call at s ≡ call_result s → (files_of s).calls ≡ []
    → call_made s ≡ Some (request_for call at s)
asked_found s call at is none =
    let p = s.tables.current in
    let a = request_for call at s in
    ap (λ (x : CallResult). made_first p (files_of s).calls (files_of x.call.state).calls) (sym is)
    ∙ ap (λ l. made_first p l (queued_after l a s.memory (files_of s)).calls) none
    ∙ ap (λ b. if b then Some a else None) (eq-eqb p p refl)

-- A call that asks for files, by which calls are before it.
pub asked_called : (choice : ℕ) (s : Xinu) (call : FileCall) (at : ℕ) → awaits_files call at s ≡ call_result s
    → called_with choice (call_made s) s ≡ asked_with choice (files_of s).calls (request_for call at s) (call_line s (call_of (current_hart s)) ∷ []) s
asked_called choice s call at is = by_calls choice (files_of s).calls refl
  where
    first : List TranscriptLine
    first = call_line s (call_of (current_hart s)) ∷ []

    waits : reacted outcome.Call s ≡ end_of_event s.tables.current first (awaits_files call at s)
    waits = ap (λ (x : CallResult). end_of_event s.tables.current first x) (sym is)

    by_calls : (c : ℕ) (l : List FileRequest) → (files_of s).calls ≡ l
        → called_with c (call_made s) s ≡ asked_with c l (request_for call at s) first s
    by_calls zero l e = waits
    by_calls (suc c) [] e = ap (λ f. called_with (suc c) f s) (asked_found s call at is e)
    by_calls (suc c) (b ∷ l) e =
        ap (λ before. called_with (suc c) (made_first s.tables.current before (files_of (call_result s).call.state).calls) s) e ∙ waits

-- A call on files that has another before it waits, whatever is chosen.
pub asked_waits : (choice : ℕ) (before : List FileRequest) (a : FileRequest) (first : List TranscriptLine) (s : Xinu) → are_calls before ≡ true
    → asked_with choice before a first s ≡ end_of_event s.tables.current first (awaits_files a.call a.at s)
asked_waits choice [] a first s some = absurd (cc)
asked_waits zero (b ∷ before) a first s some = refl
asked_waits (suc choice) (b ∷ before) a first s some = refl

-- It takes effect at once if none is before it and the text tells so.
pub asked_at_once : (text : List ℕ) (calls : List FileRequest) (a : FileRequest) (first : List TranscriptLine) (s : Xinu)
    → are_calls calls ≡ false → says_done text ≡ true → asked_with (done_told text) calls a first s ≡ ends_at_once a first s
asked_at_once text [] a first s none says = ap (λ (b : Bool). asked_with (if b then 1 else 0) [] a first s) says
asked_at_once text (b ∷ calls) a first s none says = absurd (cc)

-- A good completion of the disk, with a call under way.
pub completed_is : (choice : ℕ) (s : Xinu) (l : List FileRequest) → are_calls l ≡ true
    → completed_in l choice s ≡ (let x = calls_completed (least_effects l (files_of s) + choice) (file_step s) in end_of_event s.tables.current (map file_line x.notes) (completing x s))
completed_is choice s [] some = absurd (cc)
completed_is choice s (a ∷ l) some = refl

-- what holds of all elements holds of the last
last_holds : {A : Type 0} (P : A → Type 0) (xs : List A) (y : A) → AllByRecursion P (xs ++ y ∷ []) → P y
last_holds P [] y h = h.0
last_holds P (x ∷ xs) y h = last_holds P xs y h.1

-- A call on files that is asked for can be carried out.
pub asked_right : (s : Xinu) (call : FileCall) (at : ℕ) → MayCallAny s → awaits_files call at s ≡ call_result s
    → IsFileRequest (request_for call at s)
asked_right s call at may is =
    let k = called_keeps (call_of (current_hart s)).number (call_of (current_hart s)).args s may in
    let all : AllByRecursion IsFileRequest (files_of (call_result s).call.state).calls = k.devices.files.itself.calls in
    queued (files_of s).calls (subst (λ (x : CallResult). AllByRecursion IsFileRequest (files_of x.call.state).calls) (sym is) all)
  where
    queued : (l : List FileRequest) → AllByRecursion IsFileRequest (queued_after l (request_for call at s) s.memory (files_of s)).calls
        → IsFileRequest (request_for call at s)
    queued [] h = h.0
    queued (b ∷ l) h = last_holds IsFileRequest (b ∷ l) (request_for call at s) h

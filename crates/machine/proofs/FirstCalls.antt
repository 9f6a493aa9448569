-- A call on files that takes effect as it is made.
use Rattle.std.proofs.Common.{◌≡◌, ◌≢◌, ◌∙◌, ◌≤◌, ℕ, Bool, cond, List, [], ◌∷◌, Option, Some, None, refl, sym, ap, subst, arith}
use Rattle.std.specs.Prelude.{if◌then◌else◌, is_some}
use Rattle.std.proofs.lemmas.Bool.{eq-eqb, ne_eqb}
use Rattle.host_port.specs.Outside.{Outside}
use Rattle.host_port.specs.Printing.{Printing}
use Rattle.kernel_state.specs.Beginnings.{BeginsAs}
use Rattle.kernel_state.specs.declared.begun.Begun.{Begun}
use Rattle.kernel_state.specs.declared.begun.Begun.TheVariants.{AtOnce, ByRow}
use Rattle.machine.specs.FileEffects.{ChosenPrints, MayTake, ReactPrints, made_lines, reacted_with}
use Rattle.machine.specs.Printed.{EffectPrints}
use Rattle.xinu_base.specs.declared.events.Event.TheVariants.{Step}
use Rattle.xinu_base.specs.declared.lines.FileMoment.TheVariants.{Finished}
use Rattle.xinu_base.specs.declared.lines.TranscriptLine.{TranscriptLine}
use Rattle.xinu_base.specs.declared.lines.TranscriptLine.TheVariants as line
use Rattle.xinu_base.specs.declared.processes.Rest.{Rest}
use Rattle.xinu_base.specs.declared.processes.Rest.TheVariants.{Nothing}
use Rattle.xinu_base.specs.declared.registers.Outcome.{Outcome}
use Rattle.xinu_base.specs.declared.registers.Outcome.TheVariants as outcome
use Rattle.xinu_model.specs.Calls.{called, continued}
use Rattle.xinu_model.specs.Events.{call_line, call_of, instruction_step, is_done, made_first, next_file_call, reacted, step_with, stepped, with_executed}
use Rattle.xinu_model.specs.Files.Syscalls.{awaits_files, files_of, request_for}
use Rattle.xinu_model.specs.Files.Work.{FileRequest, queued_after}
use Rattle.xinu_model.specs.Isa.Exec.{exec}
use Rattle.xinu_model.specs.Machine.{CallResult, current_hart, end_of_event, EventResult, nothing_happens, Xinu}
use Rattle.xinu_model.specs.RawDisk.Callers.{is_caller}
use Rattle.xinu_model.specs.Tables.{process_at}

-- A call that began and was printed is what came of the instruction.
pub call_began : (begun : Begun) (s new : Xinu) (result : CallResult) (panics : Bool) (a b : Printing) (h i : Outside)
    → BeginsAs begun (called (call_of (current_hart s)).number (call_of (current_hart s)).args s) s result
    → EffectPrints (end_of_event s.tables.current (call_line s (call_of (current_hart s)) ∷ made_lines begun s.tables.current) result) new panics a b h i
    → ReactPrints outcome.Call s new panics a b h i
call_began (ByRow next) s new result panics a b h i is prints =
    let p = s.tables.current in
    let first : List TranscriptLine = call_line s (call_of (current_hart s)) ∷ [] in
    record { made = None; may = tt; prints = subst (λ r. EffectPrints (end_of_event p first r) new panics a b h i) is prints }
call_began (AtOnce reply) s new result panics a b h i is prints =
    let p = s.tables.current in
    let first : List TranscriptLine = call_line s (call_of (current_hart s)) ∷ line.File p Finished ∷ [] in
    record {
      made = Some (request_for is.call is.at s);
      may = record { is_call = refl; caller = refl; alone = is.alone; waits = is.waits };
      prints = subst (λ r. EffectPrints (end_of_event p first r) new panics a b h i) is.effect prints;
    }

-- What came of an instruction with which no call on files took effect.
pub without_files : (o r : Outcome) (s new : Xinu) (panics : Bool) (a b : Printing) (h i : Outside) → o ≡ r → EffectPrints (reacted r s) new panics a b h i
    → ReactPrints o s new panics a b h i
without_files o r s new panics a b h i is prints =
    record { made = None; may = tt; prints = subst (λ x. EffectPrints (reacted x s) new panics a b h i) (sym is) prints }

-- A step in which nothing is left of a call is an instruction.
stepped_is : (s : Xinu) → s.tables.current ≢ 0 → (process_at s.tables s.tables.current).rest ≡ Nothing → stepped s ≡ instruction_step s
stepped_is s n done =
    let left = (process_at s.tables s.tables.current).rest in
    let goes_on = end_of_event s.tables.current [] (continued left s) in
    ap (λ b. cond b (nothing_happens s) (cond (is_done left) (instruction_step s) goes_on)) (ne_eqb s.tables.current 0 n)
    ∙ ap (λ (k : Rest). cond (is_done k) (instruction_step s) goes_on) done

-- The one call that a step makes may take effect in it.
next_made : (s : Xinu) (a : FileRequest) → (files_of s).calls ≡ [] → a.caller ≡ Some s.tables.current → (files_of (stepped s).state).calls ≡ a ∷ []
    → next_file_call s ≡ Some a
unfolding next_file_call
next_made s a alone caller after =
    let p = s.tables.current in
    let taken : Option ℕ → Option FileRequest = λ o. if is_caller p o then Some a else None in
    ap (λ l. made_first p l (files_of (stepped s).state).calls) alone ∙ ap (λ l. made_first p [] l) after ∙ ap taken caller
    ∙ ap (λ b. if b then Some a else None) (eq-eqb p p refl)

-- a call on files that waits is under way alone, if none was before it
alone_after : (a : FileRequest) (s : Xinu) → (files_of s).calls ≡ [] → a.caller ≡ Some s.tables.current
    → (files_of (awaits_files a.call a.at s).call.state).calls ≡ a ∷ []
alone_after a s alone caller =
    let made = request_for a.call a.at s in
    let same : made ≡ a = ap (λ (c : Option ℕ). let r : FileRequest = record { caller = c; call = a.call; at = a.at } in r) (sym caller) in
    ap (λ l. (queued_after l made s.memory (files_of s)).calls) alone ∙ ap (λ (x : FileRequest). x ∷ []) same

-- What came of an instruction is what the step did, with the call that took effect in it as what was chosen.
pub step_chosen : (old new : Xinu) (panics : Bool) (a b : Printing) (h i : Outside) → old.tables.current ≢ 0 → (process_at old.tables old.tables.current).rest ≡ Nothing
    → ReactPrints (exec (current_hart old) old.memory).outcome (with_executed (exec (current_hart old) old.memory) old) new panics a b h i
    → ChosenPrints old Step new panics a b h i
step_chosen old new panics a b h i n done k = by_made k.made k.may k.prints
  where
    s : Xinu
    s = with_executed (exec (current_hart old) old.memory) old

    o : Outcome
    o = (exec (current_hart old) old.memory).outcome

    by_made : (made : Option FileRequest) → MayTake made o s → EffectPrints (reacted_with made o s) new panics a b h i → ChosenPrints old Step new panics a b h i
    by_made None may prints =
        let e : stepped old ≡ reacted o s = stepped_is old n done in
        record {
          choice = 0;
          allowed = omega arith;
          prints = subst (λ x. EffectPrints x new panics a b h i) (sym e) prints;
          panics = ap (λ (x : EventResult). x.panics) e ∙ prints.panics;
        }
    by_made (Some x) may prints =
        let p = s.tables.current in
        let first : List TranscriptLine = call_line s (call_of (current_hart s)) ∷ [] in
        let e : stepped old ≡ end_of_event p first (awaits_files x.call x.at s) =
        stepped_is old n done ∙ ap (λ r. reacted r s) may.is_call ∙ ap (λ (r : CallResult). end_of_event p first r) may.waits in
        let made : next_file_call old ≡ Some x =
        next_made old x may.alone may.caller (ap (λ (r : EventResult). (files_of r.state).calls) e ∙ alone_after x s may.alone may.caller) in
        record {
          choice = 1;
          allowed = subst (λ (f : Option FileRequest). 1 ≤ (if is_some f then 1 else 0)) (sym made) (omega arith);
          prints = subst (λ f. EffectPrints (step_with 1 f old) new panics a b h i) (sym made) prints;
          panics = ap (λ (r : EventResult). r.panics) e ∙ prints.panics;
        }

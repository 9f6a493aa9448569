-- What a step and the call in it print and leave, by what the code has of them.
use Rattle.std.proofs.Common.{◌≡◌, ◌≢◌, ◌∙◌, ℕ, List, [], ◌∷◌, Result, sym, ap, subst}
use Rattle.std.specs.Prelude.{IfOk}
use Rattle.reference_check.specs.Leaving.{Leaves, NoneMade}
use Rattle.reference_check.specs.Steps.{asked_with, call_made, call_result, called_with}
use Rattle.reference_check.proofs.Chosen.{asked_called, asked_right, done_called}
use Rattle.reference_state.specs.Answers.{came_to}
use Rattle.reference_state.specs.FileCalls.{file_call_of}
use Rattle.reference_state.specs.Happened.{happened}
use Rattle.reference_state.specs.declared.answers.Answer.{Answer}
use Rattle.reference_state.specs.declared.ending.Happened.{Happened}
use Rattle.reference_state.specs.declared.files.FileCall.{FileCall}
use Rattle.reference_switch.specs.Outcomes.{comes_to}
use Rattle.reference_switch.specs.declared.outcomes.DeviceOutcome.{DeviceOutcome}
use Rattle.reference_switch.specs.declared.outcomes.DeviceOutcome.TheVariants as outcome
use Rattle.xinu_base.specs.declared.lines.TranscriptLine.{TranscriptLine}
use Rattle.xinu_base.specs.declared.lines.TranscriptLine.TheVariants as line
use Rattle.xinu_base.specs.declared.syscalls.Call.{Call}
use Rattle.xinu_laws.proofs.Preserve.Events.{may_call}
use Rattle.xinu_model.specs.Calls.{called}
use Rattle.xinu_model.specs.Events.{call_line, call_of}
use Rattle.xinu_model.specs.Files.Sound.{IsFileRequest}
use Rattle.xinu_model.specs.Files.Syscalls.{files_of, request_for}
use Rattle.xinu_model.specs.Machine.{CallState, Xinu, current_hart, end_of_event}
use Rattle.xinu_model.specs.Sound.State.{IsSound}

-- What is known as a call was asked or done: the call and its caller, the line of it, and what it came to.
pub record WasCalled (s : Xinu) (caller : ℕ) (call : Call) (first : List TranscriptLine) (d e : CallState) (o : DeviceOutcome) : Type 0 where
  pub was : d.state ≡ s
  pub runs : caller ≡ s.tables.current
  pub asks : call ≡ call_of (current_hart s)
  pub says : first ≡ line.Call caller call ∷ []
  pub came : comes_to e o ≡ called call.number call.args s
  pub leaves : Leaves d o e

module _ {s : Xinu} {caller : ℕ} {call : Call} {first : List TranscriptLine} {d e : CallState} {o : DeviceOutcome} (k : WasCalled s caller call first d e o) where
  -- its line is the definition's, and so is what it came to
  first_is : first ≡ call_line s (call_of (current_hart s)) ∷ []
  first_is =
      k.says ∙ ap (λ p. let l : List TranscriptLine = line.Call p call ∷ [] in l) k.runs
      ∙ ap (λ (x : Call). let l : List TranscriptLine = line.Call s.tables.current x ∷ [] in l) k.asks

  result_is : comes_to e o ≡ call_result s
  result_is = k.came ∙ ap (λ (x : Call). called x.number x.args s) k.asks

  -- A call that went so ends its event.
  pub done_step : {E : Type 0} (choice : ℕ) (a : Answer) (r : Result Happened E) (u : Xinu) → o ≡ outcome.Done a
      → IfOk r (λ h. happened h u ≡ end_of_event caller first (came_to e a)) → IfOk r (λ h. happened h u ≡ called_with choice (call_made s) s)
  done_step choice a r u is h =
      let came : came_to e a ≡ call_result s = subst (λ x. comes_to e x ≡ call_result s) is result_is in
      let leaves : NoneMade d.state e.state = subst (λ x. Leaves d x e) is k.leaves in
      let none : NoneMade s e.state = subst (λ (x : Xinu). NoneMade x e.state) k.was leaves in
      let ends : end_of_event caller first (came_to e a) ≡ called_with choice (call_made s) s =
      ap (λ p. end_of_event p first (came_to e a)) k.runs ∙ ap (λ l. end_of_event s.tables.current l (came_to e a)) first_is
      ∙ sym (done_called choice s (came_to e a) came none) in
      subst (λ x. IfOk r (λ h. happened h u ≡ x)) ends h

  -- One that asks for files did nothing yet,
  asks_same : (c : FileCall) (at : ℕ) → o ≡ outcome.Asks c at → e ≡ d
  asks_same c at is = subst (λ x. Leaves d x e) is k.leaves

  asks_state : (c : FileCall) (at : ℕ) → o ≡ outcome.Asks c at → e.state ≡ s
  asks_state c at is = ap (λ (x : CallState). x.state) (asks_same c at is) ∙ k.was

  -- can be carried out,
  pub asks_right : (c : FileCall) (at : ℕ) → o ≡ outcome.Asks c at → IsSound s → s.tables.current ≢ 0
      → IsFileRequest (request_for (file_call_of c) at e.state)
  asks_right c at is sound n =
      let asked = subst (λ x. comes_to e x ≡ call_result s) is result_is in
      let same = asks_state c at is in
      subst (λ (x : Xinu). IsFileRequest (request_for (file_call_of c) at x)) (sym same)
      (asked_right s (file_call_of c) at (may_call s sound n) (subst (λ (x : Xinu). comes_to (record e { state = x }) (outcome.Asks c at) ≡ call_result s) same asked))

  -- and ends its event as it is made.
  pub asks_step : {E : Type 0} (choice : ℕ) (c : FileCall) (at : ℕ) (r : Result Happened E) (u : Xinu) → o ≡ outcome.Asks c at
      → IfOk r (λ h. happened h u ≡ asked_with choice (files_of e.state).calls (request_for (file_call_of c) at e.state) first e.state)
      → IfOk r (λ h. happened h u ≡ called_with choice (call_made s) s)
  asks_step choice c at r u is h =
      let asked = subst (λ x. comes_to e x ≡ call_result s) is result_is in
      let same = asks_state c at is in
      let at_start = subst (λ (x : Xinu). comes_to (record e { state = x }) (outcome.Asks c at) ≡ call_result s) same asked in
      let ends : asked_with choice (files_of e.state).calls (request_for (file_call_of c) at e.state) first e.state ≡ called_with choice (call_made s) s =
      ap (λ (x : Xinu). asked_with choice (files_of x).calls (request_for (file_call_of c) at x) first x) same
      ∙ ap (λ l. asked_with choice (files_of s).calls (request_for (file_call_of c) at s) l s) first_is
      ∙ sym (asked_called choice s (file_call_of c) at at_start) in
      subst (λ x. IfOk r (λ h. happened h u ≡ x)) ends h

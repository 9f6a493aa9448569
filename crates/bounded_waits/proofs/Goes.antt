-- Each event that isn't a completion of a disk kills who waits for it, or keeps him where he stands.
use Rattle.std.proofs.Common.{◌≡◌, ◌⊎◌, inl, inr, ⊎_elim, ℕ, zero, suc, ◌==◌, true, false, ◌&&◌, cond, List, [], ◌∷◌, Option, Some, None, refl, sym, ap, ◌∙◌}
use Rattle.std.specs.Prelude.{slice_index}
use Rattle.std.proofs.lemmas.Bool.{cond_both, eqb-false, or_left, true≢false}
use Rattle.xinu_base.specs.declared.lines.TranscriptLine.{TranscriptLine}
use Rattle.xinu_base.specs.declared.lines.TranscriptLine.TheVariants as line
use Rattle.xinu_base.specs.declared.processes.Rest.{Rest}
use Rattle.xinu_base.specs.declared.processes.Rest.TheVariants as rest
use Rattle.xinu_base.specs.declared.registers.Outcome.{Outcome}
use Rattle.xinu_base.specs.declared.registers.Outcome.TheVariants as outcome
use Rattle.xinu_model.specs.Calls.{called, continued}
use Rattle.xinu_model.specs.Clock.{ticked}
use Rattle.xinu_model.specs.Console.Signals.{receiving, keyed, sending, sent_in, after_sent}
use Rattle.xinu_model.specs.Console.Taking.{console_of}
use Rattle.xinu_model.specs.Console.Transmitting.{Sent, transmitted}
use Rattle.xinu_model.specs.Events.{call_of, call_line, exit_call, with_executed, reacted, instruction_step, is_done, stepped, next_file_call, step_at_once, step_with}
use Rattle.xinu_model.specs.Files.Work.{FileRequest}
use Rattle.xinu_model.specs.Isa.Exec.{exec}
use Rattle.xinu_model.specs.Machine.{Xinu, CallResult, EventResult, current_hart, nothing_happens, end_of_event}
use Rattle.xinu_model.specs.Process.Death.{exit}
use Rattle.xinu_model.specs.Sound.State.{IsSound}
use Rattle.xinu_model.specs.Tables.{process_at}
use Rattle.part_laws.specs.Preserve.{MayCallAny}
use Rattle.xinu_laws.proofs.Consoles.Kept.{sound_holds}
use Rattle.xinu_laws.proofs.Consoles.Signalled.{receiving_signals, sending_signals}
use Rattle.xinu_laws.proofs.FileSyscalls.AtOnce.{next_is}
use Rattle.xinu_laws.proofs.FileSyscalls.Chosen.{touched_files}
use Rattle.xinu_laws.proofs.Preserve.Calls.{sound_where_called}
use Rattle.xinu_laws.proofs.Preserve.Events.{may_call, may_call_after}
use Rattle.xinu_laws.proofs.Touches.Continued.{continued_touches}
use Rattle.xinu_laws.proofs.Touches.Events.{touches_ticked}
use Rattle.xinu_laws.specs.Touches.{at_a_tick, touched_by, Touches}
use Rattle.bounded_waits.specs.Ends.{IsKilled}
use Rattle.bounded_waits.specs.Places.{has_one}
use Rattle.bounded_waits.proofs.Kept.{caller_of, Keeps, unchanged, keeps_if_same, exit_keeps, called_keeps}

-- what is left of a call that waited changes no raw disk
touched_disk : (left : Rest) → (touched_by left).disk ≡ false
touched_disk (rest.GetBuf i) = refl
touched_disk (rest.PtSend ticket message) = refl
touched_disk (rest.PtRecv ticket) = refl
touched_disk rest.TtyGet = refl
touched_disk (rest.TtyRead part) = refl
touched_disk (rest.TtyPut b returned) = refl
touched_disk (rest.TtyWrite part returned) = refl
touched_disk rest.Nothing = refl
touched_disk rest.Receive = refl
touched_disk rest.Timed = refl
touched_disk rest.SelfSuspend = refl
touched_disk (rest.Disk reply) = refl

module _ (p : ℕ) where
  -- An event kills p, or keeps what it waits for.
  abbrev pub Goes : Xinu → EventResult → Type 0
  Goes s x = IsKilled p x.lines ⊎ Keeps p s x.state

  -- the end of an event changes no disk
  keeps_ended : (s : Xinu) (was : ℕ) (first : List TranscriptLine) (h : CallResult) → Keeps p s h.call.state
      → Keeps p s (end_of_event was first h).state
  keeps_ended s was first h k = record { files = k.files; disk = k.disk }

  -- what comes of an instruction
  goes_reacted : (o : Outcome) (s : Xinu) → MayCallAny s → Goes s (reacted o s)
  goes_reacted outcome.Went s c = inr (unchanged p s)
  goes_reacted outcome.Call s c =
      let call = call_of (current_hart s) in
      let here = (call.number == 5) && (slice_index call.args 0 == p) in
      cond_both here true false (λ _. Goes s (reacted outcome.Call s)) (λ e. inl (or_left here _ e))
      (λ e. inr (keeps_ended s s.tables.current (call_line s call ∷ []) (called call.number call.args s)
      (called_keeps p call.number call.args s (sound_where_called s c) e)))
  goes_reacted outcome.Exit s c =
      inr (keeps_ended s s.tables.current (call_line s (exit_call (current_hart s)) ∷ []) (exit s) (exit_keeps p s (sound_where_called s c)))
  goes_reacted (outcome.Trap cause) s c =
      inr (keeps_ended s s.tables.current (line.Trap s.tables.current cause ∷ []) (exit s) (exit_keeps p s (sound_where_called s c)))

  -- a machine step
  goes_stepped : (s : Xinu) → IsSound s → Goes s (stepped s)
  goes_stepped s k =
      let left = (process_at s.tables s.tables.current).rest in
      let did = exec (current_hart s) s.memory in
      let goes_on = end_of_event s.tables.current [] (continued left s) in
      cond_both (s.tables.current == 0) (nothing_happens s) (cond (is_done left) (instruction_step s) goes_on) (Goes s)
      (λ _. inr (unchanged p s))
      (λ b. let c = may_call s k (eqb-false s.tables.current 0 b) in
      cond_both (is_done left) (instruction_step s) goes_on (Goes s)
      (λ _. executed (goes_reacted did.outcome (with_executed did s) (may_call_after s c)))
      (λ _. let t = continued_touches left s k in
      inr (keeps_ended s s.tables.current [] (continued left s)
      (keeps_if_same p s (continued left s).call.state (t.parts.devices.files (touched_files left)) (t.parts.devices.disk (touched_disk left))))))
    where
      executed : (let did = exec (current_hart s) s.memory in Goes (with_executed did s) (reacted did.outcome (with_executed did s)))
          → Goes s (instruction_step s)
      executed g = ⊎_elim (λ f. inl f) (λ f. inr (record { files = f.files; disk = f.disk })) g

  -- a call on files that takes effect as it is made
  goes_at_once : (a : FileRequest) (s : Xinu) → next_file_call s ≡ Some a → Goes s (step_at_once a s)
  goes_at_once a s made = inr (record {
    files = λ h. absurd (true≢false (sym h ∙ ap (has_one caller_of p) (next_is s a made).none));
    disk = (unchanged p s).disk;
  })

  pub goes_step_with : (choice : ℕ) (found : Option FileRequest) (s : Xinu) → next_file_call s ≡ found → IsSound s → Goes s (step_with choice found s)
  goes_step_with zero found s e k = goes_stepped s k
  goes_step_with (suc choice) None s e k = goes_stepped s k
  goes_step_with (suc choice) (Some a) s e k = goes_at_once a s e

  -- a byte that is sent
  pub goes_sent : (found : Option Sent) (s : Xinu) → transmitted (console_of s) ≡ found → IsSound s → Goes s (sent_in found s)
  goes_sent None s e k = inr (unchanged p s)
  goes_sent (Some sent) s e k =
      let t = (sending_signals sent s e (sound_holds s k)).touches in
      inr (keeps_ended s s.tables.current (line.Con sent.byte ∷ []) (sending sent s)
      (keeps_if_same p s (after_sent sent s).state (t.parts.devices.files refl) (t.parts.devices.disk refl)))

  pub goes_keyed : (b : ℕ) (s : Xinu) → IsSound s → Goes s (keyed b s)
  goes_keyed b s k =
      let t = (receiving_signals b s (sound_holds s k)).touches in
      inr (keeps_ended s s.tables.current [] (receiving b s)
      (keeps_if_same p s (receiving b s).call.state (t.parts.devices.files refl) (t.parts.devices.disk refl)))

  pub goes_ticked : (s : Xinu) → IsSound s → Goes s (ticked s)
  goes_ticked s k =
      let t : Touches at_a_tick s (ticked s).state = touches_ticked refl s k.tables in
      inr (keeps_if_same p s (ticked s).state (t.parts.devices.files refl) (t.parts.devices.disk refl))

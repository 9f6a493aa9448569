-- An event in which a call is refused changes the caller's a0 and pc alone, and prints the call and its reply.
use Rattle.std.proofs.Common.{◌≡◌, ℕ, ◌==◌, false, cond, List, [], ◌∷◌, ◌++◌, map, Some, refl, sym, ap, ◌∙◌}
use Rattle.std.specs.Prelude.{slice_set, unwrap_or}
use Rattle.std.proofs.lemmas.Bool.{cond-true, cond-false, eq-eqb, ne_eqb}
use Rattle.xinu_base.specs.Constants.{SYSERR}
use Rattle.xinu_base.specs.declared.events.Event.TheVariants.{Step}
use Rattle.xinu_base.specs.declared.lines.FileMoment.TheVariants.{Finished}
use Rattle.xinu_base.specs.declared.lines.TranscriptLine.{TranscriptLine}
use Rattle.xinu_base.specs.declared.lines.TranscriptLine.TheVariants as line
use Rattle.xinu_base.specs.declared.registers.Hart.{Hart}
use Rattle.xinu_base.specs.declared.registers.Outcome.{Outcome}
use Rattle.xinu_model.specs.Calls.{called, continued}
use Rattle.xinu_model.specs.Events.{call_of, call_line, with_executed, reacted, instruction_step, is_done, stepped, next_file_call, step_at_once, Happens}
use Rattle.xinu_model.specs.Files.Syscalls.{files_of, at_once}
use Rattle.xinu_model.specs.Files.Work.{FileRequest}
use Rattle.xinu_model.specs.Machine.{Xinu, Returns, EventResult, current_hart, nothing_happens, end_of_event, and_callers, return_line, refused, switched, with_replies}
use Rattle.xinu_model.specs.Sound.State.{IsSound}
use Rattle.xinu_model.specs.Tables.{process_at}
use Rattle.xinu_model.specs.Words.{word}
use Rattle.event_laws.specs.Ownership.GivingAway.{next}
use Rattle.event_laws.specs.Replies.{IsCalling, IsRefused, LeavesRefused, LeavesRefusedEffect}
use Rattle.xinu_laws.proofs.FileSyscalls.AtOnce.{next_is, only_step}
use Rattle.xinu_laws.proofs.FileSyscalls.Answered.{refused_leaves_all}
use Rattle.table_laws.proofs.Lists.Maps.{set_twice}
use Rattle.event_laws.proofs.Ownership.Events.{hart_after}
use Rattle.event_laws.proofs.Reply.Ecall.{exec_leaves_call}

-- a process that stays current has no line
no_switch : (p : ℕ) → switched p p ≡ []
no_switch p = cond-true (p == p) [] (line.Switch p ∷ []) (eq-eqb p p refl)

-- The step of a process that calls is its call.
calling_steps : (old : Xinu) → IsSound old → IsCalling old
    → let s = with_executed (next old) old in let call = call_of (next old).hart in
    stepped old ≡ end_of_event old.tables.current (call_line s call ∷ []) (called call.number call.args s)
calling_steps old sound k =
    let s = with_executed (next old) old in
    let left = (process_at old.tables old.tables.current).rest in
    let goes_on = end_of_event old.tables.current [] (continued left old) in
    cond-false (old.tables.current == 0) (nothing_happens old) (cond (is_done left) (instruction_step old) goes_on)
    (ne_eqb old.tables.current 0 k.runs)
    ∙ cond-true (is_done left) (instruction_step old) goes_on (ap is_done k.rest)
    ∙ ap (λ (o : Outcome). reacted o s) k.call
    ∙ ap (λ (h : Hart). end_of_event old.tables.current (call_line s (call_of h) ∷ []) (called (call_of h).number (call_of h).args s))
    (hart_after old sound)

-- what a refusal leaves of a state in which these are the caller's registers
abbrev pub refused_state : Xinu → Hart → Xinu
refused_state s hart = record s { harts = slice_set s.harts s.tables.current (record hart { regs = slice_set hart.regs 10 (word SYSERR) }) }

-- the end of an event in which a call is refused
refused_end : (s : Xinu) (hart : Hart) (call : TranscriptLine) → current_hart s ≡ hart
    → ◌≡◌ {A = EventResult} (end_of_event s.tables.current (call ∷ []) (refused s)) (record { lines = call ∷ line.Return s.tables.current SYSERR ∷ []; state = refused_state s hart; panics = false })
refused_end s hart call e =
    ap (λ l. record { lines = call ∷ line.Return s.tables.current SYSERR ∷ l; state = refused_state s (current_hart s); panics = false }) (no_switch s.tables.current)
    ∙ ap (λ h. record { lines = call ∷ line.Return s.tables.current SYSERR ∷ []; state = refused_state s h; panics = false }) e

-- An event in which a call is refused.
pub refused_events : (old : Xinu) (lines : List TranscriptLine) (new : Xinu) → IsSound old → IsCalling old → IsRefused old
    → Happens old Step lines new → LeavesRefused old lines new
refused_events old lines new sound k none h =
    let p = old.tables.current in
    let s = with_executed (next old) old in
    let did = exec_leaves_call (current_hart old) old.memory k.call in
    let same : call_of (next old).hart ≡ call_of (current_hart old) = ap call_of did.0 in
    let step : stepped old ≡ record { lines = line.Call p (call_of (current_hart old)) ∷ line.Return p SYSERR ∷ []; state = refused_state s (next old).hart; panics = false } =
    calling_steps old sound k
    ∙ ap (λ c. end_of_event p (call_line s c ∷ []) (called c.number c.args s)) same
    ∙ ap (end_of_event p (call_line s (call_of (current_hart old)) ∷ [])) none
    ∙ refused_end s (next old).hart (call_line s (call_of (current_hart old))) (hart_after old sound) in
    let are = sym h.effect ∙ only_step h.choice old (ap (λ (x : EventResult). files_of x.state) step) ∙ step in
    let state : new ≡ refused_state s (next old).hart = ap (λ (x : EventResult). x.state) are in
    record {
      tables = ap (λ (x : Xinu). x.tables) state;
      parts = ap (λ (x : Xinu). x.parts) state;
      memory = ap (λ (x : Xinu). x.memory) state ∙ did.1;
      harts = ap (λ (x : Xinu). x.harts) state
          ∙ set_twice old.harts p (next old).hart (record (next old).hart { regs = slice_set (next old).hart.regs 10 (word SYSERR) })
          ∙ ap (λ (x : Hart). slice_set old.harts p (record x { regs = slice_set x.regs 10 (word SYSERR) })) did.0;
      lines = ap (λ (x : EventResult). x.lines) are;
    }

-- A step in which a call on files takes effect as it is made, and is refused then.
pub refused_effects : (a : FileRequest) (old : Xinu) → IsSound old → IsCalling old → next_file_call old ≡ Some a
    → (at_once a (with_executed (next old) old)).answer ≡ Returns SYSERR
    → LeavesRefusedEffect old (step_at_once a old).lines (step_at_once a old).state
refused_effects a old sound k made refused =
    let p = old.tables.current in
    let s = with_executed (next old) old in
    let did = exec_leaves_call (current_hart old) old.memory k.call in
    let m = next_is old a made in
    let leaves = refused_leaves_all a s sound.devices.files.itself m.none refused in
    let hart = hart_after old sound in
    let call : call_of (current_hart s) ≡ call_of (current_hart old) = ap call_of hart ∙ ap call_of did.0 in
    record {
      tables = leaves.tables;
      parts = leaves.parts;
      memory = leaves.memory ∙ did.1;
      harts = ap (λ answer. with_replies (and_callers answer p []) s.harts) refused
          ∙ ap (λ h. slice_set s.harts p (record h { regs = slice_set h.regs 10 (word SYSERR) })) hart
          ∙ set_twice old.harts p (next old).hart (record (next old).hart { regs = slice_set (next old).hart.regs 10 (word SYSERR) })
          ∙ ap (λ (x : Hart). slice_set old.harts p (record x { regs = slice_set x.regs 10 (word SYSERR) })) did.0;
      lines = ap (λ c. (line.Call p c ∷ line.File (unwrap_or a.caller 0) Finished ∷ []) ++ map return_line (and_callers (at_once a s).answer p []) ++ switched p p) call
          ∙ ap (λ o. (line.Call p (call_of (current_hart old)) ∷ line.File (unwrap_or o 0) Finished ∷ []) ++ map return_line
          (and_callers (at_once a s).answer p []) ++ switched p p) m.caller
          ∙ ap (λ answer. (line.Call p (call_of (current_hart old)) ∷ line.File p Finished ∷ []) ++ map return_line
          (and_callers answer p []) ++ switched p p) refused
          ∙ ap (λ l. line.Call p (call_of (current_hart old)) ∷ line.File p Finished ∷ line.Return p SYSERR ∷ l) (no_switch p);
    }

-- What more pools and stacks have after a call or an event than before it was free before it: only those calls that touch stacks or ranges are
-- to be looked at.
use Rattle.std.proofs.Common.{◌≢◌, ℕ, ◌==◌, Bool, true, false, ◌||◌, cond, List, [], ◌∷◌, ap, subst, arith}
use Rattle.std.proofs.lemmas.Bool.{cond_both, eqb-false, or_parts}
use Rattle.xinu_base.specs.declared.events.Event.{Event}
use Rattle.xinu_base.specs.declared.events.Event.TheVariants.{Step, Tick, Key, Tx, Disk0, Disk1, Fail0}
use Rattle.xinu_base.specs.declared.lines.TranscriptLine.{TranscriptLine}
use Rattle.xinu_base.specs.declared.lines.TranscriptLine.TheVariants as line
use Rattle.xinu_base.specs.declared.registers.Outcome.{Outcome}
use Rattle.xinu_base.specs.declared.registers.Outcome.TheVariants as outcome
use Rattle.xinu_laws.proofs.FileSyscalls.AtOnce.{step_holds}
use Rattle.event_laws.specs.Ownership.GivingAway.{next}
use Rattle.event_laws.specs.Ownership.Grants.{GivesOnlyFree}
use Rattle.xinu_model.specs.Calls.{calls, called, continued}
use Rattle.xinu_model.specs.Events.{call_of, call_line, exit_call, with_executed, reacted, instruction_step, is_done, stepped, next_file_call, effect_of, Happens}
use Rattle.xinu_model.specs.Footprints.{Footprint}
use Rattle.xinu_model.specs.Machine.{Xinu, current_hart, EventResult, nothing_happens, end_of_event}
use Rattle.xinu_model.specs.Process.Death.{exit}
use Rattle.xinu_model.specs.Sound.State.{IsSound}
use Rattle.xinu_model.specs.Tables.{process_at}
use Rattle.xinu_model.specs.Words.{half}
use Rattle.xinu_laws.proofs.Rows.RowByRow.{◌⨾◌}
use Rattle.event_laws.proofs.Ownership.Events.{kept_continued, kept_end_of_event, kept_executed, kept_completed, kept_files, kept_keyed, kept_ticked, kept_transmits, may_call_next}
use Rattle.event_laws.proofs.Ownership.Grants.{gives_after, gives_before, gives_create, gives_exit, gives_kept, gives_kill, gives_mkbufpool, gives_nothing, gives_within}
use Rattle.xinu_laws.proofs.Preserve.Calls.{called_keeps, continued_keeps, exit_keeps, sound_where_called}
use Rattle.xinu_laws.proofs.Preserve.Events.{may_call}
use Rattle.xinu_laws.proofs.Touches.Few.{IsLawOfFew, law_of_few}

-- whether a footprint names stacks or ranges
abbrev names_grants : Footprint → Bool
names_grants f = f.stacks || f.ranges

-- nothing changes
gives_same : (s : Xinu) → GivesOnlyFree s s
gives_same s = gives_nothing s s (λ a. omega arith)

-- Each call gives only what was free: those that may change one of these, one by one.
grants_law : IsLawOfFew names_grants (λ number s u. GivesOnlyFree s u)
unfolding calls
grants_law = record {
  same = λ number s. gives_same s;
  others = λ number f s u e t. (let k = or_parts f.stacks f.ranges e in gives_within s u (t.parts.ranges k.1) (t.stacks k.0));
  few =
      (λ a s k. gives_create (a 0) (a 1) (half (a 2)) (a 3) (a 4) (a 5) s) ⨾
      (λ a s k. gives_kill (a 0) s) ⨾
      (λ a s k. gives_exit s) ⨾
      (λ a s k. gives_mkbufpool (a 0) (a 1) s) ⨾
      tt;
}

-- So the call of any number does,
pub call_gives : (number : ℕ) (args : List ℕ) (s : Xinu) → IsSound s → GivesOnlyFree s (called number args s).call.state
call_gives number args s sound = law_of_few grants_law number args s sound

-- What comes of an instruction.
reacted_gives : (o : Outcome) (old : Xinu) → IsSound old → old.tables.current ≢ 0
    → GivesOnlyFree old (reacted o (with_executed (next old) old)).state
reacted_gives outcome.Went old sound runs = gives_kept (kept_executed old)
reacted_gives outcome.Call old sound runs =
    let s = with_executed (next old) old in
    let call = call_of (current_hart s) in
    let result = called call.number call.args s in
    let may = may_call_next old sound runs in
    gives_before old result.call.state (end_of_event old.tables.current (call_line s call ∷ []) result).state
    (gives_after old s result.call.state (kept_executed old) (call_gives call.number call.args s (sound_where_called s may)))
    (kept_end_of_event old.tables.current (call_line s call ∷ []) result (called_keeps call.number call.args s may))
reacted_gives outcome.Exit old sound runs =
    let s = with_executed (next old) old in
    gives_before old (exit s).call.state (end_of_event old.tables.current (call_line s (exit_call (current_hart s)) ∷ []) (exit s)).state
    (gives_after old s (exit s).call.state (kept_executed old) (gives_exit s))
    (kept_end_of_event old.tables.current (call_line s (exit_call (current_hart s)) ∷ []) (exit s)
    (exit_keeps s (may_call_next old sound runs)))
reacted_gives (outcome.Trap cause) old sound runs =
    let s = with_executed (next old) old in
    gives_before old (exit s).call.state (end_of_event old.tables.current (line.Trap old.tables.current cause ∷ []) (exit s)).state
    (gives_after old s (exit s).call.state (kept_executed old) (gives_exit s))
    (kept_end_of_event old.tables.current (line.Trap old.tables.current cause ∷ []) (exit s) (exit_keeps s (may_call_next old sound runs)))

-- A machine step.
stepped_gives : (s : Xinu) → IsSound s → GivesOnlyFree s (stepped s).state
stepped_gives s sound =
    let left = (process_at s.tables s.tables.current).rest in
    let goes_on = end_of_event s.tables.current [] (continued left s) in
    cond_both (s.tables.current == 0) (nothing_happens s) (cond (is_done left) (instruction_step s) goes_on)
    (λ (e : EventResult). GivesOnlyFree s e.state)
    (λ _. gives_same s)
    (λ b. cond_both (is_done left) (instruction_step s) goes_on (λ (e : EventResult). GivesOnlyFree s e.state)
    (λ _. reacted_gives (next s).outcome s sound (eqb-false s.tables.current 0 b))
    (λ _. gives_before s (continued left s).call.state goes_on.state (gives_kept (kept_continued left s sound))
    (kept_end_of_event s.tables.current [] (continued left s) (continued_keeps s (may_call s sound (eqb-false s.tables.current 0 b))))))

-- What an event leaves, whatever is chosen in it.
effect_gives : (s : Xinu) (e : Event) (choice : ℕ) → IsSound s → GivesOnlyFree s (effect_of s e choice).state
effect_gives s Step choice sound =
    step_holds (λ (x : EventResult). GivesOnlyFree s x.state) choice (next_file_call s) s (stepped_gives s sound) (λ a. gives_same s)
effect_gives s Tick choice sound = gives_kept (kept_ticked s sound)
effect_gives s (Key b) choice sound = gives_kept (kept_keyed b s sound)
effect_gives s Tx choice sound = gives_kept (kept_transmits s sound)
effect_gives s Disk0 choice sound = gives_kept (kept_completed true s sound)
effect_gives s Fail0 choice sound = gives_kept (kept_completed false s sound)
effect_gives s Disk1 choice sound = gives_kept (kept_files choice s sound)
effect_gives s _ choice sound = gives_same s

-- Each event.
pub event_gives : (old : Xinu) (e : Event) (lines : List TranscriptLine) (new : Xinu) → IsSound old → Happens old e lines new
    → GivesOnlyFree old new
event_gives old e lines new sound h =
    subst (GivesOnlyFree old) (ap (λ (x : EventResult). x.state) h.effect) (effect_gives old e h.choice sound)

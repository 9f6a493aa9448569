-- The programs still run after a step, a tick, a character and a transmission.
use Rattle.std.proofs.Common.{◌≡◌, ◌≢◌, ◌∙◌, ℕ, ◌+◌, ◌-◌, ◌*◌, ◌≤◌, ◌<◌, ◌==◌, Bool, true, false, cond, ◌||◌, List, [], ◌∷◌, length, map, filter, set, get_or, Option, Some, None, refl, sym, ap, subst, arith, ℤ}
use Rattle.std.specs.Prelude.{nat_lt, slice_index}
use Rattle.std.proofs.lemmas.Bool.{cond_both, eqb-false, ltb-false, ltb-true}
use Rattle.std.proofs.Math.ListN.{length-set}
use Rattle.std.proofs.lemmas.List.{get_or-set_other, get_or-set_same, get_or_past}
use Rattle.soak_laws.specs.Code.{HoldsNumber, IsLoaded, IsWithin}
use Rattle.soak_laws.specs.Four.{AreFew, AreFour, HaveFew}
use Rattle.soak_laws.specs.Running.{EachProgram, AreRunning, KeepRunning, first_of}
use Rattle.soak_laws.specs.Steps.{WentOrCalled}
use Rattle.soak_laws.proofs.Devices.{other_console}
use Rattle.soak_laws.proofs.Lists.{all_filter, each_set}
use Rattle.soak_laws.proofs.Steps.{steps_within}
use Rattle.soak_laws.proofs.Table.{called_on, continued_on}
use Rattle.soak_laws.proofs.Tables.{rescheduled, same_lists}
use Rattle.soak_laws.proofs.Waits.{all_unblocked, signalled_kept, signals_kept}
use Rattle.xinu_base.specs.Constants.{OK, QUANTUM}
use Rattle.xinu_base.specs.declared.lines.TranscriptLine.{TranscriptLine}
use Rattle.xinu_base.specs.declared.lines.TranscriptLine.TheVariants.{Con}
use Rattle.xinu_base.specs.declared.registers.Hart.{Hart}
use Rattle.xinu_base.specs.declared.registers.Outcome.{Outcome}
use Rattle.xinu_base.specs.declared.registers.Outcome.TheVariants as outcome
use Rattle.xinu_model.specs.Calls.{called, continued}
use Rattle.xinu_model.specs.Clock.{a_tick_later, due, quantum_falls, ticked, wakeup}
use Rattle.xinu_model.specs.Console.Putting.{TY_OSEM}
use Rattle.xinu_model.specs.Semaphores.Waiting.{signalled}
use Rattle.xinu_model.specs.Console.Receiving.{received}
use Rattle.xinu_model.specs.Console.Signals.{keyed, receiving, sending, sent_in, transmits}
use Rattle.xinu_model.specs.Console.Taking.{TY_ISEM, console_of, with_console}
use Rattle.xinu_model.specs.Console.Transmitting.{Sent, transmitted}
use Rattle.xinu_model.specs.Events.{call_line, call_of, instruction_step, is_done, reacted, stepped, with_executed}
use Rattle.xinu_model.specs.Isa.Exec.{exec}
use Rattle.xinu_model.specs.Machine.{CallResult, CallState, EventResult, Xinu, closed, current_hart, end_of_event, is_off, no_hart, nothing_happens, replies_of, start, with_replies, with_reply}
use Rattle.xinu_model.specs.Process.Scheduling.{resched}
use Rattle.xinu_model.specs.Tables.{Tables, process_at}
use Rattle.xinu_model.specs.Words.{word}

-- after an event the programs still run, and the kernel didn't panic
pub record KeepRunningIn (words : ℕ → List ℕ) (x : EventResult) : Type 0 where
  pub running : AreRunning words x.state
  pub calm : x.panics ≡ false

-- ---- the end of an event

-- a value in a0 leaves a process within its program
replied : (first : ℕ) (words : List ℕ) (h : Hart) (value : ℕ) → IsWithin first words h → IsWithin first words (record h { regs = set h.regs 10 value })
replied first words h value k =
    let same : slice_index (set h.regs 10 value) 17 ≡ slice_index h.regs 17 = get_or-set_other h.regs 10 17 value 0 (omega arith) in
    record {
      place = k.place;
      ready = k.ready;
      pc = k.pc;
      regs = length-set h.regs 10 value ∙ k.regs;
      code = k.code;
      number = by_ready k.ready same k.number;
    }
  where
    by_ready : (ready : Bool) → slice_index (set h.regs 10 value) 17 ≡ slice_index h.regs 17 → HoldsNumber ready h.regs → HoldsNumber ready (set h.regs 10 value)
    by_ready true same number = (number.0, same ∙ number.1)
    by_ready false same number = tt

-- the registers of each program's process
abbrev Harts : (ℕ → List ℕ) → List Hart → Type 0
Harts words harts = EachProgram (λ p. IsWithin (first_of p) (words p) (get_or harts p no_hart))

with_reply_kept : {words : ℕ → List ℕ} (harts : List Hart) (reply : ℕ × ℤ) → Harts words harts → Harts words (with_reply harts reply)
with_reply_kept {words} harts reply k =
    let h = get_or harts reply.0 no_hart in
    each_set (λ p x. 1 ≤ p → p ≤ 4 → IsWithin (first_of p) (words p) x) harts reply.0 (record h { regs = set h.regs 10 (word reply.1) }) no_hart k
    (λ some few. replied (first_of reply.0) (words reply.0) h (word reply.1) (k reply.0 some few))

replies_kept : {words : ℕ → List ℕ} (replies : List (ℕ × ℤ)) (harts : List Hart) → Harts words harts → Harts words (with_replies replies harts)
replies_kept [] harts k = k
replies_kept (reply ∷ replies) harts k = replies_kept replies (with_reply harts reply) (with_reply_kept harts reply k)

closed_four : (result : CallResult) → AreFour result.call.state.tables → AreFour (closed result)
closed_four result four =
    let t = result.call.state.tables in
    cond_both (result.call.owes_resched || is_off result.answer) (resched t) t AreFour (λ _. rescheduled t four) (λ _. four)

-- the end of an event
pub ended : {words : ℕ → List ℕ} (was : ℕ) (first : List TranscriptLine) (result : CallResult) → KeepRunning words result
    → KeepRunningIn words (end_of_event was first result)
ended was first result k = record {
  running = record {
    tables = closed_four result k.running.tables;
    harts = replies_kept (replies_of result) result.call.state.harts k.running.harts;
    loaded = k.running.loaded;
    pools = k.running.pools;
    calls = k.running.calls;
  };
  calm = k.calm;
}

-- ---- a step

-- an instruction of the current process, which isn't the null process
pub record Executes (words : ℕ → List ℕ) (s : Xinu) : Type 0 where
  pub running : AreRunning words (with_executed (exec (current_hart s) s.memory) s)
  pub outcome : WentOrCalled (exec (current_hart s) s.memory).outcome (current_hart (with_executed (exec (current_hart s) s.memory) s))

-- there are registers for the process of a program
there_are : (words : ℕ → List ℕ) (p : ℕ) (harts : List Hart) → IsWithin (first_of p) (words p) (get_or harts p no_hart) → p < length harts
there_are words p harts k = by_test (nat_lt p (length harts)) refl
  where
    by_test : (b : Bool) → nat_lt p (length harts) ≡ b → p < length harts
    by_test true is = ltb-true p (length harts) is
    by_test false is =
        let none : 0 ≡ first_of p + 4 * k.place = sym (ap (λ (h : Hart). h.pc) (get_or_past harts p no_hart (ltb-false p (length harts) is))) ∙ k.pc in
        absurd (omega arith)

pub executes : {words : ℕ → List ℕ} (s : Xinu) → AreRunning words s → s.tables.current ≢ 0 → Executes words s
executes {words} s k busy =
    let c = s.tables.current in
    let some : 1 ≤ c = omega (arith, busy) in
    let few = k.tables.current in
    let h = current_hart s in
    let did = exec h s.memory in
    let steps = steps_within (first_of c) (words c) s.parts.heap.low s.memory h (k.loaded c some few) (k.harts c some few) in
    let many = there_are words c s.harts (k.harts c some few) in
    record {
      running = record {
        tables = k.tables;
        harts = each_set (λ p x. 1 ≤ p → p ≤ 4 → IsWithin (first_of p) (words p) x) s.harts c did.hart no_hart k.harts (λ a b. steps.within);
        loaded = λ p a b. subst (IsLoaded (first_of p) (words p) s.parts.heap.low) (sym steps.ram) (k.loaded p a b);
        pools = k.pools;
        calls = k.calls;
      };
      outcome = subst (WentOrCalled did.outcome) (sym (get_or-set_same s.harts c did.hart no_hart many)) steps.outcome;
    }

-- what comes of it
reacted_on : {words : ℕ → List ℕ} (o : Outcome) (s : Xinu) → AreRunning words s → WentOrCalled o (current_hart s) → KeepRunningIn words (reacted o s)
reacted_on outcome.Went s k may = record { running = k; calm = refl }
reacted_on {words} outcome.Call s k may =
    let call = call_of (current_hart s) in
    ended s.tables.current (call_line s call ∷ []) (called call.number call.args s)
    (subst (λ n. KeepRunning words (called n call.args s)) (sym may.1) (called_on words may.0 call.args s k))
reacted_on outcome.Exit s k may = absurd may
reacted_on (outcome.Trap cause) s k may = absurd may

-- a machine step
pub stepped_on : {words : ℕ → List ℕ} (s : Xinu) → AreRunning words s → KeepRunningIn words (stepped s)
stepped_on {words} s k =
    let left = (process_at s.tables s.tables.current).rest in
    let run = instruction_step s in
    let on = end_of_event s.tables.current [] (continued left s) in
    cond_both (s.tables.current == 0) (nothing_happens s) (cond (is_done left) run on) (KeepRunningIn words)
    (λ _. record { running = k; calm = refl })
    (λ busy. cond_both (is_done left) run on (KeepRunningIn words)
    (λ _. let did = executes s k (eqb-false s.tables.current 0 busy) in reacted_on (exec (current_hart s) s.memory).outcome _ did.running did.outcome)
    (λ _. ended s.tables.current [] (continued left s) (continued_on left s k (k.tables.entries s.tables.current).left)))

-- ---- the clock

all_keys : (l : List (ℕ × ℕ)) → HaveFew l → AreFew (map (λ e. e.0) l)
all_keys [] few = tt
all_keys (e ∷ l) few = (few.0, all_keys l few.1)

later : (owes : Bool) (t : Tables) → AreFour t → AreFour (a_tick_later owes t)
later owes t four =
    let u = record t { ticks = t.ticks + 1 } in
    let same = same_lists t t.messages t.quantum (t.ticks + 1) four in
    cond_both owes (resched u) u AreFour (λ _. rescheduled u same) (λ _. same)

fallen : (t : Tables) → AreFour t → AreFour (quantum_falls t)
fallen t four =
    cond_both (nat_lt 1 t.quantum) (record t { quantum = t.quantum - 1 }) (resched (record t { quantum = QUANTUM })) AreFour
    (λ _. same_lists t t.messages (t.quantum - 1) t.ticks four)
    (λ _. rescheduled _ (same_lists t t.messages QUANTUM t.ticks four))

pub ticked_on : {words : ℕ → List ℕ} (s : Xinu) → AreRunning words s → KeepRunningIn words (ticked s)
ticked_on s k =
    let d = wakeup s in
    let sleepers = s.tables.sleepers in
    let test = λ (e : ℕ × ℕ). e.1 == s.tables.ticks + 1 in
    let few = all_keys (filter test sleepers) (all_filter (λ (e : ℕ × ℕ). e.0 ≤ 4) test sleepers k.tables.sleepers) in
    let awake = all_unblocked OK (due (s.tables.ticks + 1) sleepers) (start s) k few in
    record {
      running = record {
        tables = fallen (a_tick_later d.owes_resched d.state.tables) (later d.owes_resched d.state.tables awake.tables);
        harts = replies_kept d.released d.state.harts awake.harts;
        loaded = awake.loaded;
        pools = awake.pools;
        calls = awake.calls;
      };
      calm = refl;
    }

-- ---- the console

pub keyed_on : {words : ℕ → List ℕ} (b : ℕ) (s : Xinu) → AreRunning words s → KeepRunningIn words (keyed b s)
keyed_on b s k =
    let m = received b (console_of s) in
    ended s.tables.current [] (receiving b s)
    (record { running = signals_kept TY_ISEM m.count (record (start s) { state = with_console m.console s }) (other_console m.console s k); calm = refl })

sent_on : {words : ℕ → List ℕ} (found : Option Sent) (s : Xinu) → AreRunning words s → KeepRunningIn words (sent_in found s)
sent_on None s k = record { running = k; calm = refl }
sent_on {words} (Some sent) s k =
    let d = start (with_console sent.console s) in
    ended s.tables.current (Con sent.byte ∷ []) (sending sent s) (record {
      running = cond_both sent.is_output (signalled TY_OSEM d) d (λ (x : CallState). AreRunning words x.state)
          (λ _. signalled_kept TY_OSEM d (other_console sent.console s k)) (λ _. other_console sent.console s k);
      calm = refl;
    })

pub transmits_on : {words : ℕ → List ℕ} (s : Xinu) → AreRunning words s → KeepRunningIn words (transmits s)
transmits_on s k = sent_on (transmitted (console_of s)) s k

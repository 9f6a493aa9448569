-- The clock goes on in ticks alone, by one in each.
use Rattle.std.proofs.Common.{◌≡◌, ◌∙◌, false, ℕ, ◌+◌, ◌-◌, ◌==◌, ◌||◌, cond, List, [], ◌∷◌, Option, Some, None, ℤ, ap, refl}
use Rattle.std.specs.Prelude.{nat_lt}
use Rattle.std.proofs.lemmas.Bool.{cond_both, eqb-false}
use Rattle.xinu_base.specs.declared.registers.Outcome.{Outcome}
use Rattle.xinu_base.specs.declared.registers.Outcome.TheVariants as outcome
use Rattle.xinu_model.specs.Calls.{called, calls, continued}
use Rattle.xinu_model.specs.Clock.{due, quantum_falls, a_tick_later, ticked, wakeup}
use Rattle.xinu_model.specs.Console.Signals.{keyed, receiving, sending, sent_in, transmits}
use Rattle.xinu_model.specs.Console.Taking.{console_of}
use Rattle.xinu_model.specs.Console.Transmitting.{Sent, transmitted}
use Rattle.xinu_model.specs.Events.{call_of, with_executed, reacted, instruction_step, is_done, stepped}
use Rattle.xinu_model.specs.Machine.{Xinu, CallResult, CallState, closed, current_hart, EventResult, is_off, nothing_happens, end_of_event, start, unblock_all}
use Rattle.xinu_model.specs.Process.Death.{exit}
use Rattle.xinu_model.specs.Process.Scheduling.{dispatch_first, is_current, keeps_cpu, preempt, ready, resched}
use Rattle.xinu_model.specs.Sound.State.{IsSound}
use Rattle.xinu_model.specs.Tables.{process_at, state_at, Tables}
use Rattle.event_laws.specs.Ownership.GivingAway.{next}
use Rattle.xinu_laws.proofs.Consoles.Kept.{sound_holds}
use Rattle.xinu_laws.proofs.Consoles.Signalled.{receiving_signals, sending_signals}
use Rattle.xinu_laws.proofs.Preserve.Calls.{sound_where_called}
use Rattle.xinu_laws.proofs.Preserve.Events.{may_call, may_call_after}
use Rattle.xinu_laws.proofs.Touches.Continued.{continued_touches}
use Rattle.xinu_laws.proofs.Touches.Processes.{exit_touches}
use Rattle.xinu_laws.proofs.Touches.Few.{IsLawOfFew, law_of_few}

-- from s to u the ticks stay
abbrev KeepsTicks : Xinu → Xinu → Type 0
KeepsTicks s u = u.tables.ticks ≡ s.tables.ticks

-- A resched moves no clock.
pub resched_ticks : (t : Tables) → (resched t).ticks ≡ t.ticks
resched_ticks t =
    let room = preempt t in
    cond_both (keeps_cpu t.ready t) t (dispatch_first room.ready room) (λ u. u.ticks ≡ t.ticks)
    (λ _. refl) (λ _. dispatched room.ready room ∙ preempted)
  where
    dispatched : (l : List (ℕ × ℤ)) (u : Tables) → (dispatch_first l u).ticks ≡ u.ticks
    dispatched [] u = refl
    dispatched (e ∷ es) u = refl

    preempted : (preempt t).ticks ≡ t.ticks
    preempted = cond_both (is_current (state_at t t.current)) (ready t.current t) t (λ u. u.ticks ≡ t.ticks) (λ _. refl) (λ _. refl)

-- nor does the end of an event
pub closed_ticks : (result : CallResult) → (closed result).ticks ≡ result.call.state.tables.ticks
closed_ticks result =
    let t = result.call.state.tables in
    cond_both (result.call.owes_resched || is_off result.answer) (resched t) t (λ u. u.ticks ≡ t.ticks) (λ _. resched_ticks t) (λ _. refl)

-- each call keeps the ticks
ticks_law : IsLawOfFew (λ f. false) (λ number s u. KeepsTicks s u)
unfolding calls
ticks_law = record { same = λ number s. refl; others = λ number f s u e t. t.clock refl; few = tt }

-- what comes of an instruction
ticks_reacted : (o : Outcome) (s : Xinu) → IsSound s → KeepsTicks s (reacted o s).state
ticks_reacted outcome.Went s k = refl
ticks_reacted outcome.Call s k =
    let call = call_of (current_hart s) in closed_ticks (called call.number call.args s)
    ∙ law_of_few ticks_law call.number call.args s k
ticks_reacted outcome.Exit s k = closed_ticks (exit s) ∙ (exit_touches s k).clock refl
ticks_reacted (outcome.Trap cause) s k = closed_ticks (exit s) ∙ (exit_touches s k).clock refl

-- A machine step keeps the ticks.
pub ticks_stepped : (s : Xinu) → IsSound s → KeepsTicks s (stepped s).state
ticks_stepped s k =
    let left = (process_at s.tables s.tables.current).rest in
    let goes_on = end_of_event s.tables.current [] (continued left s) in
    cond_both (s.tables.current == 0) (nothing_happens s) (cond (is_done left) (instruction_step s) goes_on)
    (λ (e : EventResult). KeepsTicks s e.state)
    (λ _. refl)
    (λ b. let c = may_call s k (eqb-false s.tables.current 0 b) in
    cond_both (is_done left) (instruction_step s) goes_on (λ (e : EventResult). KeepsTicks s e.state)
    (λ _. let u = with_executed (next s) s in ticks_reacted (next s).outcome u (sound_where_called u (may_call_after s c)))
    (λ _. closed_ticks (continued left s) ∙ (continued_touches left s k).clock refl))

-- Neither a received character nor a transmission moves the clock.
pub ticks_keyed : (b : ℕ) (s : Xinu) → IsSound s → KeepsTicks s (keyed b s).state
ticks_keyed b s k = closed_ticks (receiving b s) ∙ (receiving_signals b s (sound_holds s k)).touches.clock refl

ticks_sent : (found : Option Sent) (s : Xinu) → transmitted (console_of s) ≡ found → IsSound s → KeepsTicks s (sent_in found s).state
ticks_sent None s e k = refl
ticks_sent (Some sent) s e k = closed_ticks (sending sent s) ∙ (sending_signals sent s e (sound_holds s k)).touches.clock refl

pub ticks_transmits : (s : Xinu) → IsSound s → KeepsTicks s (transmits s).state
ticks_transmits s k = ticks_sent (transmitted (console_of s)) s refl k

-- those who are released leave the clock alone
released_ticks : (ps : List ℕ) (d : CallState) → (unblock_all ps d).state.tables.ticks ≡ d.state.tables.ticks
released_ticks [] d = refl
released_ticks (p ∷ ps) d = released_ticks ps _

-- so does a quantum that falls
quantum_ticks : (t : Tables) → (quantum_falls t).ticks ≡ t.ticks
quantum_ticks t =
    let fresh = record t { quantum = 2 } in
    cond_both (nat_lt 1 t.quantum) (record t { quantum = t.quantum - 1 }) (resched fresh) (λ u. u.ticks ≡ t.ticks)
    (λ _. refl) (λ _. resched_ticks fresh)

-- A tick moves the clock by one.
pub ticks_ticked : (s : Xinu) → (ticked s).state.tables.ticks ≡ s.tables.ticks + 1
ticks_ticked s =
    let d = wakeup s in
    let t = d.state.tables in
    let later = record t { ticks = t.ticks + 1 } in
    quantum_ticks (a_tick_later d.owes_resched t)
    ∙ cond_both d.owes_resched (resched later) later (λ u. u.ticks ≡ t.ticks + 1) (λ _. resched_ticks later) (λ _. refl)
    ∙ ap (λ n. n + 1) (released_ticks (due (s.tables.ticks + 1) s.tables.sleepers) (start s))

-- Whoever waits on a semaphore of a pool, a port or a device goes on by itself: it isn't answered when it is released.
use Rattle.std.proofs.Common.{◌≡◌, ◌≢◌, ◌∙◌, ◌<◌, ℕ, zero, suc, ℤ, pos, true, cond, List, [], ◌∷◌, ◌++◌, Option, None, Some, refl, sym, ap}
use Rattle.std.proofs.lemmas.List.{append-nil}
use Rattle.std.specs.Prelude.{IsSome}
use Rattle.semaphores.specs.Signals.{signal_answer}
use Rattle.semaphores.specs.declared.waiting.Signalled.TheVariants.{Released}
use Rattle.xinu_base.specs.declared.processes.Rest.{Rest}
use Rattle.xinu_base.specs.declared.processes.Rest.TheVariants.{Nothing, PtRecv, PtSend}
use Rattle.xinu_base.specs.declared.semaphores.Owner.{Owner}
use Rattle.xinu_base.specs.declared.semaphores.Owner.TheVariants as owner
use Rattle.table_laws.proofs.Lists.Counts.{count_behind, first_is_counted}
use Rattle.xinu_model.specs.Machine.{CallState, reply_at_unblock}
use Rattle.xinu_model.specs.Process.Scheduling.{ready, ready_all}
use Rattle.xinu_model.specs.Semaphores.Waiting.{emptied, signal_first, signalled}
use Rattle.xinu_model.specs.Sound.Tables.{asks_input, asks_output, count_in, FitsDevice, FitsOwner, IsForPort, IsInside}
use Rattle.xinu_model.specs.Tables.{process_at, semaphore_at, Tables}
use Rattle.kernel_tables.specs.Waking.{are_any}
use Rattle.kernel_state.specs.Released.{IsOfPart, replies_to}
use Rattle.kernel_state.proofs.Released.{unblocked}
use Rattle.kernel_state.proofs.Together.{released_first}

-- such a semaphore is in use
pub part_used : (o : Option Owner) → IsOfPart o → IsSome o
part_used (Some (owner.Pool i)) h = refl
part_used (Some (owner.Port q)) h = refl
part_used None h = absurd h
part_used (Some owner.Image) h = absurd h
part_used (Some owner.Device) h = refl

-- something is left of the call of whoever waits there
port_rest : (q sem : ℕ) (r : Rest) → IsForPort q sem r → r ≢ Nothing
port_rest q sem (PtSend ticket message) f e = cc
port_rest q sem (PtRecv ticket) f e = cc
port_rest q sem _ f e = absurd f

device_rest : (sem : ℕ) (r : Rest) → FitsDevice sem r → r ≢ Nothing
device_rest zero r f e = let g = ap asks_input e in cc
device_rest (suc zero) r f e = let g = ap asks_output e in cc
device_rest (suc (suc sem)) r f e = cc

part_rest : (sem : ℕ) (o : Option Owner) (r : Rest) → IsOfPart o → FitsOwner sem o r → r ≢ Nothing
part_rest sem (Some (owner.Pool i)) r h f e = cc
part_rest sem (Some (owner.Port q)) r h f e = port_rest q sem r f e
part_rest sem None r h f e = absurd h
part_rest sem (Some owner.Image) r h f e = absurd h
part_rest sem (Some owner.Device) r h f e = device_rest sem r f e

pub part_waiters : (t : Tables) (sem : ℕ) → IsInside t → IsOfPart (semaphore_at t sem).owner
    → (p : ℕ) → 0 < count_in p (semaphore_at t sem).waiters → (process_at t p).rest ≢ Nothing
part_waiters t sem o h p w = part_rest sem (semaphore_at t sem).owner (process_at t p).rest h (o.rests sem p w)

-- so it gets no reply
no_reply : (value : ℤ) (p : ℕ) (r : Rest) → r ≢ Nothing → reply_at_unblock value p r ≡ []
no_reply value p Nothing n = absurd (n refl)
no_reply value p _ n = refl

no_replies : (value : ℤ) (ps : List ℕ) (t : Tables) → ((p : ℕ) → 0 < count_in p ps → (process_at t p).rest ≢ Nothing) → replies_to value ps t ≡ []
no_replies value [] t h = refl
no_replies value (p ∷ ps) t h =
    ap (λ l. l ++ replies_to value ps t) (no_reply value p (process_at t p).rest (h p (first_is_counted p ps)))
    ∙ no_replies value ps t (λ q w. h q (count_behind q p ps w))

-- a token releases the first who waits
pub token_passed : (d : CallState) (sem p : ℕ) (u : Tables) → IsInside d.state.tables → IsOfPart (semaphore_at d.state.tables sem).owner
    → Released p ≡ signal_answer (semaphore_at d.state.tables sem) → u ≡ ready p d.state.tables
    → record d { state = record d.state { tables = u }; owes_resched = true } ≡ signalled sem d
token_passed d sem p u o h answer is =
    let t = d.state.tables in
    let f = released_first (semaphore_at t sem) p answer in
    let w : 0 < count_in p (semaphore_at t sem).waiters = rw f.first (first_is_counted p f.others) in
    let none = no_reply (pos 0) p (process_at t p).rest (part_waiters t sem o h p w) in
    ap (λ u. record { state = record d.state { tables = u }; released = d.released; owes_resched = true }) is
    ∙ sym (ap (λ l. record { state = record d.state { tables = ready p t }; released = l; owes_resched = true })
    (ap (λ l. d.released ++ l) none ∙ append-nil d.released))
    ∙ sym (ap (λ l. signal_first sem l d) f.first)

-- what is under way once these became ready, who aren't answered
abbrev pub gone_on : List ℕ → CallState → CallState
gone_on ps d = record {
  state = record d.state { tables = ready_all ps d.state.tables };
  released = d.released;
  owes_resched = cond (are_any ps) true d.owes_resched;
}

-- all who wait go on
pub emptied_is : (sem : ℕ) (d : CallState) → IsInside d.state.tables → IsOfPart (semaphore_at d.state.tables sem).owner
    → emptied sem d ≡ gone_on (semaphore_at d.state.tables sem).waiters d
emptied_is sem d o h =
    let t = d.state.tables in
    let ps = (semaphore_at t sem).waiters in
    unblocked (pos 0) ps d t (λ p. refl)
    ∙ ap (λ l. record { state = record d.state { tables = ready_all ps t }; released = l; owes_resched = cond (are_any ps) true d.owes_resched })
    (ap (λ l. d.released ++ l) (no_replies (pos 0) ps t (part_waiters t sem o h)) ∙ append-nil d.released)

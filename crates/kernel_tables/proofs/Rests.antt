-- What is left of each call stays so while processes become ready, and in a resched and a tick.
use Rattle.std.proofs.Common.{◌≡◌, ◌∙◌, ◌+◌, ℕ, zero, suc, true, false, Bool, ℤ, List, [], ◌∷◌, set, get_or, Option, nat_lt, ◌-◌, refl}
use Rattle.std.proofs.lemmas.Bool.{cond_both}
use Rattle.xinu_base.specs.declared.processes.Process.{Process}
use Rattle.xinu_base.specs.declared.processes.State.TheVariants.{Ready, Current}
use Rattle.xinu_model.specs.Clock.{a_tick_later, quantum_falls}
use Rattle.xinu_model.specs.Process.Scheduling.{dispatch_first, in_state, is_current, keeps_cpu, preempt, ready, resched, ready_all}
use Rattle.xinu_model.specs.Tables.{InReady, message_at, move_to, no_process, Place, process_at, state_at, Tables}

-- The same is left of each process's call.
pub record SameRests (t u : Tables) : Type 0 where
  pub same : (p : ℕ) → (process_at u p).rest ≡ (process_at t p).rest

-- one after another
pub rests_twice : (t u v : Tables) → SameRests t u → SameRests u v → SameRests t v
rests_twice t u v a b = record { same = λ p. b.same p ∙ a.same p }

-- an entry with the same rest
rest_set : (l : List Process) (p : ℕ) (x : Process) (q : ℕ) → x.rest ≡ (get_or l p no_process).rest
    → (get_or (set l p x) q no_process).rest ≡ (get_or l q no_process).rest
rest_set [] p x q e = refl
rest_set (y ∷ l) zero x zero e = e
rest_set (y ∷ l) zero x (suc q) e = refl
rest_set (y ∷ l) (suc p) x zero e = refl
rest_set (y ∷ l) (suc p) x (suc q) e = rest_set l p x q e

-- a process moves with the same left of its call
pub rests_move : (t : Tables) (p : ℕ) (x : Process) (m : Option ℕ) (place : Place) → x.rest ≡ (process_at t p).rest
    → SameRests t (move_to p x m place t)
rests_move t p x m place e = record { same = λ q. rest_set t.processes p x q e }

-- it becomes ready
pub rests_ready : (t : Tables) (p : ℕ) → SameRests t (ready p t)
rests_ready t p = rests_move t p (in_state Ready (process_at t p)) (message_at t p) InReady refl

-- some become ready
pub rests_ready_all : (ps : List ℕ) (t : Tables) → SameRests t (ready_all ps t)
rests_ready_all [] t = record { same = λ p. refl }
rests_ready_all (p ∷ ps) t = rests_twice t (ready p t) (ready_all ps (ready p t)) (rests_ready t p) (rests_ready_all ps (ready p t))

-- a resched
rests_preempt : (t : Tables) → SameRests t (preempt t)
rests_preempt t = cond_both (is_current (state_at t t.current)) (ready t.current t) t (SameRests t) (λ _. rests_ready t t.current)
    (λ _. record { same = λ p. refl })

rests_dispatch_first : (l : List (ℕ × ℤ)) (t : Tables) → SameRests t (dispatch_first l t)
rests_dispatch_first [] t = record { same = λ p. refl }
rests_dispatch_first (e ∷ l) t = record { same = λ q. rest_set t.processes e.0 (in_state Current (process_at t e.0)) q refl }

pub rests_resched : (t : Tables) → SameRests t (resched t)
rests_resched t =
    cond_both (keeps_cpu t.ready t) t (dispatch_first (preempt t).ready (preempt t)) (SameRests t) (λ _. record { same = λ p. refl })
    (λ _. rests_twice t (preempt t) (dispatch_first (preempt t).ready (preempt t)) (rests_preempt t)
    (rests_dispatch_first (preempt t).ready (preempt t)))

-- the quantum falls
pub rests_quantum_falls : (t : Tables) → SameRests t (quantum_falls t)
rests_quantum_falls t =
    cond_both (nat_lt 1 t.quantum) (record t { quantum = t.quantum - 1 }) (resched (record t { quantum = 2 })) (SameRests t)
    (λ _. record { same = λ p. refl }) (λ _. record { same = (rests_resched (record t { quantum = 2 })).same })

-- a tick passes
pub rests_a_tick_later : (owes : Bool) (t : Tables) → SameRests t (a_tick_later owes t)
rests_a_tick_later true t = record { same = (rests_resched (record t { ticks = t.ticks + 1 })).same }
rests_a_tick_later false t = record { same = λ p. refl }

-- and those whose tick has come become ready
pub rests_tick : (ps : List ℕ) (owes : Bool) (t : Tables) → SameRests t (quantum_falls (a_tick_later owes (ready_all ps t)))
rests_tick ps owes t =
    let u = ready_all ps t in
    let v = a_tick_later owes u in
    rests_twice t v (quantum_falls v) (rests_twice t u v (rests_ready_all ps t) (rests_a_tick_later owes u)) (rests_quantum_falls v)

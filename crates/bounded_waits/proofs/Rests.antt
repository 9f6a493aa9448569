-- A resched changes nothing that is left of a process's call.
use Rattle.std.proofs.Common.{◌≡◌, ℕ, zero, suc, ◌||◌, List, [], ◌∷◌, Option, get_or, set, refl, ◌∙◌, ℤ}
use Rattle.std.proofs.lemmas.Bool.{cond_both}
use Rattle.xinu_base.specs.declared.processes.Process.{Process}
use Rattle.xinu_base.specs.declared.processes.State.TheVariants.{Current, Ready}
use Rattle.xinu_model.specs.Machine.{CallResult, closed, is_off}
use Rattle.xinu_model.specs.Process.Scheduling.{is_current, in_state, ready, ready_all, dispatch_first, preempt, keeps_cpu, resched}
use Rattle.xinu_model.specs.Tables.{no_process, Tables, process_at, state_at, message_at, Place, Nowhere, InReady, move_to}

-- one entry is replaced, in which the same is left
pub rest_set : (l : List Process) (q p : ℕ) (x : Process) → x.rest ≡ (get_or l q no_process).rest
    → (get_or (set l q x) p no_process).rest ≡ (get_or l p no_process).rest
rest_set [] q p x e = refl
rest_set (y ∷ l) zero zero x e = e
rest_set (y ∷ l) zero (suc p) x e = refl
rest_set (y ∷ l) (suc q) zero x e = refl
rest_set (y ∷ l) (suc q) (suc p) x e = rest_set l q p x e

-- From t to u each process has the same left of its call.
abbrev pub SameRests : Tables → Tables → Type 0
SameRests t u = (p : ℕ) → (process_at u p).rest ≡ (process_at t p).rest

pub rests_move : (t : Tables) (q : ℕ) (x : Process) (m : Option ℕ) (place : Place) → x.rest ≡ (process_at t q).rest → SameRests t (move_to q x m place t)
rests_move t q x m place e p = rest_set t.processes q p x e

rests_preempt : (t : Tables) → SameRests t (preempt t)
rests_preempt t =
    let c = t.current in
    cond_both (is_current (state_at t c)) (ready c t) t (SameRests t)
    (λ _. rests_move t c (in_state Ready (process_at t c)) (message_at t c) InReady refl) (λ _ p. refl)

rests_first : (l : List (ℕ × ℤ)) (t : Tables) → SameRests t (dispatch_first l t)
rests_first [] t p = refl
rests_first (e ∷ l) t p =
    rests_move (record t { current = e.0; quantum = 2 }) e.0 (in_state Current (process_at t e.0)) (message_at t e.0) Nowhere refl p

pub rests_resched : (t : Tables) → SameRests t (resched t)
rests_resched t =
    let u = preempt t in
    cond_both (keeps_cpu t.ready t) t (dispatch_first u.ready u) (SameRests t) (λ _ p. refl)
    (λ _ p. rests_first u.ready u p ∙ rests_preempt t p)

-- So do those who become ready, one after another,
pub rests_ready : (ps : List ℕ) (t : Tables) → SameRests t (ready_all ps t)
rests_ready [] t p = refl
rests_ready (q ∷ ps) t p =
    rests_ready ps (ready q t) p ∙ rests_move t q (in_state Ready (process_at t q)) (message_at t q) InReady refl p

-- and the end of an event leaves what is left of each call.
pub rests_closed : (h : CallResult) → SameRests h.call.state.tables (closed h)
rests_closed h =
    let t = h.call.state.tables in
    cond_both (h.call.owes_resched || is_off h.answer) (resched t) t (SameRests t) (λ _. rests_resched t) (λ _ p. refl)

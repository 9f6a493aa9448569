-- Those who still wait do so in the order of before.
use Rattle.std.proofs.Common.{◌≡◌, ℕ, ◌<◌, Bool, true, cond, ◌&&◌, List, [], ◌∷◌, filter, Option, refl, sym, ap, ◌∙◌, arith}
use Rattle.xinu_base.specs.declared.processes.Rest.{Rest}
use Rattle.xinu_base.specs.declared.processes.State.{State}
use Rattle.xinu_base.specs.declared.processes.State.TheVariants.{Free, Current, Ready, Receiving, Sleeping, Suspended, Waiting, Timed}
use Rattle.xinu_base.specs.declared.semaphores.Owner.{Owner}
use Rattle.xinu_model.specs.Sound.Tables.{count_in, waiting_places, FitsOwner, IsInside}
use Rattle.xinu_model.specs.Sound.Pools.{is_waiting}
use Rattle.xinu_model.specs.Tables.{Semaphore, no_semaphore, Tables, process_at, state_at, semaphore_at}
use Rattle.table_laws.proofs.Lists.Counts.{first_is_counted, count_behind, get_or-le-total}
use Rattle.table_laws.specs.Frame.{Frame, waits_at}

-- a filter that all pass
pub filter_all : (test : ℕ → Bool) (l : List ℕ) → ((x : ℕ) → 0 < count_in x l → test x ≡ true) → filter test l ≡ l
filter_all test [] h = refl
filter_all test (x ∷ l) h =
    ap (λ b. cond b (x ∷ filter test l) (filter test l)) (h x (first_is_counted x l))
    ∙ ap (λ r. x ∷ r) (filter_all test l (λ y g. h y (count_behind y x l g)))

waiting_of : (s : State) → 0 < waiting_places s → is_waiting s ≡ true
waiting_of Waiting h = refl
waiting_of Free h = absurd (omega arith)
waiting_of Current h = absurd (omega arith)
waiting_of Ready h = absurd (omega arith)
waiting_of Receiving h = absurd (omega arith)
waiting_of Sleeping h = absurd (omega arith)
waiting_of Suspended h = absurd (omega arith)
waiting_of Timed h = absurd (omega arith)

-- Who waits on a semaphore that is left alone: those of before who still wait, in the same order.
pub waiters_kept : {mine : ℕ → Option Owner → Bool} {asks : Rest → Bool} (t u : Tables) (sem : ℕ) → Frame mine asks t u → IsInside u
    → mine sem (semaphore_at t sem).owner ≡ true
    → ((left : Rest) → FitsOwner sem (semaphore_at u sem).owner left → asks left ≡ true)
    → (semaphore_at u sem).waiters ≡ filter (waits_at asks u) (semaphore_at t sem).waiters
waiters_kept {mine} {asks} t u sem c o m fits =
    sym (filter_all (waits_at asks u) (semaphore_at u sem).waiters
    (λ p h.
    let w : is_waiting (state_at u p) ≡ true = waiting_of (state_at u p)
    (let a = o.waiting p in let b = get_or-le-total
    (λ (x : Semaphore). count_in p x.waiters) u.semaphores sem no_semaphore refl in omega arith) in
    ap (λ b. b && asks (process_at u p).rest) w ∙ fits (process_at u p).rest (o.rests sem p h)))
    ∙ c.order sem m

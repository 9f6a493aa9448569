-- Processes that become ready one after another, waiters that are released, and signals keep what holds of the tables.
use Rattle.std.proofs.Common.{◌≡◌, ◌≢◌, ◌⊎◌, ℕ, zero, suc, ◌+◌, ◌-◌, ◌<◌, ◌≤◌, ◌==◌, not, List, [], ◌∷◌, length, take, refl, sym, ap, subst, ◌∙◌, arith, inl, inr, ⊎_elim, None, ℤ}
use Rattle.std.specs.List.{AllByRecursion}
use Rattle.std.proofs.lemmas.Bool.{cond_both, eq-eqb, cases_lt}
use Rattle.std.proofs.lemmas.List.{take_all}
use Rattle.xinu_base.specs.Constants.{OK}
use Rattle.xinu_base.specs.declared.processes.Process.{Process}
use Rattle.xinu_base.specs.declared.processes.State.TheVariants.{Free, Current, Ready, Waiting}
use Rattle.table_laws.specs.Moves.{CanBeReady}
use Rattle.xinu_model.specs.Machine.{Xinu, CallState, unblock_with, unblock_all, unblock_all_with}
use Rattle.xinu_model.specs.Process.Scheduling.{in_state, ready, ready_all}
use Rattle.xinu_model.specs.Semaphores.Counts.{with_tokens}
use Rattle.xinu_model.specs.Semaphores.Waiting.{signal_first, signalled, signalled_times, emptied, emptied_with}
use Rattle.xinu_model.specs.Sound.Tables.{count_in, HasOneKind, HoldsFor, IsInside, IsSoundTables}
use Rattle.xinu_model.specs.Tables.{Semaphore, no_semaphore, Tables, process_at, state_at, message_at, semaphore_at, numbers_without, InReady}
use Rattle.table_laws.proofs.Tables.Changes.{inside_tokens, sound_tokens}
use Rattle.table_laws.proofs.Lists.Counts.{first_is_counted, count_behind, get_or-le-total}
use Rattle.table_laws.proofs.Tables.Scheduling.{holds_at, inside_ready, sound_ready}
use Rattle.table_laws.proofs.Lists.Orders.{all_weaker}
use Rattle.table_laws.proofs.Tables.Places.{semaphore_at_without}
use Rattle.table_laws.proofs.Tables.MoveTo.{by_number, within_table, process_move_same, process_move_other, message_move_same, message_move_other}
use Rattle.xinu_model.proofs.States.{waiting_of}

-- Who is released becomes ready, and nothing else of the state changes.
pub unblock_all_with_ready : (value : ℤ) (ps : List ℕ) (d : CallState)
    → (unblock_all_with value ps d).state ≡ record d.state { tables = ready_all ps d.state.tables }
unblock_all_with_ready value [] d = refl
unblock_all_with_ready value (p ∷ ps) d = unblock_all_with_ready value ps (unblock_with value p d)

-- The same if they succeed.
pub unblock_all_ready : (ps : List ℕ) (d : CallState) → (unblock_all ps d).state ≡ record d.state { tables = ready_all ps d.state.tables }
unblock_all_ready = unblock_all_with_ready OK

-- The state is the same whatever those who wait on a semaphore answer.
pub emptied_alike : (value : ℤ) (sem : ℕ) (d : CallState) → (emptied_with value sem d).state ≡ (emptied sem d).state
emptied_alike value sem d = let l = (semaphore_at d.state.tables sem).waiters in unblock_all_with_ready value l d ∙ sym (unblock_all_ready l d)

-- who can become ready can become ready after another
pub can_be_ready_after : (t : Tables) (p q : ℕ) → IsInside t → CanBeReady t p → CanBeReady t q → CanBeReady (ready p t) q
can_be_ready_after t p q o cp cq =
    let x = in_state Ready (process_at t p) in
    let m = message_at t p in
    let w = within_table t p o.processes cp.alive in
    let here : process_at (ready p t) p ≡ x = process_move_same t p x m InReady o.processes w in
    let slot : message_at (ready p t) p ≡ m = message_move_same t p x m InReady o.messages w in
    record {
      alive = by_number q p (λ r. (process_at (ready p t) r).state ≢ Free) (subst (λ (y : Process). y.state ≢ Free) (sym here) (λ f. cc))
          (λ n. subst (λ (y : Process). y.state ≢ Free) (sym (process_move_other t q p x m InReady n)) cq.alive);
      idle = by_number q p (λ r. (process_at (ready p t) r).state ≢ Current) (subst (λ (y : Process). y.state ≢ Current) (sym here) (λ f. cc))
          (λ n. subst (λ (y : Process). y.state ≢ Current) (sym (process_move_other t q p x m InReady n)) cq.idle);
      holds = by_number q p (λ r. HoldsFor (process_at (ready p t) r).rest (message_at (ready p t) r))
          (subst (λ (y : Process). HoldsFor y.rest (message_at (ready p t) p)) (sym here) (subst (HoldsFor x.rest) (sym slot) cp.holds))
          (λ n. subst (λ (y : Process). HoldsFor y.rest (message_at (ready p t) q)) (sym (process_move_other t q p x m InReady n))
          (subst (HoldsFor (process_at t q).rest) (sym (message_move_other t q p x m InReady n)) cq.holds));
    }

-- the same of many
can_be_ready_all : (t : Tables) (p : ℕ) (ps : List ℕ) → IsInside t → CanBeReady t p → AllByRecursion (CanBeReady t) ps
    → AllByRecursion (CanBeReady (ready p t)) ps
can_be_ready_all t p ps o c all = all_weaker (CanBeReady t) (CanBeReady (ready p t)) (λ q k. can_be_ready_after t p q o c k) ps all

-- The current process goes on after that.
pub sound_ready_all : (ps : List ℕ) (t : Tables) → IsSoundTables t → AllByRecursion (CanBeReady t) ps → IsSoundTables (ready_all ps t)
sound_ready_all [] t k all = k
sound_ready_all (p ∷ ps) t k all = sound_ready_all ps (ready p t) (sound_ready t p k all.0) (can_be_ready_all t p ps k.inside all.0 all.1)

-- The current process goes on after that.
pub sound_unblock_all : (ps : List ℕ) (d : CallState) → IsSoundTables d.state.tables → AllByRecursion (CanBeReady d.state.tables) ps
    → IsSoundTables (unblock_all ps d).state.tables
sound_unblock_all ps d k all =
    subst (λ (s : Xinu). IsSoundTables s.tables) (sym (unblock_all_ready ps d)) (sound_ready_all ps d.state.tables k all)

-- who waits for a token can become ready
pub can_be_ready_waiting : (t : Tables) (p : ℕ) → IsInside t → state_at t p ≡ Waiting → CanBeReady t p
can_be_ready_waiting t p o e = record { alive = λ f. cc; idle = λ f. cc; holds = holds_at t p o (λ f. cc) }

-- who is among the waiters of a semaphore waits
pub waiter_waits : (t : Tables) (sem p : ℕ) → IsInside t → 0 < count_in p (semaphore_at t sem).waiters → state_at t p ≡ Waiting
waiter_waits t sem p o h =
    let l = get_or-le-total (λ x. count_in p x.waiters) t.semaphores sem no_semaphore refl in
    let e = o.waiting p in
    waiting_of (state_at t p) (omega arith)

-- a list's elements are counted in it
pub all_counted : (l : List ℕ) → AllByRecursion (λ p. 0 < count_in p l) l
all_counted [] = tt
all_counted (x ∷ xs) = (
  first_is_counted x xs,
  all_weaker (λ p. 0 < count_in p xs) (λ p. 0 < count_in p (x ∷ xs)) (λ p h. count_behind p x xs h) xs
      (all_counted xs),
)

-- the waiters of a semaphore can become ready
pub can_be_ready_waiters : (t : Tables) (sem : ℕ) → IsInside t → AllByRecursion (CanBeReady t) (semaphore_at t sem).waiters
can_be_ready_waiters t sem o =
    let l = (semaphore_at t sem).waiters in
    all_weaker (λ p. 0 < count_in p l) (CanBeReady t) (λ p h. can_be_ready_waiting t p o (waiter_waits t sem p o h)) l (all_counted l)

-- what holds of all of a list holds of its first n
pub all_take : {A : Type 0} (P : A → Type 0) (n : ℕ) (l : List A) → AllByRecursion P l → AllByRecursion P (take n l)
all_take P zero l h = tt
all_take P (suc n) [] h = tt
all_take P (suc n) (x ∷ xs) h = (h.0, all_take P n xs h.1)

-- x is one of the list
abbrev pub IsOneOf : ℕ → List ℕ → Type 0
IsOneOf x [] = ⊥
IsOneOf x (y ∷ ys) = (x ≡ y) ⊎ IsOneOf x ys

-- a list's elements are of it
pub all_are_of : (l : List ℕ) → AllByRecursion (λ x. IsOneOf x l) l
all_are_of [] = tt
all_are_of (x ∷ xs) = (inl refl, all_weaker (λ y. IsOneOf y xs) (λ y. IsOneOf y (x ∷ xs)) (λ y h. inr h) xs (all_are_of xs))

-- who is left of these once p is gone
of_others : (p : ℕ) (ps l : List ℕ) → AllByRecursion (λ x. IsOneOf x (p ∷ ps)) l → AllByRecursion (λ x. IsOneOf x ps) (numbers_without p l)
of_others p ps [] h = tt
of_others p ps (x ∷ xs) h =
    cond_both (not (x == p)) (x ∷ numbers_without p xs) (numbers_without p xs) (AllByRecursion (λ y. IsOneOf y ps))
    (λ b. (⊎_elim (λ (e : x ≡ p). let f = ap not (eq-eqb x p e) in cc) (λ (j : IsOneOf x ps). j) h.0, of_others p ps xs h.1))
    (λ _. of_others p ps xs h.1)

-- nobody is of an empty list
none_of : (l : List ℕ) → AllByRecursion (λ x. ⊥) l → l ≡ []
none_of [] h = refl
none_of (x ∷ xs) h = absurd h.0

-- if all who wait on a semaphore become ready nobody waits there any longer
waiters_after : (ps : List ℕ) (t : Tables) (sem : ℕ) → AllByRecursion (λ x. IsOneOf x ps) (semaphore_at t sem).waiters
    → (semaphore_at (ready_all ps t) sem).waiters ≡ []
waiters_after [] t sem h = none_of (semaphore_at t sem).waiters h
waiters_after (p ∷ ps) t sem h =
    waiters_after ps (ready p t) sem
    (subst (λ (x : Semaphore). AllByRecursion (λ y. IsOneOf y ps) x.waiters) (sym (semaphore_at_without p sem t.semaphores))
    (of_others p ps (semaphore_at t sem).waiters h))

-- Once all waiters of a semaphore become ready nobody waits there.
pub waiters_gone : (t : Tables) (sem : ℕ) → (semaphore_at (ready_all (semaphore_at t sem).waiters t) sem).waiters ≡ []
waiters_gone t sem = waiters_after (semaphore_at t sem).waiters t sem (all_are_of (semaphore_at t sem).waiters)

-- who becomes ready leaves a semaphore with its owner
pub owner_ready : (ps : List ℕ) (t : Tables) (sem : ℕ) → (semaphore_at (ready_all ps t) sem).owner ≡ (semaphore_at t sem).owner
owner_ready [] t sem = refl
owner_ready (p ∷ ps) t sem = owner_ready ps (ready p t) sem ∙ ap (λ (x : Semaphore). x.owner) (semaphore_at_without p sem t.semaphores)

-- The current process goes on after that.
pub sound_emptied : (sem : ℕ) (d : CallState) → IsSoundTables d.state.tables → IsSoundTables (emptied sem d).state.tables
sound_emptied sem d k = sound_unblock_all (semaphore_at d.state.tables sem).waiters d k (can_be_ready_waiters d.state.tables sem k.inside)

-- Nobody waits on a semaphore that was emptied.
pub emptied_has_no_waiters : (sem : ℕ) (d : CallState) → (semaphore_at (emptied sem d).state.tables sem).waiters ≡ []
emptied_has_no_waiters sem d =
    subst (λ (s : Xinu). (semaphore_at s.tables sem).waiters ≡ []) (sym (unblock_all_ready (semaphore_at d.state.tables sem).waiters d))
    (waiters_gone d.state.tables sem)

-- and each semaphore keeps its owner
pub owner_emptied : (sem r : ℕ) (d : CallState)
    → (semaphore_at (emptied sem d).state.tables r).owner ≡ (semaphore_at d.state.tables r).owner
owner_emptied sem r d =
    subst (λ (s : Xinu). (semaphore_at s.tables r).owner ≡ (semaphore_at d.state.tables r).owner)
    (sym (unblock_all_ready (semaphore_at d.state.tables sem).waiters d))
    (owner_ready (semaphore_at d.state.tables sem).waiters d.state.tables r)

-- one signal, if these wait
sound_signal_first : (sem : ℕ) (l : List ℕ) (d : CallState) → l ≡ (semaphore_at d.state.tables sem).waiters → IsSoundTables d.state.tables
    → sem < 128 → (semaphore_at d.state.tables sem).owner ≢ None → IsSoundTables (signal_first sem l d).state.tables
sound_signal_first sem [] d e k w used =
    sound_tokens d.state.tables sem ((semaphore_at d.state.tables sem).tokens + 1) k w used (inr (sym e))
sound_signal_first sem (p ∷ ps) d e k w used =
    sound_ready d.state.tables p k
    (can_be_ready_waiting d.state.tables p k.inside
    (waiter_waits d.state.tables sem p k.inside (subst (λ l. 0 < count_in p l) e (first_is_counted p ps))))

-- the same inside an event
inside_signal_first : (sem : ℕ) (l : List ℕ) (d : CallState) → l ≡ (semaphore_at d.state.tables sem).waiters → IsInside d.state.tables
    → sem < 128 → (semaphore_at d.state.tables sem).owner ≢ None → IsInside (signal_first sem l d).state.tables
inside_signal_first sem [] d e o w used =
    inside_tokens d.state.tables sem ((semaphore_at d.state.tables sem).tokens + 1) o w used (inr (sym e))
inside_signal_first sem (p ∷ ps) d e o w used =
    inside_ready d.state.tables p o
    (can_be_ready_waiting d.state.tables p o
    (waiter_waits d.state.tables sem p o (subst (λ l. 0 < count_in p l) e (first_is_counted p ps))))

-- A semaphore is signalled.
pub inside_signalled : (sem : ℕ) (d : CallState) → IsInside d.state.tables → sem < 128 → (semaphore_at d.state.tables sem).owner ≢ None
    → IsInside (signalled sem d).state.tables
inside_signalled sem d o w used = inside_signal_first sem (semaphore_at d.state.tables sem).waiters d refl o w used

-- The current process goes on after that.
pub sound_signalled : (sem : ℕ) (d : CallState) → IsSoundTables d.state.tables → sem < 128 → (semaphore_at d.state.tables sem).owner ≢ None
    → IsSoundTables (signalled sem d).state.tables
sound_signalled sem d k w used = sound_signal_first sem (semaphore_at d.state.tables sem).waiters d refl k w used

-- after n signals a semaphore hasn't both tokens and waiters
one_kind_signalled : (t : Tables) (sem n : ℕ) → IsInside t
    → HasOneKind (record (semaphore_at (ready_all (take n (semaphore_at t sem).waiters) t) sem) { tokens = (semaphore_at t sem).tokens + (n - length (semaphore_at t sem).waiters) })
one_kind_signalled t sem n o =
    let l = (semaphore_at t sem).waiters in
    let all : length l ≤ n → (semaphore_at (ready_all (take n l) t) sem).waiters ≡ [] =
    λ h. subst (λ ps. (semaphore_at (ready_all ps t) sem).waiters ≡ []) (sym (take_all n l h)) (waiters_gone t sem) in
    ⊎_elim
    (λ (z : (semaphore_at t sem).tokens ≡ 0). ⊎_elim (λ (h : n < length l). inl (omega arith)) (λ (h : length l ≤ n). inr (all h))
    (cases_lt n (length l)))
    (λ (z : l ≡ []). inr (all (let e : length l ≡ 0 = ap length z in omega arith)))
    (o.one_kind sem)

-- The current process goes on after that.
pub sound_signalled_times : (sem n : ℕ) (d : CallState) → IsSoundTables d.state.tables → sem < 128
    → (semaphore_at d.state.tables sem).owner ≢ None → IsSoundTables (signalled_times sem n d).state.tables
sound_signalled_times sem n d k w used =
    let t = d.state.tables in
    let x = semaphore_at t sem in
    let ps = take n x.waiters in
    let tokens = x.tokens + (n - length x.waiters) in
    let u = sound_ready_all ps t k (all_take (CanBeReady t) n x.waiters (can_be_ready_waiters t sem k.inside)) in
    subst (λ (y : Xinu). IsSoundTables (with_tokens sem tokens y.tables)) (sym (unblock_all_ready ps d))
    (sound_tokens (ready_all ps t) sem tokens u w (λ e. used (sym (owner_ready ps t sem) ∙ e)) (one_kind_signalled t sem n k.inside))

-- What is done to semaphores keeps what holds of the tables at each moment of an event.
use Rattle.std.proofs.Common.{◌≡◌, ◌≢◌, ◌∙◌, ◌<◌, ◌+◌, ◌-◌, ℕ, suc, Bool, true, false, cond, nat_lt, ℤ, pos, negsuc, List, [], ◌∷◌, length, take, rules, set, Option, Some, None, refl, sym, ap, subst, inr, arith, int_lt, get_or-set_same}
use Rattle.std.specs.Prelude.{IsSome}
use Rattle.std.proofs.lemmas.Bool.{cond_both}
use Rattle.std.proofs.lemmas.Bool.Decides.{nat_tests}
use Rattle.std.proofs.lemmas.List.{set-set}
use Rattle.queue_table.specs.Lists.{Entry}
use Rattle.process_core.specs.Tables.{Beside, process_in, ProcessTable, tables_of, with_process}
use Rattle.semaphores.specs.Counts.{beside, entry_at, number_for, SemaphoreTable, tokens_of, two_numbers, with_made, with_two}
use Rattle.semaphores.proofs.Counting.{owner_at}
use Rattle.semaphores.proofs.Finding.{are_found}
use Rattle.semaphores.specs.Signals.{after_signal, answer_to, signal_answer}
use Rattle.semaphores.specs.declared.waiting.Signalled.{Signalled}
use Rattle.semaphores.specs.declared.waiting.Signalled.TheVariants.{Full}
use Rattle.xinu_base.specs.declared.processes.Process.{Process}
use Rattle.xinu_base.specs.declared.processes.Rest.{Rest}
use Rattle.xinu_base.specs.declared.processes.State.TheVariants.{Waiting}
use Rattle.xinu_base.specs.declared.semaphores.Owner.{Owner}
use Rattle.xinu_base.specs.declared.semaphores.Owner.TheVariants.{Device}
use Rattle.xinu_model.specs.Machine.{Xinu}
use Rattle.xinu_model.specs.Process.Scheduling.{in_state, ready_all}
use Rattle.xinu_model.specs.Semaphores.Counts.{count_of, free_semaphore, make_semaphore, most_tokens, with_semaphore, with_tokens}
use Rattle.xinu_model.specs.Sound.Tables.{count_in, FitsOwner, IsInside, IsSoundTables}
use Rattle.xinu_model.specs.Tables.{InSemaphore, message_at, move_to, no_process, no_semaphore, Place, process_at, Semaphore, semaphore_at, Tables}
use Rattle.table_laws.proofs.Lists.Counts.{first_is_counted}
use Rattle.table_laws.proofs.Lists.Searches.{search_within}
use Rattle.table_laws.proofs.Preserve.{current_within, waits_hold}
use Rattle.table_laws.proofs.Tables.Found.{free_semaphore_free}
use Rattle.table_laws.proofs.Tables.Changes.{inside_given_up, inside_made_semaphore, inside_tokens, owned_is_no_device, sound_token_taken}
use Rattle.table_laws.proofs.Tables.MoveTo.{inside_move}
use Rattle.table_laws.proofs.Tables.Scheduling.{inside_ready}
use Rattle.table_laws.proofs.Tables.Unblock.{can_be_ready_waiters, can_be_ready_waiting, owner_ready, sound_ready_all, sound_signalled_times, unblock_all_ready, waiter_waits, waiters_gone}
use Rattle.kernel_tables.proofs.Sent.{with_these}
use Rattle.kernel_tables.proofs.Rests.{rests_ready_all, SameRests}

-- a number that is found is the first free one
found_free : (z : ℤ) (t : Tables) (sem : ℕ) → Some sem ≡ number_for z t → free_semaphore t ≡ Some sem
found_free (pos n) t sem e = sym e
found_free (negsuc n) t sem e = absurd (cc)

-- a semaphore is made if a number is found
pub inside_made : (found : Option ℕ) (by : Owner) (z : ℤ) (t : Tables) → IsInside t → found ≡ number_for z t → by ≢ Device
    → IsInside (with_made found by z t)
inside_made None by z t o e n = o
inside_made (Some sem) by z t o e n =
    let f = found_free z t sem e in
    inside_made_semaphore t sem (tokens_of z) by o (search_within _ 128 (t.last_semaphore + 1) sem f) (free_semaphore_free t sem f) n

-- two semaphores are made if two numbers are found
pub inside_two : (found : Option (ℕ × ℕ)) (by : Owner) (z : ℤ) (t : Tables) → IsInside t → found ≡ two_numbers by z t → by ≢ Device
    → IsInside (with_two found by z t)
inside_two None by z t o e n = o
inside_two (Some (first, second)) by z t o e n =
    let f = are_found first second by z t e in
    inside_made (Some second) by (pos 0) (make_semaphore first by (tokens_of z) t) (inside_made (Some first) by z t o f.one n) f.other n

-- a process that moved has another rest
pub moved_with_rest : (ls : List (List Entry)) (s : ProcessTable) (b : Beside) (t : Tables) (x : Process) (m : Option ℕ) (place : Place)
    (rest : Rest) → t.current < length t.processes
    → tables_of ls s b ≡ move_to t.current x m place t
    → tables_of ls (with_process s.current (record (process_in s.processes s.current) { rest = rest }) s) b
    ≡ move_to t.current (record x { rest = rest }) m place t
unfolding tables_of
moved_with_rest ls s b t x m place rest lt e =
    let F : Tables → Tables = λ u. record u { processes = set u.processes u.current (record (process_at u u.current) { rest = rest }) } in
    let c = t.current in
    ap F e
    ∙ ap (λ (y : Process). record (move_to c x m place t) { processes = set (set t.processes c x) c (record y { rest = rest }) })
    (get_or-set_same t.processes c x no_process lt)
    ∙ ap (λ l. record (move_to c x m place t) { processes = l }) (set-set t.processes c x (record x { rest = rest }))

-- the current process waits if there is no token
pub inside_waits : (t : Tables) (sem : ℕ) (rest : Rest) (took : Bool) → IsSoundTables t → t.current ≢ 0 → sem < 128
    → FitsOwner sem (semaphore_at t sem).owner rest
    → took ≡ nat_lt 0 (semaphore_at t sem).tokens
    → IsInside (cond took (with_tokens sem ((semaphore_at t sem).tokens - 1) t)
    (move_to t.current (record (process_at t t.current) { state = Waiting; rest = rest }) (message_at t t.current) (InSemaphore sem) t))
inside_waits t sem rest took k n lt fits is = cond_both took _ _ IsInside
    (λ b. (let e : nat_lt 0 (semaphore_at t sem).tokens ≡ true = sym is ∙ b in
    let some : (semaphore_at t sem).tokens ≡ suc ((semaphore_at t sem).tokens - 1) = grind (arith, nat_tests) in
    (sound_token_taken t sem ((semaphore_at t sem).tokens - 1) k lt some).inside))
    (λ b. (let e : nat_lt 0 (semaphore_at t sem).tokens ≡ false = sym is ∙ b in
    let none : (semaphore_at t sem).tokens ≡ 0 = grind (arith, nat_tests) in
    inside_move t t.current (record (process_at t t.current) { state = Waiting; rest = rest }) (message_at t t.current)
    (InSemaphore sem) k.inside (record {
      within = current_within t k;
      place_of = (refl, refl, refl);
      if_current = λ _. refl;
      if_null = λ e. absurd (n e);
      fits = (lt, none, fits);
      slot = waits_hold sem (semaphore_at t sem).owner rest (message_at t t.current) fits;
      if_free = λ e. absurd (cc);
    })))

-- a semaphore in use has an owner
pub used_owner : (o : Option Owner) → IsSome o → o ≢ None
used_owner None h e = absurd (cc)
used_owner (Some x) h e = absurd (cc)

-- one signal, if these wait
inside_answered : (t : Tables) (sem : ℕ) (l : List ℕ) → l ≡ (semaphore_at t sem).waiters → IsInside t → sem < 128
    → (semaphore_at t sem).owner ≢ None → IsInside (after_signal (answer_to l) sem t)
inside_answered t sem [] e o w used = inside_tokens t sem ((semaphore_at t sem).tokens + 1) o w used (inr (sym e))
inside_answered t sem (p ∷ ps) e o w used = inside_ready t p o
    (can_be_ready_waiting t p o (waiter_waits t sem p o (subst (λ l. 0 < count_in p l) e (first_is_counted p ps))))

-- a signal is refused, kept, or releases a process
pub inside_after_signal : (t : Tables) (sem : ℕ) (r : Signalled) → r ≡ signal_answer (semaphore_at t sem) → IsInside t → sem < 128
    → (semaphore_at t sem).owner ≢ None → IsInside (after_signal r sem t)
inside_after_signal t sem r is o w used =
    let x = semaphore_at t sem in
    let A : Signalled → Type 0 = λ r. IsInside (after_signal r sem t) in
    subst A (sym is) (cond_both (int_lt (count_of x) most_tokens) (answer_to x.waiters) Full A
    (λ _. inside_answered t sem x.waiters refl o w used) (λ _. o))

-- n signals
pub inside_signaln : (t : Tables) (sem n : ℕ) → IsSoundTables t → sem < 128 → (semaphore_at t sem).owner ≢ None
    → (let x = semaphore_at t sem in IsInside (with_tokens sem (x.tokens + (n - length x.waiters)) (ready_all (take n x.waiters) t)))
inside_signaln t sem n k w used =
    let x = semaphore_at t sem in
    subst (λ (y : Xinu). IsInside (with_tokens sem (x.tokens + (n - length x.waiters)) y.tables))
    (unblock_all_ready (take n x.waiters) (with_these t)) (sound_signalled_times sem n (with_these t) k w used).inside

-- all waiters become ready
pub sound_all_ready : (t : Tables) (sem : ℕ) → IsSoundTables t → IsSoundTables (ready_all (semaphore_at t sem).waiters t)
sound_all_ready t sem k = sound_ready_all (semaphore_at t sem).waiters t k (can_be_ready_waiters t sem k.inside)

-- a reset
pub inside_reset : (t : Tables) (sem n : ℕ) → IsSoundTables t → sem < 128 → (semaphore_at t sem).owner ≢ None
    → IsInside (with_tokens sem n (ready_all (semaphore_at t sem).waiters t))
inside_reset t sem n k w used =
    let ps = (semaphore_at t sem).waiters in
    inside_tokens (ready_all ps t) sem n (sound_all_ready t sem k).inside w (λ e. used (sym (owner_ready ps t sem) ∙ e))
    (inr (waiters_gone t sem))

-- a semaphore that isn't a device's is given up
pub inside_deleted : (t : Tables) (sem : ℕ) → IsSoundTables t → sem < 128 → (semaphore_at t sem).owner ≢ Some Device
    → IsInside (with_semaphore sem no_semaphore (ready_all (semaphore_at t sem).waiters t))
inside_deleted t sem k w n =
    inside_given_up (ready_all (semaphore_at t sem).waiters t) sem (sound_all_ready t sem k).inside w
    (owned_is_no_device t sem k.inside n) (waiters_gone t sem)

-- a semaphore that is written twice is the second
pub written_twice : (sem n : ℕ) (y : Semaphore) (t : Tables) → with_semaphore sem y (with_tokens sem n t) ≡ with_semaphore sem y t
written_twice sem n y t = ap (λ l. record t { semaphores = l }) (set-set t.semaphores sem (record (semaphore_at t sem) { tokens = n }) y)

-- the same is left of each call once some became ready and a semaphore is another
pub rests_written : (t : Tables) (ps : List ℕ) (sem : ℕ) (y : Semaphore) → SameRests t (with_semaphore sem y (ready_all ps t))
rests_written t ps sem y = record { same = (rests_ready_all ps t).same }

-- whoever fits the owner of a semaphore says that it is in use
pub fits_used : (sem : ℕ) (o : Option Owner) (rest : Rest) → FitsOwner sem o rest → IsSome o
fits_used sem None rest h = absurd h
fits_used sem (Some x) rest h = search rules

-- the entry of a semaphore in use
pub entry_used : (ls : List (List Entry)) (s : ProcessTable) (c : SemaphoreTable) (sem : ℕ) (m : List (Option ℕ)) (ticks : ℕ)
    → IsSome (semaphore_at (tables_of ls s (beside c m ticks)) sem).owner → IsSome (entry_at c.entries sem).owner
entry_used ls s c sem m ticks h = subst IsSome (owner_at ls s c sem m ticks) h

-- this is left of the call of the process that waits
pub left_waiting : (took : Bool) (ls : List (List Entry)) (s : ProcessTable) (b : Beside) (t u : Tables) (m : Option ℕ) (sem : ℕ)
    (rest : Rest) → t.current < length t.processes
    → tables_of ls s b ≡ cond took u (move_to t.current (in_state Waiting (process_at t t.current)) m (InSemaphore sem) t)
    → tables_of ls (cond took s (with_process s.current (record (process_in s.processes s.current) { rest = rest }) s)) b
    ≡ cond took u (move_to t.current (record (process_at t t.current) { state = Waiting; rest = rest }) m (InSemaphore sem) t)
left_waiting true ls s b t u m sem rest lt e = e
left_waiting false ls s b t u m sem rest lt e = moved_with_rest ls s b t (in_state Waiting (process_at t t.current)) m
    (InSemaphore sem) rest lt e

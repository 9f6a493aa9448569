-- What each move on a semaphore of the kernel's does to what its tokens promise.
use Rattle.std.proofs.Common.{◌≡◌, ◌≢◌, ℕ, suc, ◌+◌, ◌-◌, ◌<◌, ◌≤◌, Bool, true, false, not, List, [], ◌∷◌, length, take, Option, refl, sym, ap, subst, ◌∙◌, arith, get_or-set_other, ⊎_elim, get_or, set}
use Rattle.std.proofs.Math.ListN.{length-set}
use Rattle.std.proofs.lemmas.Bool.{and_from, and_left, and_right}
use Rattle.std.proofs.lemmas.List.{length-take}
use Rattle.xinu_base.specs.declared.processes.Process.{Process}
use Rattle.xinu_base.specs.declared.processes.Rest.{Rest}
use Rattle.xinu_base.specs.declared.processes.Rest.TheVariants.{Nothing}
use Rattle.xinu_base.specs.declared.processes.State.TheVariants.{Current, Ready, Waiting}
use Rattle.xinu_model.specs.Machine.{Xinu, CallState, unblock, unblock_all, goes_on}
use Rattle.xinu_model.specs.Process.Scheduling.{in_state, ready}
use Rattle.xinu_model.specs.Semaphores.Counts.{with_tokens}
use Rattle.xinu_model.specs.Semaphores.Waiting.{signalled_times}
use Rattle.xinu_model.specs.Sound.Console.{is_released, promised, HasSpan}
use Rattle.xinu_model.specs.Sound.Pools.{is_waiting}
use Rattle.xinu_model.specs.Sound.Tables.{times, count_in, IsInside, IsSoundTables}
use Rattle.xinu_model.specs.Tables.{no_process, Semaphore, no_semaphore, Tables, process_at, state_at, message_at, semaphore_at, Place, Nowhere, InReady, move_to}
use Rattle.table_laws.proofs.Frame.MoveTo.{same_written, read_written, tokens_move}
use Rattle.table_laws.proofs.Lists.Counts.{times-set, first_is_counted, count_behind}
use Rattle.xinu_laws.proofs.Pools.Steps.{at_most_one, counts_none, counts_one, tokens_tokens, waiter_within}
use Rattle.table_laws.proofs.Tables.MoveTo.{by_number}
use Rattle.table_laws.proofs.Tables.Unblock.{sound_unblock_all, can_be_ready_waiters, all_take}
use Rattle.xinu_laws.proofs.Touches.Moves.{counted_take}

-- the other semaphores keep their tokens
tokens_other : (t : Tables) (sem n r : ℕ) → r ≢ sem → (semaphore_at (with_tokens sem n t) r).tokens ≡ (semaphore_at t r).tokens
tokens_other t sem n r d =
    ap (λ (x : Semaphore). x.tokens) (get_or-set_other t.semaphores sem r (record (semaphore_at t sem) { tokens = n }) no_semaphore d)

-- A token that is taken takes what it promised,
pub promised_token : (asks : Rest → Bool) (t : Tables) (sem n : ℕ) → sem < length t.semaphores → (semaphore_at t sem).tokens ≡ suc n
    → suc (promised asks sem (with_tokens sem n t)) ≤ promised asks sem t
promised_token asks t sem n h e = let f = tokens_tokens t sem n h in omega arith

-- and nothing of another semaphore.
pub promised_token_other : (asks : Rest → Bool) (t : Tables) (sem n r : ℕ) → r ≢ sem
    → promised asks r (with_tokens sem n t) ≤ promised asks r t
promised_token_other asks t sem n r d = let f = tokens_other t sem n r d in omega arith

-- a process that isn't released afterwards is promised no more
promised_move : (asks : Rest → Bool) (t : Tables) (sem q : ℕ) (x : Process) (m : Option ℕ) (place : Place) → q < length t.processes
    → is_released asks x ≡ false → promised asks sem (move_to q x m place t) ≤ promised asks sem t
promised_move asks t sem q x m place h w =
    let e = times-set (is_released asks) t.processes q x no_process h in
    let f = counts_none (is_released asks x) w in
    let g = tokens_move t q x m place sem in
    omega arith

-- A caller that waits is promised nothing.
pub promised_blocked : (asks : Rest → Bool) (t : Tables) (sem q : ℕ) (x : Process) (m : Option ℕ) (place : Place) → q < length t.processes
    → x.state ≡ Waiting → promised asks sem (move_to q x m place t) ≤ promised asks sem t
promised_blocked asks t sem q x m place h w =
    promised_move asks t sem q x m place h (and_left (not (is_waiting x.state)) (asks x.rest) (ap (λ y. not (is_waiting y)) w))

-- A process that goes on takes what it was promised,
pub promised_goes_on : (asks : Rest → Bool) (r : ℕ) (message : Option ℕ) (s : Xinu) → asks Nothing ≡ false
    → s.tables.current < length s.tables.processes → state_at s.tables s.tables.current ≡ Current
    → asks (process_at s.tables s.tables.current).rest ≡ true → suc (promised asks r (goes_on message s).tables) ≤ promised asks r s.tables
promised_goes_on asks r message s none h c left =
    let t = s.tables in
    let old = process_at t t.current in
    let x = record old { rest = Nothing } in
    let e = times-set (is_released asks) t.processes t.current x no_process h in
    let f = counts_one (is_released asks old)
    (and_from (not (is_waiting old.state)) (asks old.rest) (ap (λ y. not (is_waiting y)) c) left) in
    let g = counts_none (is_released asks x) (and_right (not (is_waiting x.state)) (asks Nothing) none) in
    let k = tokens_move t t.current x message Nowhere r in
    omega arith

-- and nothing else.
pub promised_goes_on_other : (asks : Rest → Bool) (r : ℕ) (message : Option ℕ) (s : Xinu) → asks Nothing ≡ false
    → s.tables.current < length s.tables.processes → promised asks r (goes_on message s).tables ≤ promised asks r s.tables
promised_goes_on_other asks r message s none h =
    let t = s.tables in
    let x = record (process_at t t.current) { rest = Nothing } in
    promised_move asks t r t.current x message Nowhere h (and_right (not (is_waiting x.state)) (asks Nothing) none)

-- how many were released and haven't gone on
abbrev released_in : (Rest → Bool) → Tables → ℕ
released_in asks t = times (is_released asks) t.processes

-- one who becomes ready adds one at most,
released_ready : (asks : Rest → Bool) (t : Tables) (p : ℕ) → p < length t.processes
    → released_in asks (ready p t) ≤ suc (released_in asks t)
released_ready asks t p h =
    let x = in_state Ready (process_at t p) in
    let e = times-set (is_released asks) t.processes p x no_process h in
    let f = at_most_one (is_released asks x) in
    omega arith

-- and nothing if it isn't in such a call
released_ready_other : (asks : Rest → Bool) (t : Tables) (p : ℕ) → p < length t.processes → asks (process_at t p).rest ≡ false
    → released_in asks (ready p t) ≤ released_in asks t
released_ready_other asks t p h u =
    let x = in_state Ready (process_at t p) in
    let e = times-set (is_released asks) t.processes p x no_process h in
    let f = counts_none (is_released asks x) (and_right (not (is_waiting x.state)) (asks x.rest) u) in
    omega arith

-- some who become ready add as many at most,
released_all_here : (asks : Rest → Bool) (ps : List ℕ) (d : CallState) → ((p : ℕ) → 0 < count_in p ps → p < length d.state.tables.processes)
    → released_in asks (unblock_all ps d).state.tables ≤ length ps + released_in asks d.state.tables
released_all_here asks [] d w = omega arith
released_all_here asks (p ∷ ps) d w =
    let t = d.state.tables in
    let n = length-set t.processes p (in_state Ready (process_at t p)) in
    let e = released_ready asks t p (w p (first_is_counted p ps)) in
    let f = released_all_here asks ps (unblock p d) (λ q h. let g = w q (count_behind q p ps h) in omega arith) in
    omega arith

-- what is left of a process's call is as it was when another became ready
rest_ready : (t : Tables) (p q : ℕ) → (process_at (ready p t) q).rest ≡ (process_at t q).rest
rest_ready t p q = same_written (λ (x : Process). x.rest) t.processes p q (in_state Ready (process_at t p)) no_process refl

-- and nothing if none of them is in such a call
released_all_other : (asks : Rest → Bool) (ps : List ℕ) (d : CallState)
    → ((p : ℕ) → 0 < count_in p ps → (p < length d.state.tables.processes) × (asks (process_at d.state.tables p).rest ≡ false))
    → released_in asks (unblock_all ps d).state.tables ≤ released_in asks d.state.tables
released_all_other asks [] d w = omega arith
released_all_other asks (p ∷ ps) d w =
    let t = d.state.tables in
    let n = length-set t.processes p (in_state Ready (process_at t p)) in
    let first = w p (first_is_counted p ps) in
    let e = released_ready_other asks t p first.0 first.1 in
    let f = released_all_other asks ps (unblock p d)
    (λ q h. let g = w q (count_behind q p ps h) in let g0 = g.0 in (omega arith, ap asks (rest_ready t p q) ∙ g.1)) in
    omega arith

-- no token comes or goes when some become ready
tokens_unblock_all : (ps : List ℕ) (d : CallState) (r : ℕ)
    → (semaphore_at (unblock_all ps d).state.tables r).tokens ≡ (semaphore_at d.state.tables r).tokens
tokens_unblock_all [] d r = refl
tokens_unblock_all (p ∷ ps) d r =
    let t = d.state.tables in
    tokens_unblock_all ps (unblock p d) r ∙ tokens_move t p (in_state Ready (process_at t p)) (message_at t p) InReady r

-- n signals promise n more at most,
pub promised_signals : (asks : Rest → Bool) (sem n : ℕ) (d : CallState) → IsSoundTables d.state.tables → sem < 128
    → promised asks sem (signalled_times sem n d).state.tables ≤ n + promised asks sem d.state.tables
promised_signals asks sem n d k w =
    let t = d.state.tables in
    let l = (semaphore_at t sem).waiters in
    let after = unblock_all (take n l) d in
    let o = sound_unblock_all (take n l) d k (all_take _ n l (can_be_ready_waiters t sem k.inside)) in
    let z = o.inside.semaphores in
    let e = released_all_here asks (take n l) d (λ p h. waiter_within t sem k.inside p (counted_take p n l h)) in
    let f = tokens_tokens after.state.tables sem ((semaphore_at t sem).tokens + (n - length l)) (omega arith) in
    let g = length-take n l in
    omega arith

-- and nothing more of another semaphore, if nobody waits for it in such a call.
pub promised_signals_other : (asks : Rest → Bool) (sem n r : ℕ) (d : CallState) → IsInside d.state.tables → r ≢ sem
    → ((p : ℕ) → 0 < count_in p (semaphore_at d.state.tables sem).waiters → asks (process_at d.state.tables p).rest ≡ false)
    → promised asks r (signalled_times sem n d).state.tables ≤ promised asks r d.state.tables
promised_signals_other asks sem n r d o differ u =
    let t = d.state.tables in
    let l = (semaphore_at t sem).waiters in
    let after = unblock_all (take n l) d in
    let e = released_all_other asks (take n l) d (λ p h. let g = counted_take p n l h in (waiter_within t sem o p g, u p g)) in
    let f = tokens_other after.state.tables sem ((semaphore_at t sem).tokens + (n - length l)) r differ in
    let g = tokens_unblock_all (take n l) d r in
    omega arith

-- Each has a range to work through if a process changes that has one itself,
pub spans_move : (t : Tables) (q : ℕ) (x : Process) (m : Option ℕ) (place : Place) → HasSpan x.rest
    → ((p : ℕ) → HasSpan (process_at t p).rest) → (p : ℕ) → HasSpan (process_at (move_to q x m place t) p).rest
spans_move t q x m place h all p = by_number p q (λ r. HasSpan (get_or (set t.processes q x) r no_process).rest)
    (⊎_elim (λ (e : get_or (set t.processes q x) q no_process ≡ x). subst (λ (y : Process). HasSpan y.rest) (sym e) h)
    (λ (e : get_or (set t.processes q x) q no_process ≡ process_at t q). subst (λ (y : Process). HasSpan y.rest) (sym e) (all q))
    (read_written t.processes q x no_process))
    (λ n. subst (λ (y : Process). HasSpan y.rest) (sym (get_or-set_other t.processes q p x no_process n)) (all p))

-- and if some become ready.
pub spans_unblock_all : (ps : List ℕ) (d : CallState) → ((p : ℕ) → HasSpan (process_at d.state.tables p).rest)
    → (p : ℕ) → HasSpan (process_at (unblock_all ps d).state.tables p).rest
spans_unblock_all [] d all = all
spans_unblock_all (q ∷ ps) d all = spans_unblock_all ps (unblock q d) (λ p. subst HasSpan (sym (rest_ready d.state.tables q p)) (all p))

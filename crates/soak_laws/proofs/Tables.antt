-- The four processes stay alive in each move of the tables.
use Rattle.std.proofs.Common.{◌≡◌, ◌∙◌, ℕ, ◌≤◌, false, not, List, [], ◌∷◌, Option, Some, set, get_or, refl, sym, subst, ◌==◌, ℤ}
use Rattle.std.specs.Prelude.{int_lt, nat_le}
use Rattle.std.proofs.lemmas.Bool.{cond_both, le-ltb, ltb-false}
use Rattle.xinu_base.specs.declared.processes.Process.{Process}
use Rattle.xinu_base.specs.declared.processes.State.TheVariants.{Current, Ready}
use Rattle.xinu_base.specs.Constants.{QUANTUM}
use Rattle.xinu_base.specs.declared.semaphores.Owner.{Owner}
use Rattle.xinu_model.specs.Semaphores.Counts.{make_semaphore, with_semaphore, with_tokens}
use Rattle.xinu_model.specs.Process.Scheduling.{dispatch, dispatch_first, in_state, is_current, keeps_cpu, preempt, ready, resched}
use Rattle.xinu_model.specs.Tables.{InReady, InSemaphore, InSleepers, Nowhere, Place, Semaphore, Tables, entries_without, is_free, message_at, move_to, no_process, no_semaphore, process_at, ready_in, semaphore_at, semaphores_in, sleepers_in, state_at, waits_without, with_waiter}
use Rattle.table_laws.proofs.Tables.Places.{semaphore_at_without}
use Rattle.soak_laws.specs.Four.{AreFew, AreFour, HaveFew, IsEntry, MayBeLeft}
use Rattle.soak_laws.proofs.Lists.{all_append, all_filter, each_set}

-- ---- entries

-- one of the four, or the null process, in a state in which it is alive
pub entry : (p : ℕ) (x : Process) → p ≤ 4 → is_free x.state ≡ false → MayBeLeft x.rest → IsEntry p x
entry p x few lives left = record { lives = lives ∙ sym (le-ltb 4 p few); left = left }

-- who is alive is one of them
pub is_few : (p : ℕ) (x : Process) → IsEntry p x → is_free x.state ≡ false → p ≤ 4
is_few p x k lives = ltb-false 4 p (sym k.lives ∙ lives)

-- one of the four, or the null process, is alive
pub lives : (t : Tables) (p : ℕ) → AreFour t → p ≤ 4 → is_free (state_at t p) ≡ false
lives t p four few = (four.entries p).lives ∙ le-ltb 4 p few

-- ---- lists

few_ready : (place : Place) (p : ℕ) (key : ℤ) (l : List (ℕ × ℤ)) → p ≤ 4 → HaveFew l → HaveFew (ready_in place p key l)
few_ready InReady p key l few all =
    all_append (λ (e : ℕ × ℤ). e.0 ≤ 4) _ _ (all_filter (λ (e : ℕ × ℤ). e.0 ≤ 4) (λ x. not (int_lt x.1 key)) l all)
    (few, all_filter (λ (e : ℕ × ℤ). e.0 ≤ 4) (λ x. not (not (int_lt x.1 key))) l all)
few_ready Nowhere p key l few all = all
few_ready (InSemaphore sem) p key l few all = all
few_ready (InSleepers wake) p key l few all = all

few_sleepers : (place : Place) (p : ℕ) (l : List (ℕ × ℕ)) → p ≤ 4 → HaveFew l → HaveFew (sleepers_in place p l)
few_sleepers (InSleepers wake) p l few all =
    all_append (λ (e : ℕ × ℕ). e.0 ≤ 4) _ _ (all_filter (λ (e : ℕ × ℕ). e.0 ≤ 4) (λ x. nat_le x.1 wake) l all)
    (few, all_filter (λ (e : ℕ × ℕ). e.0 ≤ 4) (λ x. not (nat_le x.1 wake)) l all)
few_sleepers Nowhere p l few all = all
few_sleepers (InSemaphore sem) p l few all = all
few_sleepers InReady p l few all = all

few_waiters : (place : Place) (p : ℕ) (l : List Semaphore) → p ≤ 4 → ((sem : ℕ) → AreFew (get_or l sem no_semaphore).waiters)
    → (sem : ℕ) → AreFew (get_or (semaphores_in place p l) sem no_semaphore).waiters
few_waiters (InSemaphore sem) p l few all =
    each_set (λ q (x : Semaphore). AreFew x.waiters) l sem (with_waiter p (get_or l sem no_semaphore)) no_semaphore all
    (all_append (λ q. q ≤ 4) (get_or l sem no_semaphore).waiters (p ∷ []) (all sem) (few, tt))
few_waiters Nowhere p l few all = all
few_waiters InReady p l few all = all
few_waiters (InSleepers wake) p l few all = all

pub without_waiter : (p : ℕ) (l : List Semaphore) → ((sem : ℕ) → AreFew (get_or l sem no_semaphore).waiters)
    → (sem : ℕ) → AreFew (get_or (waits_without p l) sem no_semaphore).waiters
without_waiter p l all sem =
    subst (λ (x : Semaphore). AreFew x.waiters) (sym (semaphore_at_without p sem l))
    (all_filter (λ q. q ≤ 4) (λ q. not (q == p)) (get_or l sem no_semaphore).waiters (all sem))

-- ---- moves

-- one of them goes to a place
pub moved : (p : ℕ) (x : Process) (m : Option ℕ) (place : Place) (t : Tables) → AreFour t → p ≤ 4 → is_free x.state ≡ false
    → MayBeLeft x.rest → AreFour (move_to p x m place t)
moved p x m place t four few lives left = record {
  entries = each_set IsEntry t.processes p x no_process four.entries (entry p x few lives left);
  current = four.current;
  ready = few_ready place p x.priority (entries_without p t.ready) few (all_filter (λ (e : ℕ × ℤ). e.0 ≤ 4) (λ e. not (e.0 == p)) t.ready four.ready);
  waiters = few_waiters place p (waits_without p t.semaphores) few (without_waiter p t.semaphores four.waiters);
  sleepers = few_sleepers place p (entries_without p t.sleepers) few (all_filter (λ (e : ℕ × ℕ). e.0 ≤ 4) (λ e. not (e.0 == p)) t.sleepers four.sleepers);
}

-- what is left of a call of one of them
pub left_of : (t : Tables) (p : ℕ) → AreFour t → MayBeLeft (process_at t p).rest
left_of t p four = (four.entries p).left

-- p becomes ready
pub made_ready : (p : ℕ) (t : Tables) → AreFour t → p ≤ 4 → AreFour (ready p t)
made_ready p t four few = moved p (in_state Ready (process_at t p)) (message_at t p) InReady t four few refl (left_of t p four)

-- p becomes the current process
dispatched : (p : ℕ) (t : Tables) → AreFour t → p ≤ 4 → AreFour (dispatch p t)
dispatched p t four few =
    moved p (in_state Current (process_at t p)) (message_at t p) Nowhere (record t { current = p; quantum = QUANTUM })
    (record { entries = four.entries; current = few; ready = four.ready; waiters = four.waiters; sleepers = four.sleepers }) few refl
    (left_of t p four)

first_dispatched : (l : List (ℕ × ℤ)) (t : Tables) → AreFour t → HaveFew l → AreFour (dispatch_first l t)
first_dispatched [] t four all = four
first_dispatched (e ∷ es) t four all = dispatched e.0 t four all.0

preempted : (t : Tables) → AreFour t → AreFour (preempt t)
preempted t four =
    cond_both (is_current (state_at t t.current)) (ready t.current t) t AreFour (λ _. made_ready t.current t four four.current) (λ _. four)

-- a resched
pub rescheduled : (t : Tables) → AreFour t → AreFour (resched t)
rescheduled t four =
    let room = preempt t in
    let kept = preempted t four in
    cond_both (keeps_cpu t.ready t) t (dispatch_first room.ready room) AreFour (λ _. four) (λ _. first_dispatched room.ready room kept kept.ready)

-- ---- semaphores

-- a semaphore for which few wait
pub with_semaphore_kept : (sem : ℕ) (x : Semaphore) (t : Tables) → AreFour t → AreFew x.waiters → AreFour (with_semaphore sem x t)
with_semaphore_kept sem x t four few = record {
  entries = four.entries;
  current = four.current;
  ready = four.ready;
  waiters = each_set (λ q (y : Semaphore). AreFew y.waiters) t.semaphores sem x no_semaphore four.waiters few;
  sleepers = four.sleepers;
}

-- other tokens
pub with_tokens_kept : (sem n : ℕ) (t : Tables) → AreFour t → AreFour (with_tokens sem n t)
with_tokens_kept sem n t four = with_semaphore_kept sem (record (semaphore_at t sem) { tokens = n }) t four (four.waiters sem)

-- a semaphore is made
pub make_semaphore_kept : (sem : ℕ) (by : Owner) (n : ℕ) (t : Tables) → AreFour t → AreFour (make_semaphore sem by n t)
make_semaphore_kept sem by n t four =
    let kept = with_semaphore_kept sem (record { owner = Some by; tokens = n; waiters = [] }) t four tt in
    record { entries = kept.entries; current = kept.current; ready = kept.ready; waiters = kept.waiters; sleepers = kept.sleepers }

-- ---- the tables but for entries and lists

-- another quantum, other ticks and messages
pub same_lists : (t : Tables) (messages : List (Option ℕ)) (quantum ticks : ℕ) → AreFour t
    → AreFour (record t { messages = messages; quantum = quantum; ticks = ticks })
same_lists t messages quantum ticks four =
    record { entries = four.entries; current = four.current; ready = four.ready; waiters = four.waiters; sleepers = four.sleepers }

-- another entry for one of them
pub with_entry : (t : Tables) (p : ℕ) (x : Process) → AreFour t → IsEntry p x → AreFour (record t { processes = set t.processes p x })
with_entry t p x four one = record {
  entries = each_set IsEntry t.processes p x no_process four.entries one;
  current = four.current;
  ready = four.ready;
  waiters = four.waiters;
  sleepers = four.sleepers;
}

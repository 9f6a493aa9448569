-- A ready process is put off by no event: what comes before it in the ready list, and what is left of the quantum.
use Rattle.std.proofs.Common.{◌≡◌, ◌≢◌, ◌⊎◌, inl, inr, ⊎_elim, ℕ, suc, ◌+◌, ◌-◌, ◌*◌, ◌<◌, ◌≤◌, not, Bool, true, false, cond, List, [], ◌∷◌, length, take, refl, sym, ap, subst, ◌∙◌, arith, ℤ, ◌≤ℤ◌, Option, Some, None, get_or-set_other}
use Rattle.std.specs.Prelude.{int_lt, nat_lt, slice_set}
use Rattle.std.specs.List.{AllByRecursion}
use Rattle.std.proofs.Math.ListN.{length-set}
use Rattle.std.proofs.lemmas.Bool.{and_parts, cond_both, eq-eqb, ltb-false, ltb-true, true≢false}
use Rattle.std.proofs.lemmas.Int.{ints}
use Rattle.xinu_base.specs.Constants.{OK}
use Rattle.xinu_base.specs.declared.processes.Process.{Process}
use Rattle.xinu_base.specs.declared.processes.Rest.TheVariants as rest
use Rattle.xinu_base.specs.declared.processes.State.TheVariants.{Free, Current, Ready, Suspended}
use Rattle.xinu_model.specs.Clock.{a_tick_later, due, quantum_falls, ticked, wakeup}
use Rattle.xinu_model.specs.Machine.{Xinu, CallState, start, unblock_with, unblock_all_with}
use Rattle.xinu_model.specs.Messages.{listens}
use Rattle.xinu_model.specs.Process.Calls.{is_ready, with_priority}
use Rattle.xinu_model.specs.Process.Scheduling.{in_state, is_current, dispatch, dispatch_first, keeps_cpu, preempt, ready, resched}
use Rattle.xinu_model.specs.Sound.Tables.{count_in, entries_of, sleeping_places, HaveKeys, IsFalling, IsInside, IsSoundTables}
use Rattle.xinu_model.specs.Tables.{no_process, Tables, process_at, state_at, message_at, semaphore_at, entries_without, numbers_without, Place, Nowhere, InReady, move_to}
use Rattle.table_laws.proofs.Lists.Counts.{count_last_other, first_has_entry, entries_without_other, numbers_without_other, numbers_without_same}
use Rattle.table_laws.proofs.Lists.Orders.{all_both, all_ready_in}
use Rattle.table_laws.proofs.Tables.MoveTo.{by_number, within_table, process_move_same, process_move_other, state_move_same, state_move_other}
use Rattle.table_laws.proofs.Tables.Places.{ready_in_other}
use Rattle.table_laws.proofs.Tables.Scheduling.{inside_quantum, room_made}
use Rattle.table_laws.proofs.Tables.Ticks.{sound_later}
use Rattle.table_laws.proofs.Tables.Unblock.{all_take, IsOneOf, unblock_all_ready}
use Rattle.scheduling_laws.specs.RoundRobin.{WaitsItsTurn}
use Rattle.scheduling_laws.proofs.Eligible.{entry_of}
use Rattle.scheduling_laws.proofs.Lows.{HasKey, key_without, low, low_counted, low_moved, low_without}
use Rattle.scheduling_laws.proofs.Moves.{Anyone, IsClosed}
use Rattle.scheduling_laws.proofs.Passes.Events.{IsCarried}
use Rattle.scheduling_laws.proofs.Resched.{by_resched, itself}
use Rattle.scheduling_laws.proofs.Waiters.{all_others, waiters_given, waiters_left, waiters_moved}
use Rattle.scheduling_laws.proofs.Waking.{never_due}
use Rattle.xinu_model.proofs.States.{ready_of}

-- a key of at least k isn't below one of at most k
not_both : (a k top : ℤ) → k ≤ℤ a → int_lt a top ≡ true → top ≤ℤ k → ⊥
not_both a k top h i j = grind (arith, ints)

-- others than p
pub all_differ : (p : ℕ) (l : List ℕ) → (IsOneOf p l → ⊥) → AllByRecursion (λ x. p ≢ x) l
all_differ p [] n = tt
all_differ p (x ∷ xs) n = ((λ e. n (inl e)), all_differ p xs (λ i. n (inr i)))

module _ (p : ℕ) (k : ℤ) (q most : ℕ) where
  -- p is ready with key k, and so many entries at most are before it;
  abbrev pub IsReady : Tables → Type 0
  IsReady t =
      (state_at t p ≡ Ready) × ((process_at t p).priority ≡ k) × (0 < entries_of p t.ready) × (low p k t.ready ≤ most) × HasKey p k t.ready

  -- or it was killed or suspended.
  abbrev pub IsLost : Tables → Type 0
  IsLost t = (state_at t p ≡ Free) ⊎ (state_at t p ≡ Suspended)

  -- p waits on no semaphore and isn't the current process, and the quantum is q
  abbrev pub IsApart : Tables → Type 0
  IsApart t =
      (length t.processes ≡ 64) × (p < 64) × ((sem : ℕ) → count_in p (semaphore_at t sem).waiters ≡ 0) × (t.current ≢ p) × (t.quantum ≡ q)

  -- as an event begins, and inside it
  abbrev pub Begins : Tables → Type 0
  Begins t = IsReady t × IsApart t × IsSoundTables t

  abbrev pub Turned : Tables → Type 0
  Turned t = IsApart t × (IsReady t ⊎ IsLost t)

  -- another process moves
  ready_moved : (t : Tables) (x : ℕ) (y : Process) (m : Option ℕ) (place : Place) → p ≢ x → IsReady t → IsReady (move_to x y m place t)
  ready_moved t x y m place n h =
      let l = entries_without x t.ready in
      let less = low_moved place p x k y.priority t.ready n h.4 h.2 in
      let few = h.3 in (
        state_move_other t p x y m place n ∙ h.0,
        ap (λ (z : Process). z.priority) (process_move_other t p x y m place n) ∙ h.1,
        subst (λ c. 0 < c) (sym (ready_in_other place p x y.priority l n ∙ entries_without_other p x t.ready n)) h.2,
        omega arith,
        all_ready_in (λ e. e.0 ≡ p → e.1 ≡ k) place x y.priority l (λ e. absurd (n (sym e))) (key_without p x k t.ready h.4),
      )

  lost_moved : (t : Tables) (x : ℕ) (y : Process) (m : Option ℕ) (place : Place) → p ≢ x → IsLost t → IsLost (move_to x y m place t)
  lost_moved t x y m place n h =
      ⊎_elim (λ (e : state_at t p ≡ Free). inl (state_move_other t p x y m place n ∙ e))
      (λ (e : state_at t p ≡ Suspended). inr (state_move_other t p x y m place n ∙ e)) h

  apart_moved : (t : Tables) (x : ℕ) (y : Process) (m : Option ℕ) (place : Place) → p ≢ x → IsApart t → IsApart (move_to x y m place t)
  apart_moved t x y m place n h = (
    length-set t.processes x y ∙ h.0,
    h.1,
    (λ sem. waiters_moved (λ l. count_in p l ≡ 0) t x sem y m place (left sem)
        (count_last_other p x (numbers_without x (semaphore_at t sem).waiters) n ∙ left sem)),
    h.3,
    h.4,
  )
    where
      left : (sem : ℕ) → count_in p (numbers_without x (semaphore_at t sem).waiters) ≡ 0
      left sem = numbers_without_other p x (semaphore_at t sem).waiters n ∙ h.2 sem

  turned_moved : (t : Tables) (x : ℕ) (y : Process) (m : Option ℕ) (place : Place) → p ≢ x → Turned t → Turned (move_to x y m place t)
  turned_moved t x y m place n h = (
    apart_moved t x y m place n h.0,
    ⊎_elim (λ (r : IsReady t). inl (ready_moved t x y m place n r)) (λ (l : IsLost t). inr (lost_moved t x y m place n l)) h.1,
  )

  -- p leaves its place, killed or suspended
  apart_itself : (t : Tables) (y : Process) (m : Option ℕ) → IsApart t → IsApart (move_to p y m Nowhere t)
  apart_itself t y m h = (
    length-set t.processes p y ∙ h.0,
    h.1,
    (λ sem. waiters_left (λ l. count_in p l ≡ 0) p sem t.semaphores (numbers_without_same p (semaphore_at t sem).waiters)),
    h.3,
    h.4,
  )

  turned_dies : (t : Tables) (x : ℕ) → Turned t → Turned (move_to x no_process None Nowhere t)
  turned_dies t x h =
      by_number x p (λ r. Turned (move_to r no_process None Nowhere t))
      (apart_itself t no_process None h.0, inr (inl (state_move_same t p no_process None Nowhere h.0.0 h.0.1)))
      (λ n. turned_moved t x no_process None Nowhere (λ e. n (sym e)) h)

  pub turned_begins : (t : Tables) → Begins t → Turned t
  turned_begins t b = (b.1, inl b.0)

  turned_suspended : (t : Tables) (x : ℕ) → Begins t
      → Turned (move_to x (in_state Suspended (process_at t x)) (message_at t x) Nowhere t)
  turned_suspended t x b =
      by_number x p (λ r. Turned (move_to r (in_state Suspended (process_at t r)) (message_at t r) Nowhere t)) (
        apart_itself t (in_state Suspended (process_at t p)) (message_at t p) b.1,
        inr (inr (state_move_same t p (in_state Suspended (process_at t p)) (message_at t p) Nowhere b.1.0 b.1.1)),
      )
      (λ n. turned_moved t x (in_state Suspended (process_at t x)) (message_at t x) Nowhere (λ e. n (sym e)) (turned_begins t b))

  -- waiters are released
  pub turned_unblocked : (value : ℤ) (ps : List ℕ) (d : CallState) → AllByRecursion (λ x. p ≢ x) ps → Turned d.state.tables
      → Turned (unblock_all_with value ps d).state.tables
  turned_unblocked value [] d all h = h
  turned_unblocked value (x ∷ ps) d all h =
      let t = d.state.tables in
      turned_unblocked value ps (unblock_with value x d) all.1
      (turned_moved t x (in_state Ready (process_at t x)) (message_at t x) InReady all.0 h)

  -- who listens is another
  hearer_differs : (t : Tables) (x : ℕ) → listens (state_at t x) ≡ true → Turned t → p ≢ x
  hearer_differs t x l h e =
      let f : listens (state_at t p) ≡ true = subst (λ r. listens (state_at t r) ≡ true) (sym e) l in
      ⊎_elim (λ (r : IsReady t). true≢false (sym f ∙ ap listens r.0))
      (λ (i : IsLost t). ⊎_elim (λ (z : state_at t p ≡ Free). true≢false (sym f ∙ ap listens z))
      (λ (z : state_at t p ≡ Suspended). true≢false (sym f ∙ ap listens z)) i) h.1

  -- another process gets another priority
  turned_placed : (t : Tables) (x : ℕ) (priority : ℤ) → p ≢ x → Begins t → Turned (with_priority x priority t)
  turned_placed t x priority n b =
      let y = record (process_at t x) { priority = priority } in
      let same : process_at (record t { processes = slice_set t.processes x y }) p ≡ process_at t p =
      get_or-set_other t.processes x p y no_process n in
      cond_both (is_ready y.state) (move_to x y (message_at t x) InReady t) (record t { processes = slice_set t.processes x y }) Turned
      (λ r. turned_moved t x y (message_at t x) InReady n (turned_begins t b))
      (λ _. (
        (length-set t.processes x y ∙ b.1.0, b.1.1, b.1.2, b.1.3, b.1.4),
        inl (ap (λ (z : Process). z.state) same ∙ b.0.0, ap (λ (z : Process). z.priority) same ∙ b.0.1, b.0.2, b.0.3, b.0.4),
      ))

  -- Each move of a call leaves p no later, kills it or suspends it, if nobody gives p a priority.
  pub turned_closed : IsClosed (λ x. p ≢ x) Anyone Begins (λ t owes. Turned t)
  turned_closed = record {
    begins = turned_begins;
    owes = λ t h. h;
    releases = λ value sem n d touch h. let l = (semaphore_at d.state.tables sem).waiters in
        turned_unblocked value (take n l) d (all_take (λ x. p ≢ x) n l (all_others p l (h.0.2 sem))) h;
    hears = λ t b x m l h. turned_moved t x (in_state Ready (process_at t x)) (Some m) InReady (hearer_differs t x l h) h;
    replies = λ t b sem x xs reply touch c f h. turned_moved t x (record (process_at t x) { state = Ready; rest = rest.Disk (Some reply) }) (message_at t x) InReady
        (subst (AllByRecursion (λ r. p ≢ r)) f (all_others p (semaphore_at t sem).waiters (h.0.2 sem))).0 h;
    counts = λ t b sem x touch f h. (
      (
        h.0.0,
        h.0.1,
        (λ r. waiters_given (λ l. count_in p l ≡ 0) t sem r x (λ _.
            ⊎_elim (λ (e : x.waiters ≡ []). subst (λ l. count_in p l ≡ 0) (sym e) refl)
            (λ (e : x.waiters ≡ (semaphore_at t sem).waiters). subst (λ l. count_in p l ≡ 0) (sym e) (h.0.2 sem)) f) (h.0.2 r)),
        h.0.3,
        h.0.4,
      ),
      h.1,
    );
    numbers = λ t b n h. h;
    messages = λ t b q m h. h;
    goes_on = λ t m c b. turned_moved t t.current (record (process_at t t.current) { rest = rest.Nothing }) m Nowhere (λ e. b.1.3 (sym e)) (turned_begins t b);
    stops = λ t state left place touch h.
        turned_moved t t.current (record (process_at t t.current) { state = state; rest = left }) (message_at t t.current) place (λ e. h.0.3 (sym e)) h;
    dies = λ t b x n h. turned_dies t x h;
    exits = λ t b x h. turned_dies t x h;
    makes = λ t x y c free b. turned_moved t x y None Nowhere (λ e. let f = sym b.0.0 ∙ ap (state_at t) e ∙ free in cc) (turned_begins t b);
    resumes = λ t x c s b. turned_moved t x (in_state Ready (process_at t x)) (message_at t x) InReady
        (λ e. let f = sym b.0.0 ∙ ap (state_at t) e ∙ s in cc) (turned_begins t b);
    suspends = λ t x c s b. turned_suspended t x b;
    places = λ t x priority n c b. turned_placed t x priority n b;
  }

  -- who was killed or suspended stays so in a resched
  lost_resched : (t : Tables) → IsInside t → IsLost t → IsLost (resched t)
  lost_resched t o h =
      by_resched IsLost t o h
      (λ e. lost_moved t t.current (in_state Ready (process_at t t.current)) (message_at t t.current) InReady
      (λ f. not_lost t h (λ z. let g = sym z ∙ ap (state_at t) f ∙ e in cc) (λ z. let g = sym z ∙ ap (state_at t) f ∙ e in cc)) h)
      (λ u x i e j. lost_moved (record u { current = x; quantum = 2 }) x (in_state Current (process_at u x)) (message_at u x) Nowhere
      (λ f. not_lost u j (λ z. let g = sym z ∙ ap (state_at u) f ∙ e in cc) (λ z. let g = sym z ∙ ap (state_at u) f ∙ e in cc)) j)
    where
      not_lost : (u : Tables) → IsLost u → (state_at u p ≡ Free → ⊥) → (state_at u p ≡ Suspended → ⊥) → ⊥
      not_lost u j free suspended =
          ⊎_elim (λ (z : state_at u p ≡ Free). free z) (λ (z : state_at u p ≡ Suspended). suspended z) j

  lost_waits : {P : Type 0} (t : Tables) → IsLost t → WaitsItsTurn p k t → P
  lost_waits t h w =
      absurd (⊎_elim (λ (z : state_at t p ≡ Free). let g = sym z ∙ w.0 in absurd (cc))
      (λ (z : state_at t p ≡ Suspended). let g = sym z ∙ w.0 in absurd (cc)) h)

  -- A ready process of key at most k is run: one less is before p.
  one_less : (x : ℕ × ℤ) (xs : List (ℕ × ℤ)) → p ≢ x.0 → x.1 ≤ℤ k → low p k (x ∷ xs) ≤ most → suc (low p k (entries_without x.0 (x ∷ xs))) ≤ most
  one_less x xs n less few =
      let others = entries_without x.0 xs in
      let gone : entries_without x.0 (x ∷ xs) ≡ others = ap (λ b. cond (not b) (x ∷ others) others) (eq-eqb x.0 x.0 refl) in
      let counted : low p k (x ∷ xs) ≡ suc (low p k xs) = low_counted p k x xs (λ e. n (sym e)) less in
      let left = low_without p x.0 k xs n in
      subst (λ l. suc (low p k l) ≤ most) (sym gone) (omega arith)

  -- the same of the tables, if p still waits its turn then
  run_later : (x : ℕ × ℤ) (xs : List (ℕ × ℤ)) (u : Tables) → IsInside u → p < 64 → x ∷ xs ≡ u.ready → IsReady u
      → WaitsItsTurn p k (dispatch x.0 u) → suc (low p k (dispatch x.0 u).ready) ≤ most
  run_later x xs u i within e h w =
      let v = record u { current = x.0; quantum = 2 } in
      let y = in_state Current (process_at u x.0) in
      let m = message_at u x.0 in
      let here : 0 < entries_of x.0 u.ready = subst (λ l. 0 < entries_of x.0 l) e (first_has_entry x xs) in
      let places = i.ready x.0 in
      let is : state_at u x.0 ≡ Ready = ready_of (state_at u x.0) (omega arith) in
      let inside = within_table u x.0 i.processes (λ f. let g = sym is ∙ f in cc) in
      let keys : HaveKeys u.processes (x ∷ xs) = subst (HaveKeys u.processes) (sym e) i.keys in
      let runs : state_at (dispatch x.0 u) x.0 ≡ Current = state_move_same v x.0 y m Nowhere i.processes inside in
      let top : (process_at (dispatch x.0 u) x.0).priority ≡ x.1 =
      ap (λ (z : Process). z.priority) (process_move_same v x.0 y m Nowhere i.processes inside) ∙ sym keys.0 in
      let n : p ≢ x.0 = λ f. let g = sym w.0 ∙ ap (state_at (dispatch x.0 u)) f ∙ runs in cc in
      subst (λ l. suc (low p k (entries_without x.0 l)) ≤ most) e
      (one_less x xs n (subst (λ a. a ≤ℤ k) top w.2) (subst (λ l. low p k l ≤ most) (sym e) h.3))

  -- the first of the list is run
  first_run : (l : List (ℕ × ℤ)) (u : Tables) → IsInside u → p < 64 → l ≡ u.ready → IsReady u
      → ((dispatch_first l u).quantum ≡ 2) × (WaitsItsTurn p k (dispatch_first l u) → suc (low p k (dispatch_first l u).ready) ≤ most)
  first_run [] u i within e h =
      let none : 0 ≡ entries_of p u.ready = ap (entries_of p) e in
      let some = h.2 in
      absurd (omega arith)
  first_run (x ∷ xs) u i within e h = (refl, run_later x xs u i within e h)

  -- the current process makes room
  ready_room : (t : Tables) → t.current ≢ p → IsReady t → IsReady (preempt t)
  ready_room t n h =
      let c = t.current in
      cond_both (is_current (state_at t c)) (ready c t) t IsReady
      (λ b. ready_moved t c (in_state Ready (process_at t c)) (message_at t c) InReady (λ e. n (sym e)) h) (λ _. h)

  -- After a resched p is lost, or all is as it was, or the quantum is whole and one less is before p.
  abbrev Mid : Tables → Type 0
  Mid t = IsLost t ⊎ ((IsReady t × (t.quantum ≡ q)) ⊎ ((t.quantum ≡ 2) × (WaitsItsTurn p k t → suc (low p k t.ready) ≤ most)))

  mid_turned : (t : Tables) → Turned t → Mid t
  mid_turned t h = ⊎_elim (λ (r : IsReady t). inr (inl (r, h.0.4))) (λ (l : IsLost t). inl l) h.1

  mid_resched : (t : Tables) → IsInside t → Turned t → Mid (resched t)
  mid_resched t o h =
      ⊎_elim
      (λ (r : IsReady t). cond_both (keeps_cpu t.ready t) t (dispatch_first (preempt t).ready (preempt t)) Mid (λ _. mid_turned t h)
      (λ _. inr (inr (first_run (preempt t).ready (preempt t) (room_made t o).0 h.0.1 refl (ready_room t h.0.3 r)))))
      (λ (l : IsLost t). inl (lost_resched t o l)) h.1

  -- the current process doesn't keep the processor from an equal
  keeps_not : (l : List (ℕ × ℤ)) (t : Tables) → l ≡ t.ready → IsFalling l → 0 < entries_of p l → HasKey p k l → keeps_cpu l t ≡ true
      → (process_at t t.current).priority ≤ℤ k → ⊥
  keeps_not [] t e falls here keys b less = absurd (omega arith)
  keeps_not (x ∷ xs) t e falls here keys b less =
      let top = (process_at t t.current).priority in
      let found = entry_of (λ y. (y.0 ≡ p → y.1 ≡ k) × (y.1 ≤ℤ x.1)) p (x ∷ xs)
      (all_both (λ y. y.0 ≡ p → y.1 ≡ k) (λ y. y.1 ≤ℤ x.1) (x ∷ xs) keys (itself x.1, falls.0)) here in
      not_both x.1 k top (subst (λ a. a ≤ℤ x.1) (found.2.0 found.1) found.2.1)
      (and_parts (is_current (state_at t t.current)) (int_lt x.1 top) b).1 less

  -- a resched with a whole quantum
  last_resched : (t : Tables) → IsInside t → p < 64 → t.current ≢ p → IsReady t → WaitsItsTurn p k (resched t)
      → ((resched t).quantum ≡ 2) × (suc (low p k (resched t).ready) ≤ most)
  last_resched t o within n h =
      cond_both (keeps_cpu t.ready t) t (dispatch_first (preempt t).ready (preempt t))
      (λ u. WaitsItsTurn p k u → (u.quantum ≡ 2) × (suc (low p k u.ready) ≤ most))
      (λ b w. absurd (keeps_not t.ready t refl o.falling h.2 h.4 b w.2))
      (λ _ w. let f = first_run (preempt t).ready (preempt t) (room_made t o).0 within refl (ready_room t n h) in (f.0, f.1 w))

  -- After an event p's turn is no later;
  abbrev pub NoLater : Tables → Type 0
  NoLater t = WaitsItsTurn p k t → t.quantum + 2 * low p k t.ready ≤ q + 2 * most

  mid_no_later : (t : Tables) → Mid t → NoLater t
  mid_no_later t m w =
      ⊎_elim (λ (l : IsLost t). lost_waits t l w)
      (λ (i : (IsReady t × (t.quantum ≡ q)) ⊎ ((t.quantum ≡ 2) × (WaitsItsTurn p k t → suc (low p k t.ready) ≤ most))).
      ⊎_elim (λ (r : IsReady t × (t.quantum ≡ q)). let a = r.0.3 in let b = r.1 in omega arith)
      (λ (r : (t.quantum ≡ 2) × (WaitsItsTurn p k t → suc (low p k t.ready) ≤ most)). let a = r.1 w in let b = r.0 in omega arith) i) m

  -- after a tick it is nearer.
  abbrev pub Nearer : Tables → Type 0
  Nearer t = WaitsItsTurn p k t → t.quantum + 2 * low p k t.ready + 1 ≤ q + 2 * most

  mid_falls : (t : Tables) → IsSoundTables t → p < 64 → 1 ≤ q → Mid t → Nearer (quantum_falls t)
  mid_falls t c within some m =
      let v = record t { quantum = 2 } in
      let o = inside_quantum t 2 c.inside in
      cond_both (nat_lt 1 t.quantum) (record t { quantum = t.quantum - 1 }) (resched v) Nearer
      (λ b w. let two = ltb-true 1 t.quantum b in
      ⊎_elim (λ (l : IsLost t). lost_waits t l w)
      (λ (i : (IsReady t × (t.quantum ≡ q)) ⊎ ((t.quantum ≡ 2) × (WaitsItsTurn p k t → suc (low p k t.ready) ≤ most))).
      ⊎_elim (λ (r : IsReady t × (t.quantum ≡ q)). let a = r.0.3 in let e = r.1 in omega arith)
      (λ (r : (t.quantum ≡ 2) × (WaitsItsTurn p k t → suc (low p k t.ready) ≤ most)). let a = r.1 w in let e = r.0 in omega arith) i) m)
      (λ b w. let one = ltb-false 1 t.quantum b in
      ⊎_elim (λ (l : IsLost t). lost_waits (resched v) (lost_resched v o l) w)
      (λ (i : (IsReady t × (t.quantum ≡ q)) ⊎ ((t.quantum ≡ 2) × (WaitsItsTurn p k t → suc (low p k t.ready) ≤ most))).
      ⊎_elim
      (λ (r : IsReady t × (t.quantum ≡ q)).
      let f = last_resched v o within (λ e. let g = sym c.runs ∙ ap (state_at t) e ∙ r.0.0 in cc) r.0 w in
      let a = f.0 in let d = f.1 in omega arith)
      (λ (r : (t.quantum ≡ 2) × (WaitsItsTurn p k t → suc (low p k t.ready) ≤ most)). let e = r.0 in absurd (omega arith)) i) m)

  -- a tick
  pub nearer_ticked : (s : Xinu) → IsSoundTables s.tables → 1 ≤ q → Begins s.tables → Nearer (ticked s).state.tables
  nearer_ticked s c some b =
      let ps = due (s.tables.ticks + 1) s.tables.sleepers in
      let d = wakeup s in
      let t = d.state.tables in
      let later = record t { ticks = t.ticks + 1 } in
      let h : Turned t = turned_unblocked OK ps (start s) (all_differ p ps (never_due s.tables p (s.tables.ticks + 1) c.inside (ap sleeping_places b.0.0))) (turned_begins s.tables b) in
      let after : (owes : Bool) → IsSoundTables (a_tick_later owes t) =
      λ owes. subst (λ (x : Xinu). IsSoundTables (a_tick_later owes x.tables)) (sym (unblock_all_ready ps (start s))) (sound_later owes s.tables c) in
      mid_falls (a_tick_later d.owes_resched t) (after d.owes_resched) b.1.1 some
      (cond_both d.owes_resched (resched later) later Mid (λ _. mid_resched later (after false).inside h) (λ _. mid_turned later h))

  -- Each event.
  pub turned_carried : 1 ≤ q → IsCarried (λ x. p ≢ x) Anyone Begins (λ t owes. Turned t) NoLater
  turned_carried some = record {
    moves = turned_closed;
    stays = λ t b. mid_no_later t (mid_turned t (turned_begins t b));
    ends = λ t o h. mid_no_later t (mid_turned t h);
    rescheds = λ t o h. mid_no_later (resched t) (mid_resched t o h);
    ticks = λ s c b w. let f = nearer_ticked s c some b w in omega arith;
  }

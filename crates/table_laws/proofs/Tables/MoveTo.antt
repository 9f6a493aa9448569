-- A process that moves keeps what holds of the tables at each moment.
use Rattle.std.proofs.Common.{◌≡◌, ◌≢◌, ℕ, ◌<◌, ◌≤◌, ◌==◌, not, List, [], ◌∷◌, ◌++◌, length, get_or, set, refl, sym, ap, subst, ◌∙◌, arith, ⊎_elim, inl, inr, Option, None, Some, true, ℤ, get_or-set_same, get_or-set_other}
use Rattle.std.proofs.Math.ListN.{length-set}
use Rattle.std.proofs.lemmas.Bool.{cases_eq, cases_lt, eqb-false, not-true}
use Rattle.std.proofs.lemmas.List.{get_or_past}
use Rattle.xinu_base.specs.declared.processes.Process.{Process}
use Rattle.xinu_base.specs.declared.processes.Rest.TheVariants.{Nothing}
use Rattle.xinu_base.specs.declared.processes.State.TheVariants.{Free, Current}
use Rattle.xinu_base.specs.declared.semaphores.Owner.TheVariants.{Device}
use Rattle.table_laws.specs.Moves.{CanMove, FitsPlace}
use Rattle.xinu_model.specs.Sound.Tables.{entries_of, waits_of, count_in, ready_places, waiting_places, sleeping_places, CanRun, HasOneKind, FitsOwner, FitsMessage, HaveKeys, IsInside, IsFixed, IsUnused}
use Rattle.xinu_model.specs.Tables.{no_process, Semaphore, no_semaphore, Tables, process_at, state_at, message_at, semaphore_at, entries_without, numbers_without, semaphore_without, waits_without, with_waiter, Place, Nowhere, InReady, InSemaphore, InSleepers, ready_in, semaphores_in, sleepers_in, move_to}
use Rattle.table_laws.proofs.Lists.Counts.{entries_without_same, entries_without_other, numbers_without_same, numbers_without_other, count_last_other}
use Rattle.table_laws.proofs.Lists.Orders.{all_filter, all_weaker, all_passes, all_both, all_ready_in, falling_in, falling_without, rising_in, rising_without, IsLater, later_in}
use Rattle.table_laws.proofs.Tables.Places.{IsInTable, waits_without_same, waits_without_other, length-waits_without, semaphore_at_without, ready_in_same, ready_in_other, sleepers_in_same, sleepers_in_other, semaphores_in_same, semaphores_in_other, length-semaphores_in}

-- what holds at q and at each other number holds at all
pub by_number : (p q : ℕ) (P : ℕ → Type 0) → P q → (p ≢ q → P p) → P p
by_number p q P same other = ⊎_elim (λ (e : p ≡ q). subst P (sym e) same) (λ (n : p ≢ q). other n) (cases_eq p q)

-- a process that isn't free has a number of the table
pub within_table : (t : Tables) (p : ℕ) → length t.processes ≡ 64 → state_at t p ≢ Free → p < 64
within_table t p e n =
    ⊎_elim (λ (h : p < 64). h)
    (λ (h : 64 ≤ p). absurd (n (ap (λ (y : Process). y.state) (get_or_past t.processes p no_process (omega arith))))) (cases_lt p 64)

-- a semaphore in use has a number of the table
pub semaphore_within : (t : Tables) (sem : ℕ) → length t.semaphores ≡ 128 → (semaphore_at t sem).owner ≢ None → sem < 128
semaphore_within t sem e n =
    ⊎_elim (λ (h : sem < 128). h)
    (λ (h : 128 ≤ sem). absurd (n (ap (λ (y : Semaphore). y.owner) (get_or_past t.semaphores sem no_semaphore (omega arith)))))
    (cases_lt sem 128)

-- a process that moved is what it became
pub process_move_same : (t : Tables) (q : ℕ) (x : Process) (m : Option ℕ) (place : Place) → length t.processes ≡ 64 → q < 64
    → process_at (move_to q x m place t) q ≡ x
process_move_same t q x m place e h = get_or-set_same t.processes q x no_process (omega arith)

-- the others are what they were
pub process_move_other : (t : Tables) (p q : ℕ) (x : Process) (m : Option ℕ) (place : Place) → p ≢ q
    → process_at (move_to q x m place t) p ≡ process_at t p
process_move_other t p q x m place n = get_or-set_other t.processes q p x no_process n

-- a process that moved is in its new state
pub state_move_same : (t : Tables) (q : ℕ) (x : Process) (m : Option ℕ) (place : Place) → length t.processes ≡ 64 → q < 64
    → state_at (move_to q x m place t) q ≡ x.state
state_move_same t q x m place e h = ap (λ (y : Process). y.state) (process_move_same t q x m place e h)

-- the others are in their old ones
pub state_move_other : (t : Tables) (p q : ℕ) (x : Process) (m : Option ℕ) (place : Place) → p ≢ q
    → state_at (move_to q x m place t) p ≡ state_at t p
state_move_other t p q x m place n = ap (λ (y : Process). y.state) (process_move_other t p q x m place n)

-- a process that moved holds its new message
pub message_move_same : (t : Tables) (q : ℕ) (x : Process) (m : Option ℕ) (place : Place) → length t.messages ≡ 64 → q < 64
    → message_at (move_to q x m place t) q ≡ m
message_move_same t q x m place e h = get_or-set_same t.messages q m None (omega arith)

-- the others hold their old ones
pub message_move_other : (t : Tables) (p q : ℕ) (x : Process) (m : Option ℕ) (place : Place) → p ≢ q
    → message_at (move_to q x m place t) p ≡ message_at t p
message_move_other t p q x m place n = get_or-set_other t.messages q p m None n

-- a semaphore after q went to its place: it has q as its last waiter if that is q's place, and else it is as it was
semaphore_in_cases : (place : Place) (q r : ℕ) (l : List Semaphore) (P : Semaphore → Type 0) → IsInTable place l
    → P (get_or l r no_semaphore)
    → ((sem : ℕ) → place ≡ InSemaphore sem → r ≡ sem → P (with_waiter q (get_or l r no_semaphore)))
    → P (get_or (semaphores_in place q l) r no_semaphore)
semaphore_in_cases (InSemaphore sem) q r l P i old new =
    ⊎_elim
    (λ (e : r ≡ sem). subst (λ k. P (get_or (set l sem (with_waiter q (get_or l sem no_semaphore))) k no_semaphore)) (sym e)
    (subst P (sym (get_or-set_same l sem (with_waiter q (get_or l sem no_semaphore)) no_semaphore i))
    (subst (λ k. P (with_waiter q (get_or l k no_semaphore))) e (new sem refl e))))
    (λ (n : r ≢ sem). subst P (sym (get_or-set_other l sem r (with_waiter q (get_or l sem no_semaphore)) no_semaphore n)) old)
    (cases_eq r sem)
semaphore_in_cases Nowhere q r l P i old new = old
semaphore_in_cases InReady q r l P i old new = old
semaphore_in_cases (InSleepers wake) q r l P i old new = old

-- A semaphore after q moved: q doesn't wait on it any longer, or it waits there after the others.
pub semaphore_move_cases : (t : Tables) (q r : ℕ) (x : Process) (m : Option ℕ) (place : Place) (P : Semaphore → Type 0)
    → IsInTable place (waits_without q t.semaphores) → P (semaphore_without q (semaphore_at t r))
    → ((sem : ℕ) → place ≡ InSemaphore sem → r ≡ sem → P (with_waiter q (semaphore_without q (semaphore_at t r))))
    → P (semaphore_at (move_to q x m place t) r)
semaphore_move_cases t q r x m place P i old new =
    let e = semaphore_at_without q r t.semaphores in
    semaphore_in_cases place q r (waits_without q t.semaphores) P i (subst P (sym e) old)
    (λ sem f g. subst (λ y. P (with_waiter q y)) (sym e) (new sem f g))

-- a place that fits is in the table
in_table : (t : Tables) (x : Process) (place : Place) (q : ℕ) → length t.semaphores ≡ 128 → FitsPlace t x place
    → IsInTable place (waits_without q t.semaphores)
in_table t x (InSemaphore s) q e f = let g = length-waits_without q t.semaphores in let h = f.0 in omega arith
in_table t x Nowhere q e f = tt
in_table t x InReady q e f = tt
in_table t x (InSleepers wake) q e f = tt

-- and later
later_place : (t : Tables) (x : Process) (place : Place) → FitsPlace t x place → IsLater t.ticks place
later_place t x (InSleepers wake) f = f
later_place t x (InSemaphore s) f = tt
later_place t x Nowhere f = tt
later_place t x InReady f = tt

-- a semaphore that fits has no tokens, and its owner calls for what is left
fits_semaphore : (t : Tables) (x : Process) (place : Place) (sem r : ℕ) → place ≡ InSemaphore sem → r ≡ sem → FitsPlace t x place
    → ((semaphore_at t r).tokens ≡ 0) × FitsOwner r (semaphore_at t r).owner x.rest
fits_semaphore t x place sem r e g f =
    let h : FitsPlace t x (InSemaphore sem) = subst (FitsPlace t x) e f in
    subst (λ k. ((semaphore_at t k).tokens ≡ 0) × FitsOwner k (semaphore_at t k).owner x.rest) (sym g) (h.1, h.2)

-- each process is in the ready list as often as its state says, after one of them moved
ready_move : (t : Tables) (q : ℕ) (x : Process) (m : Option ℕ) (place : Place) → IsInside t → CanMove t q x m place
    → (p : ℕ) → entries_of p (move_to q x m place t).ready ≡ ready_places (state_at (move_to q x m place t) p)
ready_move t q x m place o c p =
    let l = entries_without q t.ready in
    by_number p q (λ r. entries_of r (ready_in place q x.priority l) ≡ ready_places (state_at (move_to q x m place t) r))
    (ready_in_same place q x.priority l (entries_without_same q t.ready) ∙ sym c.place_of.0
    ∙ sym (ap ready_places (state_move_same t q x m place o.processes c.within)))
    (λ n. ready_in_other place p q x.priority l n ∙ entries_without_other p q t.ready n ∙ o.ready p
    ∙ sym (ap ready_places (state_move_other t p q x m place n)))

-- each key is its process's priority, after one of them moved
keys_move : (t : Tables) (q : ℕ) (x : Process) (m : Option ℕ) (place : Place) → IsInside t → CanMove t q x m place
    → HaveKeys (move_to q x m place t).processes (move_to q x m place t).ready
keys_move t q x m place o c =
    let key_at : Tables → ℕ × ℤ → Type 0 = λ u e. e.1 ≡ (process_at u e.0).priority in
    let u = move_to q x m place t in
    let l = entries_without q t.ready in
    let others = all_both (λ e. not (e.0 == q) ≡ true) (key_at t) l (all_passes (λ e. not (e.0 == q)) t.ready)
    (all_filter (key_at t) (λ e. not (e.0 == q)) t.ready o.keys) in
    all_ready_in (key_at u) place q x.priority l
    (sym (ap (λ (y : Process). y.priority) (process_move_same t q x m place o.processes c.within)))
    (all_weaker (λ e. (not (e.0 == q) ≡ true) × key_at t e) (key_at u)
    (λ e h. h.1 ∙ sym (ap (λ (y : Process). y.priority) (process_move_other t e.0 q x m place (eqb-false e.0 q (not-true (e.0 == q) h.0))))) l others)

-- the same of the waiters
waiting_move : (t : Tables) (q : ℕ) (x : Process) (m : Option ℕ) (place : Place) → IsInside t → CanMove t q x m place
    → (p : ℕ) → waits_of p (move_to q x m place t).semaphores ≡ waiting_places (state_at (move_to q x m place t) p)
waiting_move t q x m place o c p =
    let l = waits_without q t.semaphores in
    let i = in_table t x place q o.semaphores c.fits in
    by_number p q (λ r. waits_of r (semaphores_in place q l) ≡ waiting_places (state_at (move_to q x m place t) r))
    (semaphores_in_same place q l i (waits_without_same q t.semaphores) ∙ sym c.place_of.1
    ∙ sym (ap waiting_places (state_move_same t q x m place o.processes c.within)))
    (λ n. semaphores_in_other place p q l i n ∙ waits_without_other p q t.semaphores n ∙ o.waiting p
    ∙ sym (ap waiting_places (state_move_other t p q x m place n)))

-- the same of the sleepers
sleeping_move : (t : Tables) (q : ℕ) (x : Process) (m : Option ℕ) (place : Place) → IsInside t → CanMove t q x m place
    → (p : ℕ) → entries_of p (move_to q x m place t).sleepers ≡ sleeping_places (state_at (move_to q x m place t) p)
sleeping_move t q x m place o c p =
    let l = entries_without q t.sleepers in
    by_number p q (λ r. entries_of r (sleepers_in place q l) ≡ sleeping_places (state_at (move_to q x m place t) r))
    (sleepers_in_same place q l (entries_without_same q t.sleepers) ∙ sym c.place_of.2
    ∙ sym (ap sleeping_places (state_move_same t q x m place o.processes c.within)))
    (λ n. sleepers_in_other place p q l n ∙ entries_without_other p q t.sleepers n ∙ o.sleeping p
    ∙ sym (ap sleeping_places (state_move_other t p q x m place n)))

-- the null process can run and has nothing left to do, after one of them moved
null_move : (t : Tables) (q : ℕ) (x : Process) (m : Option ℕ) (place : Place) → IsInside t → CanMove t q x m place
    → CanRun (state_at (move_to q x m place t) 0) × ((process_at (move_to q x m place t) 0).rest ≡ Nothing)
null_move t q x m place o c =
    let R : Process → Type 0 = λ y. CanRun y.state × (y.rest ≡ Nothing) in
    by_number 0 q (λ r. r ≡ 0 → R (process_at (move_to q x m place t) r))
    (λ e. subst R (sym (process_move_same t q x m place o.processes c.within)) (c.if_null e))
    (λ n _. subst R (sym (process_move_other t 0 q x m place n)) (o.null, o.null_rest)) refl

-- who waits on a semaphore fits its owner, if it isn't the one that left
rests_left : (t : Tables) (q : ℕ) (x : Process) (m : Option ℕ) (place : Place) (r p : ℕ) → IsInside t
    → 0 < count_in p (numbers_without q (semaphore_at t r).waiters)
    → FitsOwner r (semaphore_at t r).owner (process_at (move_to q x m place t) p).rest
rests_left t q x m place r p o = by_number p q
    (λ k. 0 < count_in k (numbers_without q (semaphore_at t r).waiters) → FitsOwner r (semaphore_at t r).owner
    (process_at (move_to q x m place t) k).rest)
    (λ h. let z = numbers_without_same q (semaphore_at t r).waiters in absurd (omega arith))
    (λ n h. subst (λ (y : Process). FitsOwner r (semaphore_at t r).owner y.rest) (sym (process_move_other t p q x m place n))
    (o.rests r p (subst (λ k. 0 < k) (numbers_without_other p q (semaphore_at t r).waiters n) h)))

-- and if it came
rests_come : (t : Tables) (q : ℕ) (x : Process) (m : Option ℕ) (place : Place) (r p : ℕ) → IsInside t → q < 64
    → FitsOwner r (semaphore_at t r).owner x.rest → 0 < count_in p (numbers_without q (semaphore_at t r).waiters ++ q ∷ [])
    → FitsOwner r (semaphore_at t r).owner (process_at (move_to q x m place t) p).rest
rests_come t q x m place r p o w f = by_number p q
    (λ k. 0 < count_in k (numbers_without q (semaphore_at t r).waiters ++ q ∷ []) → FitsOwner r (semaphore_at t r).owner
    (process_at (move_to q x m place t) k).rest)
    (λ _. subst (λ (y : Process). FitsOwner r (semaphore_at t r).owner y.rest) (sym (process_move_same t q x m place o.processes w)) f)
    (λ n h. rests_left t q x m place r p o (subst (λ k. 0 < k) (count_last_other p q (numbers_without q (semaphore_at t r).waiters) n) h))

-- a semaphore that a process leaves hasn't both tokens and waiters
one_kind_left : (q : ℕ) (x : Semaphore) → HasOneKind x → HasOneKind (semaphore_without q x)
one_kind_left q x h = ⊎_elim (λ (e : x.tokens ≡ 0). inl e) (λ (e : x.waiters ≡ []). inr (ap (numbers_without q) e)) h

-- each slot fits, after a process moved
slots_move : (t : Tables) (q : ℕ) (x : Process) (m : Option ℕ) (place : Place) → IsInside t → CanMove t q x m place → (p : ℕ)
    → FitsMessage (state_at (move_to q x m place t) p) (process_at (move_to q x m place t) p).rest (message_at (move_to q x m place t) p)
slots_move t q x m place o c p =
    let u = move_to q x m place t in
    by_number p q (λ r. FitsMessage (process_at u r).state (process_at u r).rest (message_at u r))
    (subst (λ (y : Process). FitsMessage y.state y.rest (message_at u q)) (sym (process_move_same t q x m place o.processes c.within))
    (subst (FitsMessage x.state x.rest) (sym (message_move_same t q x m place o.messages c.within)) c.slot))
    (λ n. subst (λ (y : Process). FitsMessage y.state y.rest (message_at u p)) (sym (process_move_other t p q x m place n))
    (subst (FitsMessage (state_at t p) (process_at t p).rest) (sym (message_move_other t p q x m place n)) (o.slots p)))

-- a free entry holds what it held at the start, after a process moved
free_move : (t : Tables) (q : ℕ) (x : Process) (m : Option ℕ) (place : Place) → IsInside t → CanMove t q x m place
    → (p : ℕ) → IsFixed (process_at (move_to q x m place t) p) (message_at (move_to q x m place t) p)
free_move t q x m place o c p =
    let u = move_to q x m place t in
    by_number p q (λ r. IsFixed (process_at u r) (message_at u r))
    (subst (λ (y : Process). IsFixed y (message_at u q)) (sym (process_move_same t q x m place o.processes c.within))
    (subst (IsFixed x) (sym (message_move_same t q x m place o.messages c.within)) c.if_free))
    (λ n. subst (λ (y : Process). IsFixed y (message_at u p)) (sym (process_move_other t p q x m place n))
    (subst (IsFixed (process_at t p)) (sym (message_move_other t p q x m place n)) (o.free p)))

-- nobody leaves a semaphore that isn't in use
unused_left : (q : ℕ) (x : Semaphore) → IsUnused x → IsUnused (semaphore_without q x)
unused_left q x h e = ap (semaphore_without q) (h e)

-- A process that may move keeps what holds of the tables.
pub inside_move : (t : Tables) (q : ℕ) (x : Process) (m : Option ℕ) (place : Place) → IsInside t → CanMove t q x m place
    → IsInside (move_to q x m place t)
inside_move t q x m place o c =
    let i = in_table t x place q o.semaphores c.fits in
    record {
      processes = length-set t.processes q x ∙ o.processes;
      messages = length-set t.messages q m ∙ o.messages;
      semaphores = length-semaphores_in place q (waits_without q t.semaphores) ∙ length-waits_without q t.semaphores ∙ o.semaphores;
      ready = ready_move t q x m place o c;
      waiting = waiting_move t q x m place o c;
      sleeping = sleeping_move t q x m place o c;
      one_current = λ p. by_number p q (λ r. state_at (move_to q x m place t) r ≡ Current → r ≡ t.current)
          (λ e. c.if_current (sym (state_move_same t q x m place o.processes c.within) ∙ e))
          (λ n e. o.one_current p (sym (state_move_other t p q x m place n) ∙ e));
      null = (null_move t q x m place o c).0;
      null_rest = (null_move t q x m place o c).1;
      falling = falling_in place q x.priority (entries_without q t.ready) (falling_without q t.ready o.falling);
      keys = keys_move t q x m place o c;
      rising = rising_in place q (entries_without q t.sleepers) (rising_without q t.sleepers o.rising);
      later = later_in t.ticks place q (entries_without q t.sleepers) (later_place t x place c.fits) (all_filter (λ e. t.ticks < e.1) (λ e. not (e.0 == q)) t.sleepers o.later);
      one_kind = λ r. semaphore_move_cases t q r x m place HasOneKind i (one_kind_left q (semaphore_at t r) (o.one_kind r))
          (λ s e g. inl (fits_semaphore t x place s r e g c.fits).0);
      rests = λ r p. semaphore_move_cases t q r x m place (λ y. 0 < count_in p y.waiters → FitsOwner r y.owner (process_at (move_to q x m place t) p).rest) i
          (rests_left t q x m place r p o)
          (λ s e g. rests_come t q x m place r p o c.within (fits_semaphore t x place s r e g c.fits).1);
      slots = slots_move t q x m place o c;
      devices = λ r. semaphore_move_cases t q r x m place (λ y. r < 4 → y.owner ≡ Some Device) i (o.devices r) (λ s e g. o.devices r);
      no_devices = λ r. semaphore_move_cases t q r x m place (λ y. y.owner ≡ Some Device → r < 4) i (o.no_devices r) (λ s e g. o.no_devices r);
      free = free_move t q x m place o c;
      unused = λ r. semaphore_move_cases t q r x m place IsUnused i (unused_left q (semaphore_at t r) (o.unused r))
          (λ s e g none. absurd (subst (λ k. FitsOwner r k x.rest) none (fits_semaphore t x place s r e g c.fits).1));
    }

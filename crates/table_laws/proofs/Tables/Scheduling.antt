-- Waking and rescheduling keep what holds of the tables; a resched makes the current process run.
use Rattle.std.proofs.Common.{◌≡◌, ◌≢◌, ◌⊎◌, ℕ, ◌<◌, true, false, List, [], ◌∷◌, refl, sym, ap, subst, ◌∙◌, arith, ℤ, inl, inr, ⊎_elim, Option}
use Rattle.std.specs.Prelude.{int_lt}
use Rattle.std.specs.List.{AllByRecursion}
use Rattle.std.proofs.lemmas.Bool.{cond_both, true≢false, and_parts}
use Rattle.xinu_base.specs.declared.processes.Process.{Process}
use Rattle.xinu_base.specs.declared.processes.Rest.{Rest}
use Rattle.xinu_base.specs.declared.processes.Rest.TheVariants.{Nothing}
use Rattle.xinu_base.specs.declared.processes.State.{State}
use Rattle.xinu_base.specs.declared.processes.State.TheVariants.{Free, Current, Ready, Receiving, Sleeping, Suspended, Waiting, Timed}
use Rattle.table_laws.specs.Moves.{CanBeReady, CanMove}
use Rattle.xinu_model.specs.Process.Scheduling.{is_current, in_state, ready, dispatch, dispatch_first, preempt, keeps_cpu, resched}
use Rattle.xinu_model.specs.Sound.Tables.{entries_of, ready_places, sleeping_places, HoldsFor, FitsMessage, IsInside, IsSoundTables}
use Rattle.xinu_model.specs.Tables.{Tables, process_at, state_at, message_at, Place, Nowhere, InReady, move_to}
use Rattle.table_laws.proofs.Lists.Counts.{first_has_entry}
use Rattle.table_laws.proofs.Tables.MoveTo.{by_number, within_table, state_move_same, state_move_other, inside_move}
use Rattle.xinu_model.proofs.States.{ready_of}

-- who is among the sleepers sleeps, or waits for a message for some time
pub sleeping_of : (s : State) → 0 < sleeping_places s → (s ≡ Sleeping) ⊎ (s ≡ Timed)
sleeping_of Sleeping h = inl refl
sleeping_of Timed h = inr refl
sleeping_of Free h = absurd (omega arith)
sleeping_of Current h = absurd (omega arith)
sleeping_of Receiving h = absurd (omega arith)
sleeping_of Waiting h = absurd (omega arith)
sleeping_of Suspended h = absurd (omega arith)
sleeping_of Ready h = absurd (omega arith)

-- who passes the test of running is in state current
pub current_of : (s : State) → is_current s ≡ true → s ≡ Current
current_of Current h = refl
current_of Ready h = cc
current_of Free h = cc
current_of Receiving h = cc
current_of Sleeping h = cc
current_of Suspended h = cc
current_of Waiting h = cc
current_of Timed h = cc

-- who doesn't wait for a message without end holds one if its call is to answer it
pub holds_of : (s : State) (r : Rest) (m : Option ℕ) → FitsMessage s r m → s ≢ Receiving → HoldsFor r m
holds_of Receiving r m h n = absurd (n refl)
holds_of Timed r m h n = subst (λ k. HoldsFor k m) (sym h.0) tt
holds_of Sleeping r m h n = subst (λ k. HoldsFor k m) (sym h) tt
holds_of Free r m h n = h
holds_of Current r m h n = h
holds_of Ready r m h n = h
holds_of Suspended r m h n = h
holds_of Waiting r m h n = h

-- the same of a process of the tables
pub holds_at : (t : Tables) (p : ℕ) → IsInside t → state_at t p ≢ Receiving → HoldsFor (process_at t p).rest (message_at t p)
holds_at t p o n = holds_of (state_at t p) (process_at t p).rest (message_at t p) (o.slots p) n

-- the null process has nothing left to do
pub null_rest_at : (t : Tables) (q : ℕ) → IsInside t → q ≡ 0 → (process_at t q).rest ≡ Nothing
null_rest_at t q o e = subst (λ k. (process_at t k).rest ≡ Nothing) (sym e) o.null_rest

-- a process that isn't free may become ready, with a message that its call may find
pub can_move_ready : (t : Tables) (q : ℕ) (m : Option ℕ) → IsInside t → state_at t q ≢ Free → HoldsFor (process_at t q).rest m
    → CanMove t q (in_state Ready (process_at t q)) m InReady
can_move_ready t q m o alive holds = record {
  within = within_table t q o.processes alive;
  place_of = (refl, refl, refl);
  if_current = λ e. cc;
  if_null = λ e. (inr refl, null_rest_at t q o e);
  fits = tt;
  slot = holds;
  if_free = λ e. absurd (cc);
}

-- A process that can become ready becomes ready.
pub inside_ready : (t : Tables) (q : ℕ) → IsInside t → CanBeReady t q → IsInside (ready q t)
inside_ready t q o c =
    inside_move t q (in_state Ready (process_at t q)) (message_at t q) InReady o (can_move_ready t q (message_at t q) o c.alive c.holds)

-- no process but the one that moves changes its state
pub runs_move : (t : Tables) (p c : ℕ) (x : Process) (m : Option ℕ) (place : Place) → p ≢ c → state_at t c ≡ Current
    → state_at (move_to p x m place t) c ≡ Current
runs_move t p c x m place n e = state_move_other t c p x m place (λ f. n (sym f)) ∙ e

-- A process that isn't the current one moves, and the current one goes on.
pub sound_move : (t : Tables) (q : ℕ) (x : Process) (m : Option ℕ) (place : Place) → IsSoundTables t → q ≢ t.current → CanMove t q x m place
    → IsSoundTables (move_to q x m place t)
sound_move t q x m place k n c = record { inside = inside_move t q x m place k.inside c; runs = runs_move t q t.current x m place n k.runs }

-- a process that doesn't run isn't one that runs
pub idle_differs : (t : Tables) (p c : ℕ) → state_at t p ≢ Current → state_at t c ≡ Current → p ≢ c
idle_differs t p c n e f = n (subst (λ k. state_at t k ≡ Current) (sym f) e)

-- A process that can become ready becomes ready, and the current one goes on.
pub sound_ready : (t : Tables) (q : ℕ) → IsSoundTables t → CanBeReady t q → IsSoundTables (ready q t)
sound_ready t q k c =
    sound_move t q (in_state Ready (process_at t q)) (message_at t q) InReady k (idle_differs t q t.current c.idle k.runs)
    (can_move_ready t q (message_at t q) k.inside c.alive c.holds)

-- Another number may be the current one, with another quantum, tick and last numbers, if no other process runs and the sleepers wake later.
pub inside_numbers : (t : Tables) (current quantum ticks last_process last_semaphore : ℕ) → IsInside t
    → ((p : ℕ) → state_at t p ≡ Current → p ≡ current) → AllByRecursion (λ e. ticks < e.1) t.sleepers
    → IsInside (record t { current = current; quantum = quantum; ticks = ticks; last_process = last_process; last_semaphore = last_semaphore })
inside_numbers t current quantum ticks last_process last_semaphore o one later = record {
  processes = o.processes;
  messages = o.messages;
  semaphores = o.semaphores;
  ready = o.ready;
  waiting = o.waiting;
  sleeping = o.sleeping;
  one_current = one;
  null = o.null;
  null_rest = o.null_rest;
  falling = o.falling;
  keys = o.keys;
  rising = o.rising;
  later = later;
  one_kind = o.one_kind;
  rests = o.rests;
  slots = o.slots;
  devices = o.devices;
  no_devices = o.no_devices;
  free = o.free;
  unused = o.unused;
}

-- the quantum may be any
pub inside_quantum : (t : Tables) (quantum : ℕ) → IsInside t → IsInside (record t { quantum = quantum })
inside_quantum t quantum o = inside_numbers t t.current quantum t.ticks t.last_process t.last_semaphore o o.one_current o.later

-- and so may the last numbers given
pub inside_last_process : (t : Tables) (n : ℕ) → IsInside t → IsInside (record t { last_process = n })
inside_last_process t n o = inside_numbers t t.current t.quantum t.ticks n t.last_semaphore o o.one_current o.later

-- that of semaphores too
pub inside_last_semaphore : (t : Tables) (n : ℕ) → IsInside t → IsInside (record t { last_semaphore = n })
inside_last_semaphore t n o = inside_numbers t t.current t.quantum t.ticks t.last_process n o o.one_current o.later

-- and the ticks, if all sleepers wake later
pub inside_ticks : (t : Tables) (n : ℕ) → IsInside t → AllByRecursion (λ e. n < e.1) t.sleepers → IsInside (record t { ticks = n })
inside_ticks t n o later = inside_numbers t t.current t.quantum n t.last_process t.last_semaphore o o.one_current later

-- No process is in state current.
abbrev pub NoneRuns : Tables → Type 0
NoneRuns t = (p : ℕ) → state_at t p ≢ Current

-- if no process is in state current, any number may be the current one, with any quantum
pub inside_current : (t : Tables) (c k : ℕ) → IsInside t → NoneRuns t → IsInside (record t { current = c; quantum = k })
inside_current t c k o none = inside_numbers t c k t.ticks t.last_process t.last_semaphore o (λ p e. absurd (none p e)) o.later

-- if the current process runs and becomes ready, none runs
none_runs_ready : (t : Tables) → IsInside t → state_at t t.current ≢ Free → NoneRuns (ready t.current t)
none_runs_ready t o alive p =
    let c = t.current in
    let x = in_state Ready (process_at t c) in
    by_number p c (λ r. state_at (ready c t) r ≢ Current)
    (λ f. let g : Ready ≡ Current = sym (state_move_same t c x (message_at t c) InReady o.processes (within_table t c o.processes alive))
    ∙ f in cc)
    (λ n f. n (o.one_current p (sym (state_move_other t p c x (message_at t c) InReady n) ∙ f)))

-- if it doesn't, none does either
none_runs_idle : (t : Tables) → IsInside t → is_current (state_at t t.current) ≡ false → NoneRuns t
none_runs_idle t o b p f = true≢false (sym (ap is_current (subst (λ k. state_at t k ≡ Current) (o.one_current p f) f)) ∙ b)

-- Once the current process has made room, none runs.
pub room_made : (t : Tables) → IsInside t → IsInside (preempt t) × NoneRuns (preempt t)
room_made t o =
    let c = t.current in
    cond_both (is_current (state_at t c)) (ready c t) t (λ u. IsInside u × NoneRuns u)
    (λ b. let e = current_of (state_at t c) b in
    let alive : state_at t c ≢ Free = λ f. cc in
    let holds = holds_at t c o (λ f. cc) in (
      inside_move t c (in_state Ready (process_at t c)) (message_at t c) InReady o
          (can_move_ready t c (message_at t c) o alive holds),
      none_runs_ready t o alive,
    ))
    (λ b. (o, none_runs_idle t o b))

-- with an empty ready list the null process is in state current
empty_runs : (t : Tables) → IsInside t → [] ≡ t.ready → state_at t t.current ≡ Current
empty_runs t o e = ⊎_elim
    (λ (f : state_at t 0 ≡ Current). subst (λ k. state_at t k ≡ Current) (o.one_current 0 f) f)
    (λ (f : state_at t 0 ≡ Ready). let g = o.ready 0
    ∙ ap ready_places f in let none : 0 ≡ entries_of 0 t.ready = ap (entries_of 0) e in absurd (omega arith))
    o.null

-- Who stays is in state current.
pub keeper_runs : (l : List (ℕ × ℤ)) (t : Tables) → IsInside t → l ≡ t.ready → keeps_cpu l t ≡ true → state_at t t.current ≡ Current
keeper_runs [] t o e h = empty_runs t o e
keeper_runs (x ∷ xs) t o e h =
    current_of (state_at t t.current) (and_parts (is_current (state_at t t.current)) (int_lt x.1 (process_at t t.current).priority) h).0

-- If none runs, a ready process is run.
pub sound_dispatch : (t : Tables) (q : ℕ) → IsInside t → NoneRuns t → state_at t q ≡ Ready → IsSoundTables (dispatch q t)
sound_dispatch t q o none e =
    let alive : state_at t q ≢ Free = λ f. cc in
    let w = within_table t q o.processes alive in
    let x = in_state Current (process_at t q) in
    let u = record t { current = q; quantum = 2 } in
    let c : CanMove u q x (message_at t q) Nowhere = record {
      within = w;
      place_of = (refl, refl, refl);
      if_current = λ _. refl;
      if_null = λ f. (inl refl, null_rest_at t q o f);
      fits = tt;
      slot = holds_at t q o (λ f. cc);
      if_free = λ f. absurd (cc);
    } in
    record { inside = inside_move u q x (message_at t q) Nowhere (inside_current t q 2 o none) c; runs = state_move_same u q x (message_at t q) Nowhere o.processes w }

-- If none runs, the first of the ready list is run.
pub sound_dispatch_first : (l : List (ℕ × ℤ)) (t : Tables) → IsInside t → NoneRuns t → l ≡ t.ready → IsSoundTables (dispatch_first l t)
sound_dispatch_first [] t o none e = absurd (none t.current (empty_runs t o e))
sound_dispatch_first (x ∷ xs) t o none e =
    let here : 0 < entries_of x.0 t.ready = subst (λ l. 0 < entries_of x.0 l) e (first_has_entry x xs) in
    let places = o.ready x.0 in
    sound_dispatch t x.0 o none (ready_of (state_at t x.0) (omega arith))

-- After a resched the current process is in state current.
pub sound_resched : (t : Tables) → IsInside t → IsSoundTables (resched t)
sound_resched t o =
    let room = room_made t o in
    cond_both (keeps_cpu t.ready t) t (dispatch_first (preempt t).ready (preempt t)) IsSoundTables
    (λ h. record { inside = o; runs = keeper_runs t.ready t o refl h })
    (λ _. sound_dispatch_first (preempt t).ready (preempt t) room.0 room.1 refl)

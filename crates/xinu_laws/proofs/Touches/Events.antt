-- The end of an event and a tick touch the tables alone.
use Rattle.std.proofs.Common.{◌≡◌, ℕ, ◌+◌, ◌-◌, ◌<◌, ◌≤◌, ◌==◌, Bool, true, false, ◌||◌, List, [], ◌∷◌, filter, refl, sym, ap, subst, ◌∙◌, ⊎_elim, arith, ℤ}
use Rattle.std.specs.Prelude.{nat_lt}
use Rattle.std.proofs.lemmas.Bool.{cond_both}
use Rattle.xinu_base.specs.declared.lines.TranscriptLine.{TranscriptLine}
use Rattle.xinu_base.specs.declared.processes.Rest.{Rest}
use Rattle.xinu_base.specs.declared.processes.State.{State}
use Rattle.xinu_base.specs.declared.processes.State.TheVariants.{Current, Ready, Sleeping, Timed}
use Rattle.xinu_model.specs.Clock.{due, quantum_falls, wakeup, a_tick_later, ticked}
use Rattle.xinu_model.specs.Machine.{Xinu, CallResult, start, is_off, closed, replies_of, with_replies, end_of_event}
use Rattle.xinu_model.specs.Process.Scheduling.{is_current, ready, dispatch, dispatch_first, preempt, keeps_cpu, resched}
use Rattle.xinu_model.specs.Sound.Tables.{count_in, entries_of, sleeping_places, IsInside, IsSoundTables}
use Rattle.xinu_model.specs.Sound.Pools.{is_waiting}
use Rattle.xinu_model.specs.Tables.{Tables, process_at, state_at, message_at, is_free, entries_without, Nowhere, InReady}
use Rattle.xinu_base.specs.Constants.{OK}
use Rattle.xinu_model.specs.Footprints.{on_tables}
use Rattle.part_laws.specs.Preserve.{ticking}
use Rattle.table_laws.specs.Preserve.{AreAlive}
use Rattle.table_laws.proofs.Lists.Orders.{all_weaker}
use Rattle.table_laws.proofs.Tables.Alive.{alive_kept, alive_unblock_all, replies_spare_free}
use Rattle.xinu_laws.specs.Touches.{Reach, reach, at_a_tick, Touches}
use Rattle.table_laws.proofs.Lists.Counts.{entries_without_other, first_has_entry}
use Rattle.table_laws.proofs.Frame.{frame_same}
use Rattle.table_laws.proofs.Tables.Scheduling.{current_of, sleeping_of, inside_quantum, sound_resched}
use Rattle.table_laws.proofs.Tables.Places.{ready_in_other}
use Rattle.table_laws.proofs.Tables.MoveTo.{by_number}
use Rattle.xinu_laws.proofs.Touches.{named, touches_tables, touches_refl, touches_trans}
use Rattle.xinu_laws.proofs.Touches.Moves.{MayReady, may_ready_idle, may_ready_framed, touches_moved, touches_unblock_all}
use Rattle.table_laws.proofs.Lists.Maps.{times-map}
use Rattle.table_laws.proofs.Frame.MoveTo.{times-filter-le}
use Rattle.table_laws.proofs.Tables.Unblock.{unblock_all_ready, all_counted}
use Rattle.table_laws.proofs.Tables.Ticks.{sound_later}
use Rattle.xinu_model.proofs.States.{ready_of}

-- who is in the ready list can become ready
may_ready_ready : (asks : Rest → Bool) (t : Tables) → IsInside t → (p : ℕ) → 0 < entries_of p t.ready → MayReady asks t p
may_ready_ready asks t o p h = may_ready_idle asks t p (ap is_waiting (ready_of (state_at t p) (let e = o.ready p in omega arith)))

-- and so can who is in it once the current process is preempted
may_ready_preempted : (asks : Rest → Bool) (t : Tables) → ((p : ℕ) → 0 < entries_of p t.ready → MayReady asks t p) → (p : ℕ)
    → 0 < entries_of p (preempt t).ready → MayReady asks t p
may_ready_preempted asks t may p =
    let c = t.current in
    cond_both (is_current (state_at t c)) (ready c t) t (λ u. 0 < entries_of p u.ready → MayReady asks t p)
    (λ b. by_number p c (λ r. 0 < entries_of r (ready c t).ready → MayReady asks t r)
    (λ _. may_ready_idle asks t c (ap is_waiting (current_of (state_at t c) b)))
    (λ n h. may p (subst (λ k. 0 < k)
    (ready_in_other InReady p c (process_at t c).priority (entries_without c t.ready) n ∙ entries_without_other p c t.ready n) h)))
    (λ _. may p)

-- who sleeps waits on no semaphore
sleeping_idle : (s : State) → 0 < sleeping_places s → is_waiting s ≡ false
sleeping_idle s h = ⊎_elim (λ (e : s ≡ Sleeping). ap is_waiting e) (λ (e : s ≡ Timed). ap is_waiting e) (sleeping_of s h)

-- who is due sleeps
due_sleeps : (tick p : ℕ) (sleepers : List (ℕ × ℕ)) → count_in p (due tick sleepers) ≤ entries_of p sleepers
due_sleeps tick p sleepers =
    let e = times-map (λ (e : ℕ × ℕ). e.0) (λ (x : ℕ). x == p) (filter (λ (e : ℕ × ℕ). e.1 == tick) sleepers) in
    let f = times-filter-le (λ (e : ℕ × ℕ). e.0 == p) (λ (e : ℕ × ℕ). e.1 == tick) sleepers in
    omega arith

module _ {f : Reach} where
  -- A process becomes the current one.
  touches_dispatch : (s : Xinu) (p : ℕ) → MayReady f.asks s.tables p → Touches f s (record s { tables = dispatch p s.tables })
  touches_dispatch s p w =
      let t = s.tables in
      let u = record t { current = p; quantum = 2 } in
      touches_trans (touches_tables s u (frame_same t u refl refl) refl (λ q h. h) (λ _. refl) (record { stay = λ q h. h }))
      (touches_moved (record s { tables = u }) p Current (message_at u p) Nowhere tt refl refl (record { idle = w.idle }))

  -- The current process is preempted.
  touches_preempt : (s : Xinu) → Touches f s (record s { tables = preempt s.tables })
  touches_preempt s =
      let t = s.tables in
      let c = t.current in
      cond_both (is_current (state_at t c)) (ready c t) t (λ u. Touches f s (record s { tables = u }))
      (λ b. touches_moved s c Ready (message_at t c) InReady tt refl refl
      (may_ready_idle f.asks t c (ap is_waiting (current_of (state_at t c) b)))) (λ _. touches_refl s)

  -- The first of a list runs.
  touches_dispatch_first : (l : List (ℕ × ℤ)) (s u : Xinu) → Touches f s u → ((p : ℕ) → 0 < entries_of p l → MayReady f.asks s.tables p)
      → Touches f s (record u { tables = dispatch_first l u.tables })
  touches_dispatch_first [] s u c w = c
  touches_dispatch_first (e ∷ es) s u c w =
      touches_trans c (touches_dispatch u e.0 (may_ready_framed s u e.0 c (w e.0 (first_has_entry e es))))

  -- A resched, if who is in the ready list can become ready.
  pub touches_resched_if : (s : Xinu) → ((p : ℕ) → 0 < entries_of p s.tables.ready → MayReady f.asks s.tables p)
      → Touches f s (record s { tables = resched s.tables })
  touches_resched_if s may =
      let t = s.tables in
      let room = preempt t in
      cond_both (keeps_cpu t.ready t) t (dispatch_first room.ready room) (λ u. Touches f s (record s { tables = u }))
      (λ _. touches_refl s)
      (λ _. touches_dispatch_first room.ready s (record s { tables = room }) (touches_preempt s) (may_ready_preempted f.asks t may))

  -- A resched inside an event.
  pub touches_resched : (s : Xinu) → IsInside s.tables → Touches f s (record s { tables = resched s.tables })
  touches_resched s o = touches_resched_if s (may_ready_ready f.asks s.tables o)

  -- The one resched of an event, if there is one.
  pub touches_closed : (result : CallResult) → IsInside result.call.state.tables
      → Touches f result.call.state (record result.call.state { tables = closed result })
  touches_closed result o =
      let s = result.call.state in
      cond_both (result.call.owes_resched || is_off result.answer) (resched s.tables) s.tables (λ u. Touches f s (record s { tables = u }))
      (λ _. touches_resched s o) (λ _. touches_refl s)

  -- Replies to processes that are alive touch only their registers.
  touches_replied : (s u : Xinu) (replies : List (ℕ × ℤ)) → Touches f s u → AreAlive u.tables replies
      → Touches f s (record u { harts = with_replies replies u.harts })
  touches_replied s u replies k alive = record {
    frame = k.frame;
    stacks = k.stacks;
    parts = k.parts;
    free = λ e. record { was = (k.free e).was; harts = λ p h. replies_spare_free u.tables p h replies u.harts alive ∙ (k.free e).harts p h };
    clock = k.clock;
    stay = k.stay;
    ram = k.ram;
  }

  -- those whose tick has come go on
  touches_wakeup : (s : Xinu) → IsInside s.tables → Touches f s (wakeup s).state
  touches_wakeup s o =
      let t = s.tables in
      let n = t.ticks + 1 in
      touches_unblock_all (due n t.sleepers) (start s)
      (λ p h. may_ready_idle f.asks t p
      (sleeping_idle (state_at t p) (let e = o.sleeping p in let g = due_sleeps n p t.sleepers in omega arith)))

  -- the quantum falls
  touches_quantum : (s : Xinu) → IsInside s.tables → Touches f s (record s { tables = quantum_falls s.tables })
  touches_quantum s o =
      let t = s.tables in
      let fresh = record t { quantum = 2 } in
      cond_both (nat_lt 1 t.quantum) (record t { quantum = t.quantum - 1 }) (resched fresh) (λ u. Touches f s (record s { tables = u }))
      (λ _. touches_tables s (record t { quantum = t.quantum - 1 }) (frame_same t (record t { quantum = t.quantum - 1 }) refl refl) refl (λ p h. h) (λ _. refl) (record { stay = λ p h. h }))
      (λ _. touches_trans (touches_tables s fresh (frame_same t fresh refl refl) refl (λ p h. h) (λ _. refl) (record { stay = λ p h. h })) (touches_resched (record s { tables = fresh }) (inside_quantum t 2 o)))

  -- a tick later, and then the quantum falls
  touches_later : f.clock ≡ true → (owes : Bool) (s : Xinu) → IsInside (record s.tables { ticks = s.tables.ticks + 1 })
      → Touches f s (record s { tables = quantum_falls (a_tick_later owes s.tables) })
  touches_later goes owes s o =
      let t = s.tables in
      let later = record t { ticks = t.ticks + 1 } in
      let u = record s { tables = later } in
      let first : Touches f s u = touches_tables s later (frame_same t later refl refl) refl (λ p h. h) (named goes) (record { stay = λ p h. h }) in
      cond_both owes (resched later) later (λ v. Touches f s (record s { tables = quantum_falls v }))
      (λ _. touches_trans (touches_trans first (touches_resched u o))
      (touches_quantum (record s { tables = resched later }) (sound_resched later o).inside))
      (λ _. touches_trans first (touches_quantum u o))

-- The end of an event, if its replies go to processes that are alive.
pub touches_end_of_event : {f : Reach} (was : ℕ) (first : List TranscriptLine) (result : CallResult) → IsInside result.call.state.tables
    → AreAlive result.call.state.tables (replies_of result) → Touches f result.call.state (end_of_event was first result).state
touches_end_of_event was first result o alive =
    let s = result.call.state in
    let k : Touches (reach on_tables) s (record s { tables = closed result }) = touches_closed result o in
    touches_replied s (record s { tables = closed result }) (replies_of result) (touches_closed result o)
    (alive_kept s.tables (closed result) (k.free refl).was (replies_of result) alive)

-- who sleeps is alive
sleeping_lives : (s : State) → 0 < sleeping_places s → is_free s ≡ false
sleeping_lives s h = ⊎_elim (λ (e : s ≡ Sleeping). ap is_free e) (λ (e : s ≡ Timed). ap is_free e) (sleeping_of s h)

-- those whose tick has come are alive
released_by_wakeup : (s : Xinu) → IsInside s.tables → AreAlive (wakeup s).state.tables (wakeup s).released
released_by_wakeup s o =
    let t = s.tables in
    let n = t.ticks + 1 in
    let l = due n t.sleepers in
    alive_unblock_all OK l (start s)
    (all_weaker (λ p. 0 < count_in p l) (λ p. is_free (state_at t p) ≡ false)
    (λ p h. sleeping_lives (state_at t p) (let e = o.sleeping p in let g = due_sleeps n p t.sleepers in omega arith)) l (all_counted l))
    tt

-- a tick later, with the tables sound
later_inside : (s : Xinu) → IsSoundTables s.tables → IsInside (record (wakeup s).state.tables { ticks = (wakeup s).state.tables.ticks + 1 })
later_inside s k =
    subst (λ (x : Xinu). IsInside (record x.tables { ticks = x.tables.ticks + 1 }))
    (sym (unblock_all_ready (due (s.tables.ticks + 1) s.tables.sleepers) (start s)))
    (sound_later false s.tables k).inside

-- The replies of a tick go to processes that are alive.
pub released_by_tick : (s : Xinu) → IsSoundTables s.tables → AreAlive (ticking s).call.state.tables (ticking s).call.released
released_by_tick s k =
    let d = wakeup s in
    let u = record d.state { tables = quantum_falls (a_tick_later d.owes_resched d.state.tables) } in
    let later : Touches at_a_tick d.state u = touches_later refl d.owes_resched d.state (later_inside s k) in
    alive_kept d.state.tables u.tables (later.free refl).was d.released (released_by_wakeup s k.inside)

-- A tick before its replies.
pub touches_ticking : {f : Reach} → f.clock ≡ true → (s : Xinu) → IsSoundTables s.tables → Touches f s (ticking s).call.state
touches_ticking goes s k = let d = wakeup s in touches_trans (touches_wakeup s k.inside) (touches_later goes d.owes_resched d.state (later_inside s k))

-- A tick.
pub touches_ticked : {f : Reach} → f.clock ≡ true → (s : Xinu) → IsSoundTables s.tables → Touches f s (ticked s).state
touches_ticked goes s k =
    let d = wakeup s in
    touches_replied s (record d.state { tables = quantum_falls (a_tick_later d.owes_resched d.state.tables) }) d.released
    (touches_ticking goes s k) (released_by_tick s k)

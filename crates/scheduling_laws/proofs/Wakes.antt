-- Who sleeps, or waits for a message with a limit, does so through each event before its tick, unless it is killed or the message comes, and wakes in
-- that tick.
use Rattle.std.proofs.Common.{◌≡◌, ◌≢◌, ◌⊎◌, inl, inr, ⊎_elim, ℕ, ◌+◌, ◌<◌, true, false, List, [], ◌∷◌, length, take, refl, sym, ap, subst, ◌∙◌, arith, ℤ, Option, Some, None, get_or-set_same, get_or-set_other}
use Rattle.std.specs.Prelude.{slice_set, IsSome}
use Rattle.std.specs.List.{AllByRecursion}
use Rattle.std.proofs.Math.ListN.{length-set}
use Rattle.std.proofs.lemmas.Bool.{cases_eq, cond_both, true≢false}
use Rattle.xinu_base.specs.declared.events.Event.{Event}
use Rattle.xinu_base.specs.declared.lines.TranscriptLine.{TranscriptLine}
use Rattle.xinu_base.specs.declared.processes.Process.{Process}
use Rattle.xinu_base.specs.declared.processes.Rest.TheVariants as rest
use Rattle.xinu_base.specs.declared.processes.State.{State}
use Rattle.xinu_base.specs.declared.processes.State.TheVariants.{Free, Current, Ready, Sleeping, Suspended, Timed}
use Rattle.xinu_model.specs.Clock.{ticked}
use Rattle.xinu_model.specs.Events.{Happens}
use Rattle.xinu_model.specs.Machine.{Xinu, CallState, unblock_with, unblock_all_with}
use Rattle.xinu_model.specs.Messages.{listens}
use Rattle.xinu_model.specs.Process.Calls.{is_ready, with_priority}
use Rattle.xinu_model.specs.Process.Scheduling.{in_state, resched}
use Rattle.xinu_model.specs.Sound.State.{IsSound}
use Rattle.xinu_model.specs.Sound.Tables.{count_in, sleeping_places, waiting_places, CanRun, IsInside, IsSoundTables}
use Rattle.xinu_model.specs.Tables.{no_process, Tables, process_at, state_at, message_at, semaphore_at, is_free, numbers_without, Place, Nowhere, InReady, move_to}
use Rattle.table_laws.proofs.Lists.Counts.{count_last_other, numbers_without_other, numbers_without_same}
use Rattle.table_laws.proofs.Tables.MoveTo.{by_number, within_table, message_move_same, message_move_other, state_move_same, state_move_other}
use Rattle.table_laws.proofs.Tables.Scheduling.{sleeping_of, sound_resched}
use Rattle.table_laws.proofs.Tables.Ticks.{sound_ticked}
use Rattle.table_laws.proofs.Tables.Unblock.{all_take}
use Rattle.scheduling_laws.specs.Sleeping.{IsUntil, ReceivesUntil, SleepsUntil}
use Rattle.scheduling_laws.proofs.Asleep.{not_in, sleeps_moved, sleeps_resched}
use Rattle.scheduling_laws.proofs.Moves.{Anyone, IsClosed}
use Rattle.scheduling_laws.proofs.Passes.Events.{IsCarried, carried_happens}
use Rattle.scheduling_laws.proofs.Resched.{by_resched}
use Rattle.scheduling_laws.proofs.Waiters.{all_others, waiters_given, waiters_left, waiters_moved, not_waiting}
use Rattle.scheduling_laws.proofs.Waking.{can_run_resched, sleeps_no_longer, sleeps_through, wakes_in_time}
use Rattle.xinu_model.proofs.States.{is_ready_of}

-- who is free stays free in a resched
free_resched : (t : Tables) (p : ℕ) → IsInside t → state_at t p ≡ Free → state_at (resched t) p ≡ Free
free_resched t p o h =
    by_resched (λ u. state_at u p ≡ Free) t o h
    (λ e. state_move_other t p t.current (in_state Ready (process_at t t.current)) (message_at t t.current) InReady
    (λ f. let g = sym h ∙ ap (state_at t) f ∙ e in cc)
    ∙ h)
    (λ u q i e k. state_move_other (record u { current = q; quantum = 2 }) p q (in_state Current (process_at u q)) (message_at u q) Nowhere
    (λ f. let g = sym k ∙ ap (state_at u) f ∙ e in cc)
    ∙ k)

-- who has a tick is idle
idle : (a : State) → sleeping_places a ≡ 1 → waiting_places a ≡ 0
idle a late =
    ⊎_elim (λ (e : a ≡ Sleeping). ap waiting_places e) (λ (e : a ≡ Timed). ap waiting_places e) (sleeping_of a (omega arith))

-- and if it listens it waits for a message
listens_until : (a : State) → sleeping_places a ≡ 1 → listens a ≡ true → a ≡ Timed
listens_until a late l =
    ⊎_elim (λ (e : a ≡ Sleeping). absurd (true≢false (sym l ∙ ap listens e))) (λ (e : a ≡ Timed). e) (sleeping_of a (omega arith))

module _ (a : State) (late : sleeping_places a ≡ 1) (p w : ℕ) where
  -- p sleeps, or waits for a message, as an event begins
  abbrev Sleeps : Tables → Type 0
  Sleeps t = IsUntil a p w t × IsSoundTables t

  -- The message came.
  abbrev IsSent : Tables → Type 0
  IsSent t = (a ≡ Timed) × (state_at t p ≡ Ready) × IsSome (message_at t p)

  -- Inside the event it still does, or it was killed, or the message came. It waits on no semaphore and isn't the current process.
  abbrev StillSleeps : Tables → Type 0
  StillSleeps t =
      (length t.processes ≡ 64) × (p < 64) × (IsUntil a p w t ⊎ ((state_at t p ≡ Free) ⊎ IsSent t))
      × ((sem : ℕ) → count_in p (semaphore_at t sem).waiters ≡ 0) × (t.current ≢ p) × (length t.messages ≡ 64)

  still_begins : (t : Tables) → Sleeps t → StillSleeps t
  still_begins t b = (
    many,
    within_table t p many (λ f. not_in a Free late refl (sym b.0.0 ∙ f)),
    inl b.0,
    (λ sem. not_waiting t p sem b.1.inside (ap waiting_places b.0.0 ∙ idle a late)),
    (λ f. not_in a Current late refl (sym b.0.0 ∙ sym (ap (state_at t) f) ∙ b.1.runs)),
    b.1.inside.messages,
  )
    where
      many : length t.processes ≡ 64
      many = b.1.inside.processes

  -- another process moves
  still_moved : (t : Tables) (q : ℕ) (x : Process) (m : Option ℕ) (place : Place) → p ≢ q → StillSleeps t
      → StillSleeps (move_to q x m place t)
  still_moved t q x m place n h = (
    length-set t.processes q x ∙ h.0,
    h.1,
    ⊎_elim (λ (z : IsUntil a p w t). inl (sleeps_moved a late t p q w x m place n z))
        (λ (g : (state_at t p ≡ Free) ⊎ IsSent t). inr
        (⊎_elim (λ (e : state_at t p ≡ Free). inl (state_move_other t p q x m place n ∙ e))
        (λ (i : IsSent t).
        inr (i.0, state_move_other t p q x m place n ∙ i.1, subst (λ o. IsSome o) (sym (message_move_other t p q x m place n)) i.2)) g)) h.2,
    (λ sem. waiters_moved (λ l. count_in p l ≡ 0) t q sem x m place (left sem) (count_last_other p q (numbers_without q (semaphore_at t sem).waiters) n ∙ left sem)),
    h.4,
    length-set t.messages q m ∙ h.5,
  )
    where
      left : (sem : ℕ) → count_in p (numbers_without q (semaphore_at t sem).waiters) ≡ 0
      left sem = numbers_without_other p q (semaphore_at t sem).waiters n ∙ h.3 sem

  -- a process dies
  still_dies : (t : Tables) (q : ℕ) → StillSleeps t → StillSleeps (move_to q no_process None Nowhere t)
  still_dies t q h =
      by_number q p (λ r. StillSleeps (move_to r no_process None Nowhere t)) (
        length-set t.processes p no_process ∙ h.0,
        h.1,
        inr (inl (state_move_same t p no_process None Nowhere h.0 h.1)),
        (λ sem. waiters_left (λ l. count_in p l ≡ 0) p sem t.semaphores (numbers_without_same p (semaphore_at t sem).waiters)),
        h.4,
        length-set t.messages p None ∙ h.5,
      )
      (λ n. still_moved t q no_process None Nowhere (λ e. n (sym e)) h)

  -- waiters are released
  still_unblocked : (value : ℤ) (ps : List ℕ) (d : CallState) → AllByRecursion (λ q. p ≢ q) ps → StillSleeps d.state.tables
      → StillSleeps (unblock_all_with value ps d).state.tables
  still_unblocked value [] d all h = h
  still_unblocked value (q ∷ ps) d all h =
      let t = d.state.tables in
      still_unblocked value ps (unblock_with value q d) all.1
      (still_moved t q (in_state Ready (process_at t q)) (message_at t q) InReady all.0 h)

  -- a message comes
  still_hears : (t : Tables) (q m : ℕ) → listens (state_at t q) ≡ true → StillSleeps t
      → StillSleeps (move_to q (in_state Ready (process_at t q)) (Some m) InReady t)
  still_hears t q m l h =
      by_number q p (λ r. listens (state_at t r) ≡ true → StillSleeps (move_to r (in_state Ready (process_at t r)) (Some m) InReady t))
      (λ k. (
        length-set t.processes p y ∙ h.0,
        h.1,
        inr (inr (
          timed k,
          state_move_same t p y (Some m) InReady h.0 h.1,
          subst (λ o. IsSome o) (sym (message_move_same t p y (Some m) InReady h.5 h.1)) refl,
        )),
        (λ sem. waiters_left (λ l. count_in p l ≡ 0) p sem t.semaphores (numbers_without_same p (semaphore_at t sem).waiters)),
        h.4,
        length-set t.messages p (Some m) ∙ h.5,
      ))
      (λ n k. still_moved t q (in_state Ready (process_at t q)) (Some m) InReady (λ e. n (sym e)) h) l
    where
      y : Process
      y = in_state Ready (process_at t p)

      timed : listens (state_at t p) ≡ true → a ≡ Timed
      timed k =
          ⊎_elim (λ (z : IsUntil a p w t). listens_until a late (sym (ap listens z.0) ∙ k))
          (λ (g : (state_at t p ≡ Free) ⊎ IsSent t).
          ⊎_elim (λ (e : state_at t p ≡ Free). absurd (true≢false (sym k ∙ ap listens e))) (λ (i : IsSent t). i.0) g) h.2

  -- one is kept
  still_sent : (t : Tables) (q m : ℕ) → StillSleeps t → StillSleeps (record t { messages = slice_set t.messages q (Some m) })
  still_sent t q m h = (
    h.0,
    h.1,
    ⊎_elim (λ (z : IsUntil a p w t). inl z)
        (λ (g : (state_at t p ≡ Free) ⊎ IsSent t). inr
        (⊎_elim (λ (e : state_at t p ≡ Free). inl e) (λ (i : IsSent t). inr (i.0, i.1, holds i.2)) g)) h.2,
    h.3,
    h.4,
    length-set t.messages q (Some m) ∙ h.5,
  )
    where
      u : Tables
      u = record t { messages = slice_set t.messages q (Some m) }

      holds : IsSome (message_at t p) → IsSome (message_at u p)
      holds =
          let many = h.5 in
          by_number p q (λ r. r < 64 → IsSome (message_at t r) → IsSome (message_at u r))
          (λ v _. subst (λ o. IsSome o) (sym (get_or-set_same t.messages q (Some m) None (omega arith))) refl)
          (λ n v i. subst (λ o. IsSome o) (sym (get_or-set_other t.messages q p (Some m) None n)) i) h.1

  -- a process gets another priority
  still_set : (t : Tables) (q : ℕ) (y : Process) → y.state ≡ state_at t q → StillSleeps t
      → StillSleeps (record t { processes = slice_set t.processes q y })
  still_set t q y e h = (
    length-set t.processes q y ∙ h.0,
    h.1,
    ⊎_elim (λ (z : IsUntil a p w t). inl (same ∙ z.0, z.1))
        (λ (g : (state_at t p ≡ Free) ⊎ IsSent t). inr
        (⊎_elim (λ (e : state_at t p ≡ Free). inl (same ∙ e)) (λ (i : IsSent t). inr (i.0, same ∙ i.1, i.2)) g)) h.2,
    h.3,
    h.4,
    h.5,
  )
    where
      same : state_at (record t { processes = slice_set t.processes q y }) p ≡ state_at t p
      same =
          let many = h.0 in
          by_number p q (λ r. r < 64 → state_at (record t { processes = slice_set t.processes q y }) r ≡ state_at t r)
          (λ v. ap (λ (x : Process). x.state) (get_or-set_same t.processes q y no_process (omega arith)) ∙ e)
          (λ n v. ap (λ (x : Process). x.state) (get_or-set_other t.processes q p y no_process n)) h.1

  still_placed : (t : Tables) (q : ℕ) (priority : ℤ) → Sleeps t → StillSleeps (with_priority q priority t)
  still_placed t q priority b =
      let y = record (process_at t q) { priority = priority } in
      let h = still_begins t b in
      cond_both (is_ready y.state) (move_to q y (message_at t q) InReady t) (record t { processes = slice_set t.processes q y }) StillSleeps
      (λ r. still_moved t q y (message_at t q) InReady
      (λ e. not_in a Ready late refl (sym b.0.0 ∙ ap (state_at t) e ∙ is_ready_of (state_at t q) r)) h)
      (λ _. still_set t q y refl h)

  -- Each move of a call leaves p asleep, kills it, or sends it its message.
  still_closed : IsClosed Anyone Anyone Sleeps (λ t owes. StillSleeps t)
  still_closed = record {
    begins = still_begins;
    owes = λ t h. h;
    releases = λ value sem n d touch h. still_unblocked value (take n (semaphore_at d.state.tables sem).waiters) d
        (all_take (λ q. p ≢ q) n (semaphore_at d.state.tables sem).waiters (all_others p (semaphore_at d.state.tables sem).waiters (h.3 sem))) h;
    hears = λ t b q m l h. still_hears t q m l h;
    replies = λ t b sem q qs reply touch k f h. still_moved t q (record (process_at t q) { state = Ready; rest = rest.Disk (Some reply) }) (message_at t q) InReady
        (subst (AllByRecursion (λ r. p ≢ r)) f (all_others p (semaphore_at t sem).waiters (h.3 sem))).0 h;
    counts = λ t b sem x touch f h. (
      h.0,
      h.1,
      h.2,
      (λ r. waiters_given (λ l. count_in p l ≡ 0) t sem r x (λ _. ⊎_elim (λ (e : x.waiters ≡ []). subst (λ l. count_in p l ≡ 0) (sym e) refl)
          (λ (e : x.waiters ≡ (semaphore_at t sem).waiters). subst (λ l. count_in p l ≡ 0) (sym e) (h.3 sem)) f) (h.3 r)),
      h.4,
      h.5,
    );
    numbers = λ t b n h. h;
    messages = λ t b q m h. still_sent t q m h;
    goes_on = λ t m k b. let h = still_begins t b in
        still_moved t t.current (record (process_at t t.current) { rest = rest.Nothing }) m Nowhere (λ e. h.4 (sym e)) h;
    stops = λ t state left place touch h.
        still_moved t t.current (record (process_at t t.current) { state = state; rest = left }) (message_at t t.current) place (λ e. h.4 (sym e)) h;
    dies = λ t b q n h. still_dies t q h;
    exits = λ t b q h. still_dies t q h;
    makes = λ t q x k free b. still_moved t q x None Nowhere (λ e. not_in a Free late refl (sym b.0.0 ∙ ap (state_at t) e ∙ free)) (still_begins t b);
    resumes = λ t q k s b. still_moved t q (in_state Ready (process_at t q)) (message_at t q) InReady
        (λ e. not_in a Suspended late refl (sym b.0.0 ∙ ap (state_at t) e ∙ s)) (still_begins t b);
    suspends = λ t q k s b. still_moved t q (in_state Suspended (process_at t q)) (message_at t q) Nowhere
        (λ e. not_in a Ready late refl (sym b.0.0 ∙ ap (state_at t) e ∙ s)) (still_begins t b);
    places = λ t q priority may k b. still_placed t q priority b;
  }

  -- After an event p can run, in its tick, or sleeps, before it, or its message came; unless it was killed.
  abbrev IsInTime : Tables → Type 0
  IsInTime t = is_free (state_at t p) ≡ false
      → ((t.ticks ≡ w) × CanRun (state_at t p))
      ⊎ (((t.ticks < w) × IsUntil a p w t) ⊎ ((a ≡ Timed) × CanRun (state_at t p) × IsSome (message_at t p)))

  in_time_asleep : (t : Tables) → IsInside t → IsUntil a p w t → IsInTime t
  in_time_asleep t o z _ = inr (inl (sleeps_no_longer a p w t o z, z))

  in_time_free : (t : Tables) → state_at t p ≡ Free → IsInTime t
  in_time_free t e alive = absurd (true≢false (sym (ap is_free e) ∙ alive))

  in_time_ends : (t : Tables) → IsInside t → StillSleeps t → IsInTime t
  in_time_ends t o h =
      ⊎_elim (λ (z : IsUntil a p w t). in_time_asleep t o z)
      (λ (g : (state_at t p ≡ Free) ⊎ IsSent t). ⊎_elim (λ (e : state_at t p ≡ Free). in_time_free t e)
      (λ (i : IsSent t) _. inr (inr (i.0, inr i.1, i.2))) g) h.2

  -- its message stays in a resched
  message_resched : (t : Tables) → IsInside t → IsSome (message_at t p) → IsSome (message_at (resched t) p)
  message_resched t o h =
      by_resched (λ u. IsSome (message_at u p)) t o h
      (λ e. message_stays t t.current (in_state Ready (process_at t t.current)) InReady o.messages
      (within_table t t.current o.processes (λ f. let g = sym e ∙ f in cc)) h)
      (λ u q i e k. message_stays (record u { current = q; quantum = 2 }) q (in_state Current (process_at u q)) Nowhere i.messages
      (within_table u q i.processes (λ f. let g = sym e ∙ f in cc)) k)
    where
      message_stays : (u : Tables) (q : ℕ) (y : Process) (place : Place) → length u.messages ≡ 64 → q < 64 → IsSome (message_at u p)
          → IsSome (message_at (move_to q y (message_at u q) place u) p)
      message_stays u q y place many v =
          by_number p q (λ r. IsSome (message_at u r) → IsSome (message_at (move_to q y (message_at u q) place u) r))
          (λ i. subst (λ o. IsSome o) (sym (message_move_same u q y (message_at u q) place many v)) i)
          (λ n i. subst (λ o. IsSome o) (sym (message_move_other u p q y (message_at u q) place n)) i)

  in_time_resched : (t : Tables) → IsInside t → StillSleeps t → IsInTime (resched t)
  in_time_resched t o h =
      ⊎_elim (λ (z : IsUntil a p w t). in_time_asleep (resched t) (sound_resched t o).inside (sleeps_resched a late t p w o z))
      (λ (g : (state_at t p ≡ Free) ⊎ IsSent t).
      ⊎_elim (λ (e : state_at t p ≡ Free). in_time_free (resched t) (free_resched t p o e))
      (λ (i : IsSent t) _. inr (inr (i.0, can_run_resched t p o (inr i.1), message_resched t o i.2))) g) h.2

  in_time_ticked : (s : Xinu) → IsSoundTables s.tables → Sleeps s.tables → IsInTime (ticked s).state.tables
  in_time_ticked s k b =
      ⊎_elim (λ (e : w ≡ s.tables.ticks + 1) _. inl (wakes_in_time a late p w s k b.0 e))
      (λ (n : w ≢ s.tables.ticks + 1). in_time_asleep (ticked s).state.tables (sound_ticked s k).inside (sleeps_through a late p w s k b.0 n))
      (cases_eq w (s.tables.ticks + 1))

  pub in_time_carried : IsCarried Anyone Anyone Sleeps (λ t owes. StillSleeps t) IsInTime
  in_time_carried = record {
    moves = still_closed;
    stays = λ t b. in_time_asleep t b.1.inside b.0;
    ends = in_time_ends;
    rescheds = in_time_resched;
    ticks = in_time_ticked;
  }

-- A sleeper that isn't killed can run in its tick, and sleeps before it.
pub wakes_on_time : (p w : ℕ) (old : Xinu) (e : Event) (lines : List TranscriptLine) (new : Xinu) → IsSound old → Happens old e lines new
    → SleepsUntil p w old.tables → is_free (state_at new.tables p) ≡ false
    → ((new.tables.ticks ≡ w) × CanRun (state_at new.tables p)) ⊎ ((new.tables.ticks < w) × SleepsUntil p w new.tables)
wakes_on_time p w old e lines new k h z alive =
    let t = new.tables in
    ⊎_elim (λ (i : (t.ticks ≡ w) × CanRun (state_at t p)). inl i)
    (λ (g : ((t.ticks < w) × SleepsUntil p w t) ⊎ ((Sleeping ≡ Timed) × CanRun (state_at t p) × IsSome (message_at t p))).
    ⊎_elim (λ (i : (t.ticks < w) × SleepsUntil p w t). inr i)
    (λ (i : (Sleeping ≡ Timed) × CanRun (state_at t p) × IsSome (message_at t p)). let f = i.0 in absurd (cc)) g)
    (carried_happens (in_time_carried Sleeping refl p w) old e lines new k (z, k.tables) h alive)

-- Who waits for a message with a limit can also run before it, if the message came.
pub receives_on_time : (p w : ℕ) (old : Xinu) (e : Event) (lines : List TranscriptLine) (new : Xinu) → IsSound old → Happens old e lines new
    → ReceivesUntil p w old.tables → is_free (state_at new.tables p) ≡ false
    → ((new.tables.ticks ≡ w) × CanRun (state_at new.tables p))
    ⊎ (((new.tables.ticks < w) × ReceivesUntil p w new.tables) ⊎ (CanRun (state_at new.tables p) × IsSome (message_at new.tables p)))
receives_on_time p w old e lines new k h z alive =
    let t = new.tables in
    ⊎_elim (λ (i : (t.ticks ≡ w) × CanRun (state_at t p)). inl i)
    (λ (g : ((t.ticks < w) × ReceivesUntil p w t) ⊎ ((Timed ≡ Timed) × CanRun (state_at t p) × IsSome (message_at t p))).
    ⊎_elim (λ (i : (t.ticks < w) × ReceivesUntil p w t). inr (inl i))
    (λ (i : (Timed ≡ Timed) × CanRun (state_at t p) × IsSome (message_at t p)). inr (inr (i.1, i.2))) g)
    (carried_happens (in_time_carried Timed refl p w) old e lines new k (z, k.tables) h alive)

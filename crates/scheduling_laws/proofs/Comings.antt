-- A ready process goes on waiting, or runs, unless it is killed or suspended: and so its turn comes.
use Rattle.std.proofs.Common.{◌≡◌, ◌≢◌, ◌⊎◌, inl, inr, ⊎_elim, ℕ, ◌+◌, ◌<◌, ◌≤◌, Bool, true, false, List, [], ◌∷◌, Option, length, map, refl, sym, ap, subst, ◌∙◌, arith, ℤ, ◌≤ℤ◌}
use Rattle.std.specs.Prelude.{◌<ℤ◌, int_lt}
use Rattle.std.specs.List.{list_any}
use Rattle.std.proofs.lemmas.Int.{ints}
use Rattle.xinu_base.specs.Constants.{OK}
use Rattle.xinu_base.specs.declared.processes.Process.{Process}
use Rattle.xinu_base.specs.declared.processes.State.{State}
use Rattle.xinu_base.specs.declared.processes.State.TheVariants.{Current, Free, Ready, Suspended}
use Rattle.xinu_model.specs.Clock.{due, ticked}
use Rattle.xinu_model.specs.Events.{Happens}
use Rattle.xinu_model.specs.Machine.{Xinu, start, unblock_all_with}
use Rattle.xinu_model.specs.Process.Scheduling.{in_state, resched}
use Rattle.xinu_model.specs.Sound.State.{IsSound}
use Rattle.xinu_model.specs.Sound.Tables.{sleeping_places, CanRun, IsInside, IsSoundTables}
use Rattle.xinu_model.specs.Tables.{Tables, process_at, state_at, message_at, Place, Nowhere, InReady, move_to}
use Rattle.table_laws.proofs.Tables.MoveTo.{by_number, within_table, process_move_same, process_move_other, state_move_same, state_move_other}
use Rattle.table_laws.proofs.Tables.Unblock.{unblock_all_ready}
use Rattle.xinu_laws.proofs.Preserve.Events.{sound_happens}
use Rattle.scheduling_laws.specs.Moments.{LeadTo, Moment}
use Rattle.scheduling_laws.specs.Policy.{HasQuantum, IsHighest}
use Rattle.scheduling_laws.specs.RoundRobin.{turn, is_placed, tick_of, ticks_of, IsWaitOver, WaitEndsIn, WaitsItsTurn}
use Rattle.scheduling_laws.proofs.Highest.{highest_carried}
use Rattle.scheduling_laws.proofs.Kernels.{all_kernels}
use Rattle.scheduling_laws.proofs.Lows.{low}
use Rattle.scheduling_laws.proofs.Moves.{Anyone}
use Rattle.scheduling_laws.proofs.Passes.Events.{IsCarried, carried_happens, carried_where}
use Rattle.scheduling_laws.proofs.Quantum.{few_carried}
use Rattle.scheduling_laws.proofs.Resched.{by_resched, by_tick}
use Rattle.scheduling_laws.proofs.Rounds.{round_robin, spared, waits_begins}
use Rattle.scheduling_laws.proofs.Turns.{Begins, Turned, all_differ, turned_begins, turned_closed, turned_unblocked}
use Rattle.scheduling_laws.proofs.Waking.{never_due}

module _ (p : ℕ) (k : ℤ) where
  -- p can run, with its priority, or it was killed or suspended
  abbrev IsUp : Tables → Type 0
  IsUp t = (CanRun (state_at t p) × ((process_at t p).priority ≡ k)) ⊎ ((state_at t p ≡ Free) ⊎ (state_at t p ≡ Suspended))

  -- a process that can run moves, and still can
  up_moved : (t : Tables) (x : ℕ) (state : State) (place : Place) → length t.processes ≡ 64 → x < 64 → CanRun (state_at t x) → CanRun state
      → IsUp t → IsUp (move_to x (in_state state (process_at t x)) (message_at t x) place t)
  up_moved t x state place many within can new h =
      by_number p x
      (λ r. ((CanRun (state_at t r) × ((process_at t r).priority ≡ k)) ⊎ ((state_at t r ≡ Free) ⊎ (state_at t r ≡ Suspended)))
      → (CanRun (state_at u r) × ((process_at u r).priority ≡ k)) ⊎ ((state_at u r ≡ Free) ⊎ (state_at u r ≡ Suspended)))
      (λ i. ⊎_elim
      (λ (c : CanRun (state_at t x) × ((process_at t x).priority ≡ k)).
      inl (subst CanRun (sym (state_move_same t x y m place many within)) new, ap (λ (z : Process). z.priority) (process_move_same t x y m place many within) ∙ c.1))
      (λ (l : (state_at t x ≡ Free) ⊎ (state_at t x ≡ Suspended)). absurd (not_lost l)) i)
      (λ n i. ⊎_elim
      (λ (c : CanRun (state_at t p) × ((process_at t p).priority ≡ k)).
      inl (subst CanRun (sym (state_move_other t p x y m place n)) c.0, ap (λ (z : Process). z.priority) (process_move_other t p x y m place n) ∙ c.1))
      (λ (l : (state_at t p ≡ Free) ⊎ (state_at t p ≡ Suspended)). inr
      (⊎_elim (λ (e : state_at t p ≡ Free). inl (state_move_other t p x y m place n ∙ e))
      (λ (e : state_at t p ≡ Suspended). inr (state_move_other t p x y m place n ∙ e)) l)) i)
      h
    where
      y : Process
      y = in_state state (process_at t x)

      m : Option ℕ
      m = message_at t x

      u : Tables
      u = move_to x y m place t

      not_lost : (state_at t x ≡ Free) ⊎ (state_at t x ≡ Suspended) → ⊥
      not_lost l =
          ⊎_elim (λ (e : state_at t x ≡ Free). ⊎_elim (λ (f : state_at t x ≡ Current). let g = sym e ∙ f in cc) (λ (f : state_at t x ≡ Ready). let g = sym e ∙ f in cc) can)
          (λ (e : state_at t x ≡ Suspended). ⊎_elim (λ (f : state_at t x ≡ Current). let g = sym e ∙ f in cc) (λ (f : state_at t x ≡ Ready). let g = sym e ∙ f in cc) can) l

  -- a resched
  up_resched : (t : Tables) → IsInside t → IsUp t → IsUp (resched t)
  up_resched t o h =
      by_resched IsUp t o h
      (λ e. up_moved t t.current Ready InReady o.processes (within_table t t.current o.processes (λ f. let g = sym e ∙ f in cc)) (inl e) (inr refl) h)
      (λ u x i e j. up_moved (record u { current = x; quantum = 2 }) x Current Nowhere i.processes
      (within_table u x i.processes (λ f. let g = sym e ∙ f in cc)) (inr e) (inl refl) j)

  module _ (q most : ℕ) where
    up_turned : (t : Tables) → Turned p k q most t → IsUp t
    up_turned t h = ⊎_elim (λ r. inl (inr r.0, r.1)) (λ l. inr l) h.1

    -- a tick
    up_ticked : (s : Xinu) → IsSoundTables s.tables → Begins p k q most s.tables → IsUp (ticked s).state.tables
    up_ticked s c b =
        let ps = due (s.tables.ticks + 1) s.tables.sleepers in
        let h = turned_unblocked p k q most OK ps (start s)
        (all_differ p ps (never_due s.tables p (s.tables.ticks + 1) c.inside (ap sleeping_places b.0.0))) (turned_begins p k q most s.tables b) in
        by_tick IsUp s c (λ t quantum ticks i. i) up_resched
        (subst (λ (x : Xinu). IsUp x.tables) (unblock_all_ready ps (start s)) (up_turned (unblock_all_with OK ps (start s)).state.tables h))

    -- Each event.
    pub up_carried : IsCarried (λ x. p ≢ x) Anyone (Begins p k q most) (λ t owes. Turned p k q most t) IsUp
    up_carried = record {
      moves = turned_closed p k q most;
      stays = λ t b. up_turned t (turned_begins p k q most t b);
      ends = λ t o h. up_turned t h;
      rescheds = λ t o h. up_resched t o (up_turned t h);
      ticks = up_ticked;
    }

-- a key is above another, or it isn't
above_or_not : (k top : ℤ) → (k <ℤ top) ⊎ (top ≤ℤ k)
above_or_not k top = by_test (int_lt k top) refl
  where
    by_test : (b : Bool) → int_lt k top ≡ b → (k <ℤ top) ⊎ (top ≤ℤ k)
    by_test true e = inl (grind (arith, ints))
    by_test false e = inr (grind (arith, ints))

-- In each moment the wait of a process is over, or it goes on.
waits_or_not : (p : ℕ) (k : ℤ) (m : Moment) → IsSound m.before → Happens m.before m.event m.lines m.after → WaitsItsTurn p k m.before.tables
    → IsWaitOver p k m ⊎ ((list_any (is_placed p) m.lines ≡ false) × WaitsItsTurn p k m.after.tables)
waits_or_not p k m sound h w = by_lines (list_any (is_placed p) m.lines) refl
  where
    t : Tables
    t = m.before.tables

    u : Tables
    u = m.after.tables

    by_lines : (b : Bool) → list_any (is_placed p) m.lines ≡ b
        → IsWaitOver p k m ⊎ ((list_any (is_placed p) m.lines ≡ false) × WaitsItsTurn p k u)
    by_lines true e = inl (inr (inr (inr (inl e))))
    by_lines false e =
        ⊎_elim
        (λ (c : CanRun (state_at u p) × ((process_at u p).priority ≡ k)). ⊎_elim (λ (f : state_at u p ≡ Current). inl (inl f))
        (λ (f : state_at u p ≡ Ready).
        ⊎_elim (λ (g : k <ℤ (process_at u u.current).priority). inl (inr (inr (inr (inr g)))))
        (λ (g : (process_at u u.current).priority ≤ℤ k). inr (e, (f, c.1, g))) (above_or_not k (process_at u u.current).priority)) c.0)
        (λ (l : (state_at u p ≡ Free) ⊎ (state_at u p ≡ Suspended)).
        ⊎_elim (λ (f : state_at u p ≡ Free). inl (inr (inr (inl f)))) (λ (f : state_at u p ≡ Suspended). inl (inr (inl f))) l)
        (carried_where (up_carried p k t.quantum (low p k t.ready)) m.before m.event m.lines m.after sound (all_kernels m.before.parts)
        (waits_begins p k t sound.tables w) h (spared p m.event m.lines e))

-- A stretch with as many ticks as its turn has a moment in which it is over.
pub turn_comes : (p : ℕ) (k : ℤ) (ms : List Moment) (old new : Xinu) → IsSound old → IsHighest old.tables → HasQuantum old.tables
    → WaitsItsTurn p k old.tables → LeadTo old ms new → turn p old.tables ≤ ticks_of (map (λ (m : Moment). m.event) ms) → WaitEndsIn p k ms
turn_comes p k [] old new s h few w lead enough = let some = few.0 in absurd (omega arith)
turn_comes p k (m ∷ ms) old new s h few w lead enough =
    let is = sym lead.0 in
    let sound : IsSound m.before = subst IsSound is s in
    let waits : WaitsItsTurn p k m.before.tables = subst (λ (x : Xinu). WaitsItsTurn p k x.tables) is w in
    let highest : IsHighest m.before.tables = subst (λ (x : Xinu). IsHighest x.tables) is h in
    let some : HasQuantum m.before.tables = subst (λ (x : Xinu). HasQuantum x.tables) is few in
    let left : turn p m.before.tables ≤ tick_of m.event + ticks_of (map (λ (x : Moment). x.event) ms) =
    subst (λ (x : Xinu). turn p x.tables ≤ tick_of m.event + ticks_of (map (λ (x : Moment). x.event) ms)) is enough in
    ⊎_elim (λ (over : IsWaitOver p k m). inl over)
    (λ (goes : (list_any (is_placed p) m.lines ≡ false) × WaitsItsTurn p k m.after.tables).
    let one = round_robin p k m.before m.event m.lines m.after sound highest some lead.1 goes.0 waits goes.1 in
    inr (
      goes.1,
      turn_comes p k ms m.after new (sound_happens m.before m.event m.lines m.after sound lead.1)
          (carried_happens highest_carried m.before m.event m.lines m.after sound highest lead.1)
          (carried_happens few_carried m.before m.event m.lines m.after sound some lead.1) goes.1 lead.2 (omega arith),
    ))
    (waits_or_not p k m sound lead.1 waits)

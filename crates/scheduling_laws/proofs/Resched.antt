-- What a resched does: it makes a process of the highest priority run. What a resched and a tick keep.
use Rattle.std.proofs.Common.{◌≡◌, ℕ, ◌+◌, ◌-◌, ◌<◌, Bool, true, false, List, [], ◌∷◌, refl, sym, subst, ◌∙◌, arith, ℤ, ◌≤ℤ◌}
use Rattle.std.specs.Prelude.{int_lt, nat_lt}
use Rattle.std.specs.List.{AllByRecursion}
use Rattle.std.proofs.lemmas.Bool.{cond_both, and_parts}
use Rattle.std.proofs.lemmas.Int.{ints}
use Rattle.xinu_base.specs.declared.processes.State.TheVariants.{Current, Ready}
use Rattle.xinu_model.specs.Clock.{a_tick_later, due, ticked, wakeup}
use Rattle.xinu_model.specs.Machine.{Xinu, start}
use Rattle.xinu_model.specs.Process.Scheduling.{is_current, in_state, dispatch, dispatch_first, preempt, keeps_cpu, ready, ready_all, resched}
use Rattle.xinu_model.specs.Sound.Tables.{entries_of, IsFalling, HaveKeys, IsInside, IsSoundTables}
use Rattle.xinu_model.specs.Tables.{Tables, process_at, state_at, message_at, entries_without, Nowhere}
use Rattle.table_laws.proofs.Lists.Counts.{first_has_entry}
use Rattle.table_laws.proofs.Lists.Orders.{all_filter, all_weaker}
use Rattle.table_laws.proofs.Tables.MoveTo.{within_table, process_move_same}
use Rattle.table_laws.proofs.Tables.Scheduling.{current_of, inside_quantum, room_made}
use Rattle.table_laws.proofs.Tables.Ticks.{sound_later}
use Rattle.table_laws.proofs.Tables.Unblock.{unblock_all_ready}
use Rattle.scheduling_laws.specs.Policy.{IsHighest}
use Rattle.xinu_model.proofs.States.{ready_of}

-- a key that is less isn't above
below : (a k : ℤ) → int_lt a k ≡ true → a ≤ℤ k
below a k h = grind (arith, ints)

-- a key isn't above itself
pub itself : (a : ℤ) → a ≤ℤ a
itself a = grind (arith, ints)

-- a key that isn't above one that isn't above a third
pub through : (a b c : ℤ) → a ≤ℤ b → b ≤ℤ c → a ≤ℤ c
through a b c h k = grind (arith, ints)

-- who stays has the highest priority
keeper_highest : (l : List (ℕ × ℤ)) (t : Tables) → IsFalling l → keeps_cpu l t ≡ true
    → AllByRecursion (λ e. e.1 ≤ℤ (process_at t t.current).priority) l
keeper_highest [] t falls h = tt
keeper_highest (x ∷ xs) t falls h =
    let top = (process_at t t.current).priority in
    let less = below x.1 top (and_parts (is_current (state_at t t.current)) (int_lt x.1 top) h).1 in
    (less, all_weaker (λ e. e.1 ≤ℤ x.1) (λ e. e.1 ≤ℤ top) (λ e k. through e.1 x.1 top k less) xs falls.0)

-- so has the first of the ready list, once it is run
first_highest : (l : List (ℕ × ℤ)) (t : Tables) → IsInside t → l ≡ t.ready → IsHighest (dispatch_first l t)
first_highest [] t o e = subst (AllByRecursion (λ x. x.1 ≤ℤ (process_at t t.current).priority)) e tt
first_highest (x ∷ xs) t o e =
    let falls : IsFalling (x ∷ xs) = subst IsFalling (sym e) o.falling in
    let keys : HaveKeys t.processes (x ∷ xs) = subst (HaveKeys t.processes) (sym e) o.keys in
    let all : AllByRecursion (λ b. b.1 ≤ℤ x.1) t.ready = subst (AllByRecursion (λ b. b.1 ≤ℤ x.1)) e (itself x.1, falls.0) in
    let here : 0 < entries_of x.0 t.ready = subst (λ l. 0 < entries_of x.0 l) e (first_has_entry x xs) in
    let places = o.ready x.0 in
    let runs = ready_of (state_at t x.0) (omega arith) in
    let w = within_table t x.0 o.processes (λ f. let g = sym runs ∙ f in cc) in
    let u = record t { current = x.0; quantum = 2 } in
    let y = in_state Current (process_at t x.0) in
    subst (λ z. AllByRecursion (λ b. b.1 ≤ℤ z.priority) (entries_without x.0 t.ready))
    (sym (process_move_same u x.0 y (message_at t x.0) Nowhere o.processes w))
    (subst (λ k. AllByRecursion (λ b. b.1 ≤ℤ k) (entries_without x.0 t.ready)) keys.0
    (all_filter (λ b. b.1 ≤ℤ x.1) _ t.ready all))

-- After a resched a process of the highest priority runs.
pub highest_resched : (t : Tables) → IsInside t → IsHighest (resched t)
highest_resched t o =
    cond_both (keeps_cpu t.ready t) t (dispatch_first (preempt t).ready (preempt t)) IsHighest
    (λ h. keeper_highest t.ready t o.falling h)
    (λ _. first_highest (preempt t).ready (preempt t) (room_made t o).0 refl)

-- A resched is these moves: the current process becomes ready if it still runs, and one that is ready is run.
pub by_resched : (P : Tables → Type 0) (t : Tables) → IsInside t → P t → (state_at t t.current ≡ Current → P (ready t.current t))
    → ((u : Tables) (q : ℕ) → IsInside u → state_at u q ≡ Ready → P u → P (dispatch q u)) → P (resched t)
by_resched P t o h makes_room runs =
    cond_both (keeps_cpu t.ready t) t (dispatch_first (preempt t).ready (preempt t)) P (λ _. h)
    (λ _. dispatched (preempt t).ready (preempt t) (room_made t o).0 refl
    (cond_both (is_current (state_at t t.current)) (ready t.current t) t P (λ b. makes_room (current_of (state_at t t.current) b)) (λ _. h)))
  where
    dispatched : (l : List (ℕ × ℤ)) (u : Tables) → IsInside u → l ≡ u.ready → P u → P (dispatch_first l u)
    dispatched [] u i e k = k
    dispatched (x ∷ xs) u i e k =
        let here : 0 < entries_of x.0 u.ready = subst (λ l. 0 < entries_of x.0 l) e (first_has_entry x xs) in
        let places = i.ready x.0 in
        runs u x.0 i (ready_of (state_at u x.0) (omega arith)) k

-- A tick is these moves: those who are due become ready, the ticks and the quantum change, and there may be reschedules.
pub by_tick : (P : Tables → Type 0) (s : Xinu) → IsSoundTables s.tables
    → ((t : Tables) (quantum ticks : ℕ) → P t → P (record t { quantum = quantum; ticks = ticks }))
    → ((t : Tables) → IsInside t → P t → P (resched t)) → P (ready_all (due (s.tables.ticks + 1) s.tables.sleepers) s.tables)
    → P (ticked s).state.tables
by_tick P s k numbers rescheds h =
    let t = s.tables in
    let ps = due (t.ticks + 1) t.sleepers in
    let d = wakeup s in
    let u = ready_all ps t in
    let same = unblock_all_ready ps (start s) in
    let v = record u { ticks = u.ticks + 1 } in
    let i : P v = numbers u u.quantum (u.ticks + 1) h in
    let later : (owes : Bool) → P (a_tick_later owes u) =
    λ owes. cond_both owes (resched v) v P (λ _. rescheds v (sound_later false t k).inside i) (λ _. i) in
    let x = a_tick_later d.owes_resched d.state.tables in
    let o : IsInside x =
    subst (λ (y : Xinu). IsInside (a_tick_later d.owes_resched y.tables)) (sym same) (sound_later d.owes_resched t k).inside in
    let z : P x = subst (λ (y : Xinu). P (a_tick_later d.owes_resched y.tables)) (sym same) (later d.owes_resched) in
    cond_both (nat_lt 1 x.quantum) (record x { quantum = x.quantum - 1 }) (resched (record x { quantum = 2 })) P
    (λ _. numbers x (x.quantum - 1) x.ticks z) (λ _. rescheds (record x { quantum = 2 }) (inside_quantum x 2 o) (numbers x 2 x.ticks z))

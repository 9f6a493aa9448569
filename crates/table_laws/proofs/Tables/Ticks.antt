-- A tick of the clock keeps what holds of the tables.
use Rattle.std.proofs.Common.{◌≡◌, ◌≢◌, ◌⊎◌, ℕ, ◌+◌, ◌-◌, ◌<◌, ◌==◌, Bool, not, cond, List, [], ◌∷◌, filter, map, refl, sym, ap, subst, arith, inl, inr, ⊎_elim}
use Rattle.std.specs.Prelude.{nat_lt}
use Rattle.std.specs.List.{AllByRecursion}
use Rattle.std.proofs.lemmas.Bool.{cases_eq, cond_both, eq-eqb}
use Rattle.xinu_base.specs.declared.processes.State.{State}
use Rattle.xinu_base.specs.declared.processes.State.TheVariants.{Free, Current, Receiving, Sleeping, Timed}
use Rattle.table_laws.specs.Moves.{CanBeReady}
use Rattle.xinu_model.specs.Clock.{due, quantum_falls, wakeup, a_tick_later, ticked}
use Rattle.xinu_model.specs.Machine.{Xinu, start}
use Rattle.xinu_model.specs.Process.Scheduling.{ready, resched, ready_all}
use Rattle.xinu_model.specs.Sound.Tables.{entries_of, IsInside, IsSoundTables}
use Rattle.xinu_model.specs.Tables.{Tables, state_at, entries_without}
use Rattle.table_laws.proofs.Tables.Scheduling.{sleeping_of, holds_at, inside_quantum, inside_ticks, sound_resched}
use Rattle.table_laws.proofs.Lists.Orders.{all_filter, all_weaker, all_map, all_both, all_have_entries}
use Rattle.table_laws.proofs.Tables.Unblock.{unblock_all_ready, sound_ready_all, IsOneOf}

-- a sleeper can become ready
pub can_be_ready_sleeper : (t : Tables) (p : ℕ) → IsInside t → 0 < entries_of p t.sleepers → CanBeReady t p
can_be_ready_sleeper t p o h =
    let e = o.sleeping p in
    let s = sleeping_of (state_at t p) (omega arith) in
    let by = λ (P : State → Type 0) (a : P Sleeping) (b : P Timed).
    ⊎_elim (λ (f : state_at t p ≡ Sleeping). subst P (sym f) a) (λ (f : state_at t p ≡ Timed). subst P (sym f) b) s in
    record {
      alive = by (λ k. k ≢ Free) (λ f. cc) (λ f. cc);
      idle = by (λ k. k ≢ Current) (λ f. cc) (λ f. cc);
      holds = holds_at t p o (by (λ k. k ≢ Receiving) (λ f. cc) (λ f. cc));
    }

-- Those who are due can become ready.
pub can_be_ready_due : (t : Tables) (tick : ℕ) → IsInside t → AllByRecursion (CanBeReady t) (due tick t.sleepers)
can_be_ready_due t tick o =
    all_map (CanBeReady t) (λ e. e.0) (filter (λ e. e.1 == tick) t.sleepers)
    (all_weaker (λ e. 0 < entries_of e.0 t.sleepers) (λ e. CanBeReady t e.0) (λ e h. can_be_ready_sleeper t e.0 o h)
    (filter (λ e. e.1 == tick) t.sleepers)
    (all_filter (λ e. 0 < entries_of e.0 t.sleepers) (λ e. e.1 == tick) t.sleepers (all_have_entries t.sleepers)))

-- who is due among some is due among one more
due_behind : (tick : ℕ) (e x : ℕ × ℕ) (xs : List (ℕ × ℕ)) → IsOneOf e.0 (due tick xs) ⊎ (e.1 ≢ tick)
    → IsOneOf e.0 (due tick (x ∷ xs)) ⊎ (e.1 ≢ tick)
due_behind tick e x xs h = ⊎_elim
    (λ (i : IsOneOf e.0 (due tick xs)). inl
    (cond_both (x.1 == tick) (x ∷ filter (λ y. y.1 == tick) xs) (filter (λ y. y.1 == tick) xs)
    (λ (l : List (ℕ × ℕ)). IsOneOf e.0 (map (λ y. y.0) l)) (λ _. inr i) (λ _. i)))
    (λ (d : e.1 ≢ tick). inr d) h

-- the first of some is due, or its tick is another
due_first : (tick : ℕ) (x : ℕ × ℕ) (xs : List (ℕ × ℕ)) → IsOneOf x.0 (due tick (x ∷ xs)) ⊎ (x.1 ≢ tick)
due_first tick x xs = ⊎_elim
    (λ (e : x.1 ≡ tick). inl
    (subst (λ b. IsOneOf x.0
    (map (λ (y : ℕ × ℕ). y.0) (cond b (x ∷ filter (λ (y : ℕ × ℕ). y.1 == tick) xs) (filter (λ (y : ℕ × ℕ). y.1 == tick) xs))))
    (sym (eq-eqb x.1 tick e)) (inl refl)))
    (λ (d : x.1 ≢ tick). inr d) (cases_eq x.1 tick)

-- each sleeper is due, or its tick is another
all_due : (tick : ℕ) (l : List (ℕ × ℕ)) → AllByRecursion (λ e. IsOneOf e.0 (due tick l) ⊎ (e.1 ≢ tick)) l
all_due tick [] = tt
all_due tick (x ∷ xs) = (
  due_first tick x xs,
  all_weaker (λ e. IsOneOf e.0 (due tick xs) ⊎ (e.1 ≢ tick)) (λ e. IsOneOf e.0 (due tick (x ∷ xs)) ⊎ (e.1 ≢ tick))
      (λ e h. due_behind tick e x xs h) xs (all_due tick xs),
)

-- the sleepers that are left once p is gone
left_without : (P : ℕ × ℕ → Type 0) (p : ℕ) (ps : List ℕ) (l : List (ℕ × ℕ)) → AllByRecursion (λ e. IsOneOf e.0 (p ∷ ps) ⊎ P e) l
    → AllByRecursion (λ e. IsOneOf e.0 ps ⊎ P e) (entries_without p l)
left_without P p ps [] h = tt
left_without P p ps (x ∷ xs) h =
    cond_both (not (x.0 == p)) (x ∷ entries_without p xs) (entries_without p xs) (AllByRecursion (λ e. IsOneOf e.0 ps ⊎ P e))
    (λ b. (⊎_elim (λ (i : IsOneOf x.0 (p ∷ ps)). ⊎_elim (λ (e : x.0 ≡ p). let f = ap not (eq-eqb x.0 p e) in cc) (λ (j : IsOneOf x.0 ps). inl j) i) (λ (k : P x). inr k) h.0, left_without P p ps xs h.1))
    (λ _. left_without P p ps xs h.1)

-- the sleepers that are left once these become ready
left_after : (P : ℕ × ℕ → Type 0) (ps : List ℕ) (t : Tables) → AllByRecursion (λ e. IsOneOf e.0 ps ⊎ P e) t.sleepers
    → AllByRecursion P (ready_all ps t).sleepers
left_after P [] t h = all_weaker (λ e. ⊥ ⊎ P e) P (λ e k. ⊎_elim (λ (b : ⊥). absurd b) (λ (v : P e). v) k) t.sleepers h
left_after P (p ∷ ps) t h = left_after P ps (ready p t) (left_without P p ps t.sleepers h)

-- who becomes ready doesn't change the tick
pub ticks_ready : (ps : List ℕ) (t : Tables) → (ready_all ps t).ticks ≡ t.ticks
ticks_ready [] t = refl
ticks_ready (p ∷ ps) t = ticks_ready ps (ready p t)

-- once those who are due become ready the others wake later than the tick to come
later_left : (t : Tables) → IsInside t → AllByRecursion (λ e. t.ticks + 1 < e.1) (ready_all (due (t.ticks + 1) t.sleepers) t).sleepers
later_left t o =
    let n = t.ticks + 1 in
    let ps = due n t.sleepers in
    left_after (λ e. n < e.1) ps t (all_weaker (λ e. (IsOneOf e.0 ps ⊎ (e.1 ≢ n)) × (t.ticks < e.1)) (λ e. IsOneOf e.0 ps ⊎ (n < e.1))
    (λ e h. ⊎_elim (λ (i : IsOneOf e.0 ps). inl i) (λ (d : e.1 ≢ n). inr (let k = h.1 in omega arith)) h.0) t.sleepers
    (all_both (λ e. IsOneOf e.0 ps ⊎ (e.1 ≢ n)) (λ e. t.ticks < e.1) t.sleepers (all_due n t.sleepers) o.later))

-- Those who are due become ready, and it is a tick later.
pub sound_later : (owes : Bool) (t : Tables) → IsSoundTables t
    → IsSoundTables (a_tick_later owes (ready_all (due (t.ticks + 1) t.sleepers) t))
sound_later owes t k =
    let ps = due (t.ticks + 1) t.sleepers in
    let u = ready_all ps t in
    let w = sound_ready_all ps t k (can_be_ready_due t (t.ticks + 1) k.inside) in
    let o = inside_ticks u (u.ticks + 1) w.inside
    (subst (λ n. AllByRecursion (λ e. n + 1 < e.1) u.sleepers) (sym (ticks_ready ps t)) (later_left t k.inside)) in
    let v = record u { ticks = u.ticks + 1 } in
    cond_both owes (resched v) v IsSoundTables (λ _. sound_resched v o) (λ _. record { inside = o; runs = w.runs })

-- The quantum falls.
pub sound_quantum : (t : Tables) → IsSoundTables t → IsSoundTables (quantum_falls t)
sound_quantum t k = cond_both (nat_lt 1 t.quantum) (record t { quantum = t.quantum - 1 }) (resched (record t { quantum = 2 })) IsSoundTables
    (λ _. record { inside = inside_quantum t (t.quantum - 1) k.inside; runs = k.runs })
    (λ _. sound_resched (record t { quantum = 2 }) (inside_quantum t 2 k.inside))

-- A tick keeps the tables sound.
pub sound_ticked : (s : Xinu) → IsSoundTables s.tables → IsSoundTables (ticked s).state.tables
sound_ticked s k =
    let ps = due (s.tables.ticks + 1) s.tables.sleepers in
    let owes = (wakeup s).owes_resched in
    sound_quantum (a_tick_later owes (wakeup s).state.tables)
    (subst (λ (x : Xinu). IsSoundTables (a_tick_later owes x.tables)) (sym (unblock_all_ready ps (start s))) (sound_later owes s.tables k))

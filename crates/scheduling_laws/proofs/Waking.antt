-- A sleeper can run once its tick has come, and sleeps no longer than that.
use Rattle.std.proofs.Common.{◌≡◌, ◌≢◌, inl, inr, ⊎_elim, ℕ, suc, ◌+◌, ◌-◌, ◌<◌, ◌≤◌, ◌==◌, ◌&&◌, Bool, true, false, cond, List, [], ◌∷◌, filter, length, map, refl, sym, ap, subst, ◌∙◌, arith}
use Rattle.std.specs.Prelude.{nat_lt}
use Rattle.std.specs.List.{AllByRecursion}
use Rattle.std.proofs.Math.ListN.{length-set}
use Rattle.std.proofs.lemmas.Bool.{cond_both, and_parts, both_ways, eqb-true, eq-eqb}
use Rattle.xinu_base.specs.declared.processes.Process.{Process}
use Rattle.xinu_base.specs.declared.processes.State.{State}
use Rattle.xinu_base.specs.declared.processes.State.TheVariants.{Current, Free, Ready}
use Rattle.xinu_model.specs.Clock.{a_tick_later, due, ticked, wakeup}
use Rattle.xinu_model.specs.Machine.{Xinu, start}
use Rattle.xinu_model.specs.Process.Scheduling.{in_state, ready, ready_all, resched}
use Rattle.xinu_model.specs.Sound.Tables.{entries_of, sleeping_places, times, CanRun, IsInside, IsSoundTables}
use Rattle.xinu_model.specs.Tables.{Tables, process_at, state_at, message_at, Place, Nowhere, InReady, move_to}
use Rattle.std.proofs.Common.{Option}
use Rattle.table_laws.proofs.Tables.MoveTo.{by_number, within_table, state_move_same, state_move_other}
use Rattle.table_laws.proofs.Tables.Scheduling.{inside_quantum}
use Rattle.table_laws.proofs.Tables.Ticks.{sound_later, ticks_ready}
use Rattle.table_laws.proofs.Tables.Unblock.{IsOneOf, unblock_all_ready}
use Rattle.scheduling_laws.proofs.Resched.{by_resched, by_tick}
use Rattle.scheduling_laws.proofs.Asleep.{is_entry, not_in, sleeps_moved, sleeps_resched}
use Rattle.scheduling_laws.specs.Sleeping.{IsUntil}

-- a process that can run still can after one went to a state in which it can
can_run_moved : (t : Tables) (p q : ℕ) (x : Process) (m : Option ℕ) (place : Place) → length t.processes ≡ 64 → q < 64 → CanRun x.state
    → CanRun (state_at t p) → CanRun (state_at (move_to q x m place t) p)
can_run_moved t p q x m place e w new h =
    by_number p q (λ r. CanRun (state_at (move_to q x m place t) r)) (subst CanRun (sym (state_move_same t q x m place e w)) new)
    (λ n. subst CanRun (sym (state_move_other t p q x m place n)) h)

-- or after a resched
pub can_run_resched : (t : Tables) (p : ℕ) → IsInside t → CanRun (state_at t p) → CanRun (state_at (resched t) p)
can_run_resched t p o h =
    by_resched (λ u. CanRun (state_at u p)) t o h
    (λ e. can_run_moved t p t.current (in_state Ready (process_at t t.current)) (message_at t t.current) InReady o.processes
    (within_table t t.current o.processes (λ f. let g = sym e ∙ f in cc)) (inr refl) h)
    (λ u q i e k. can_run_moved (record u { current = q; quantum = 2 }) p q (in_state Current (process_at u q)) (message_at u q) Nowhere i.processes
    (within_table u q i.processes (λ f. let g = sym e ∙ f in cc)) (inl refl) k)

-- who is ready stays ready as others become ready
stays_ready : (ps : List ℕ) (t : Tables) (p : ℕ) → length t.processes ≡ 64 → p < 64 → state_at t p ≡ Ready → state_at (ready_all ps t) p ≡ Ready
stays_ready [] t p e w h = h
stays_ready (q ∷ ps) t p e w h =
    stays_ready ps (ready q t) p (length-set t.processes q _ ∙ e) w
    (by_number p q (λ r. r < 64 → state_at (ready q t) r ≡ Ready) (λ v. state_move_same t q (in_state Ready (process_at t q)) (message_at t q) InReady e v)
    (λ n _. state_move_other t p q (in_state Ready (process_at t q)) (message_at t q) InReady n ∙ h) w)

-- who is among those who become ready is ready
becomes_ready : (ps : List ℕ) (t : Tables) (p : ℕ) → length t.processes ≡ 64 → p < 64 → IsOneOf p ps → state_at (ready_all ps t) p ≡ Ready
becomes_ready [] t p e w i = absurd i
becomes_ready (q ∷ ps) t p e w i =
    ⊎_elim
    (λ (f : p ≡ q). stays_ready ps (ready q t) p (length-set t.processes q _ ∙ e) w
    (subst (λ r. r < 64 → state_at (ready q t) r ≡ Ready) (sym f)
    (λ v. state_move_same t q (in_state Ready (process_at t q)) (message_at t q) InReady e v) w))
    (λ (j : IsOneOf p ps). becomes_ready ps (ready q t) p (length-set t.processes q _ ∙ e) w j) i

-- who has an entry with a tick is due in it
is_due : (p w : ℕ) (l : List (ℕ × ℕ)) → 0 < times (λ e. (e.0 == p) && (e.1 == w)) l → IsOneOf p (due w l)
is_due p w [] = λ h. absurd (omega arith)
is_due p w (x ∷ xs) =
    let others = filter (λ e. e.1 == w) xs in
    let more = times (λ e. (e.0 == p) && (e.1 == w)) xs in
    cond_both ((x.0 == p) && (x.1 == w)) (suc more) more (λ n. 0 < n → IsOneOf p (due w (x ∷ xs)))
    (λ b _. let both = and_parts (x.0 == p) (x.1 == w) b in
    cond_both (x.1 == w) (x ∷ others) others (λ l. IsOneOf p (map (λ e. e.0) l)) (λ _. inl (sym (eqb-true x.0 p both.0)))
    (λ f. absurd (both_ways (x.1 == w) f both.1)))
    (λ _ h. cond_both (x.1 == w) (x ∷ others) others (λ l. IsOneOf p (map (λ e. e.0) l)) (λ _. inr (is_due p w xs h)) (λ _. is_due p w xs h))

-- a resched keeps the ticks
ticks_resched : (t : Tables) → IsInside t → (resched t).ticks ≡ t.ticks
ticks_resched t o = by_resched (λ u. u.ticks ≡ t.ticks) t o refl (λ e. refl) (λ u q i e k. k)

-- and a tick moves them on by one
ticks_ticked : (s : Xinu) → IsSoundTables s.tables → (ticked s).state.tables.ticks ≡ s.tables.ticks + 1
ticks_ticked s k =
    let ps = due (s.tables.ticks + 1) s.tables.sleepers in
    let d = wakeup s in
    let t = d.state.tables in
    let later = record t { ticks = t.ticks + 1 } in
    let u = a_tick_later d.owes_resched t in
    let same : t.ticks ≡ s.tables.ticks =
    ap (λ (x : Xinu). x.tables.ticks) (unblock_all_ready ps (start s)) ∙ ticks_ready ps s.tables in
    let after : (owes : Bool) → IsInside (a_tick_later owes t) =
    λ owes. subst (λ (x : Xinu). IsInside (a_tick_later owes x.tables)) (sym (unblock_all_ready ps (start s))) (sound_later owes s.tables k).inside in
    cond_both (nat_lt 1 u.quantum) (record u { quantum = u.quantum - 1 }) (resched (record u { quantum = 2 })) (λ v. v.ticks ≡ u.ticks)
    (λ _. refl) (λ _. ticks_resched (record u { quantum = 2 }) (inside_quantum u 2 (after d.owes_resched)))
    ∙ cond_both d.owes_resched (resched later) later (λ v. v.ticks ≡ t.ticks + 1) (λ _. ticks_resched later (after false)) (λ _. refl)
    ∙ ap (λ n. n + 1) same

-- A sleeper, or who waits with a limit, can run after its tick.
pub wakes_in_time : (a : State) → sleeping_places a ≡ 1 → (p w : ℕ) (s : Xinu) → IsSoundTables s.tables → IsUntil a p w s.tables
    → w ≡ s.tables.ticks + 1 → ((ticked s).state.tables.ticks ≡ w) × CanRun (state_at (ticked s).state.tables p)
wakes_in_time a late p w s k z e =
    let t = s.tables in
    let ps = due (t.ticks + 1) t.sleepers in
    let within = within_table t p k.inside.processes (λ f. not_in a Free late refl (sym z.0 ∙ f)) in
    let one = subst (λ n. IsOneOf p (due n t.sleepers)) e (is_due p w t.sleepers z.1) in
    let is : CanRun (state_at (ready_all ps t) p) = inr (becomes_ready ps t p k.inside.processes within one) in
    (ticks_ticked s k ∙ sym e, by_tick (λ u. CanRun (state_at u p)) s k (λ u quantum ticks h. h) (λ u o h. can_run_resched u p o h) is)

-- what holds of all entries holds of one that is there
of_entry : (P : ℕ × ℕ → Type 0) (p w : ℕ) (l : List (ℕ × ℕ)) → AllByRecursion P l → 0 < times (λ e. (e.0 == p) && (e.1 == w)) l
    → (e : ℕ × ℕ) × (e.1 ≡ w) × P e
of_entry P p w [] all = λ h. absurd (omega arith)
of_entry P p w (x ∷ xs) all =
    let more = times (λ e. (e.0 == p) && (e.1 == w)) xs in
    cond_both ((x.0 == p) && (x.1 == w)) (suc more) more (λ n. 0 < n → (e : ℕ × ℕ) × (e.1 ≡ w) × P e)
    (λ b _. (x, eqb-true x.1 w (and_parts (x.0 == p) (x.1 == w) b).1, all.0)) (λ _ h. of_entry P p w xs all.1 h)

-- Who sleeps wakes later.
pub sleeps_no_longer : (a : State) (p w : ℕ) (t : Tables) → IsInside t → IsUntil a p w t → t.ticks < w
sleeps_no_longer a p w t o z = let f = of_entry (λ e. t.ticks < e.1) p w t.sleepers o.later z.1 in subst (λ n. t.ticks < n) f.1 f.2

-- an entry of p with a tick is one of its entries, and one with another tick another
two_entries : (p v w : ℕ) (l : List (ℕ × ℕ)) → v ≢ w → times (is_entry p v) l + times (is_entry p w) l ≤ entries_of p l
two_entries p v w [] n = omega arith
two_entries p v w (x ∷ xs) n =
    let a = times (is_entry p v) xs in
    let b = times (is_entry p w) xs in
    let c = entries_of p xs in
    let rest : a + b ≤ c = two_entries p v w xs n in
    cond_both (x.0 == p) (suc c) c (λ k. cond ((x.0 == p) && (x.1 == v)) (suc a) a + cond ((x.0 == p) && (x.1 == w)) (suc b) b ≤ k)
    (λ e. one (x.1 == v) (x.1 == w) (x.0 == p) a b c e (λ f g. n (sym (eqb-true x.1 v f) ∙ eqb-true x.1 w g)) rest)
    (λ e. none (x.1 == v) (x.1 == w) (x.0 == p) a b c e rest)
  where
    one : (f g h : Bool) (a b c : ℕ) → h ≡ true → (f ≡ true → g ≡ true → ⊥) → a + b ≤ c
        → cond (h && f) (suc a) a + cond (h && g) (suc b) b ≤ suc c
    one true true h a b c e apart r = absurd (apart refl refl)
    one true false true a b c e apart r = omega arith
    one false g true a b c e apart r = cond_both g (suc b) b (λ k. a + k ≤ suc c) (λ _. omega arith) (λ _. omega arith)
    one f g false a b c e apart r = cc

    none : (f g h : Bool) (a b c : ℕ) → h ≡ false → a + b ≤ c → cond (h && f) (suc a) a + cond (h && g) (suc b) b ≤ c
    none f g false a b c e r = r
    none f g true a b c e r = cc

-- who is due has an entry with that tick
has_due : (p w : ℕ) (l : List (ℕ × ℕ)) → IsOneOf p (due w l) → 0 < times (is_entry p w) l
has_due p w [] = λ i. absurd i
has_due p w (x ∷ xs) =
    let more = times (is_entry p w) xs in
    let others = filter (λ e. e.1 == w) xs in
    cond_both (x.1 == w) (x ∷ others) others (λ l. IsOneOf p (map (λ e. e.0) l) → 0 < cond ((x.0 == p) && (x.1 == w)) (suc more) more)
    (λ b i. ⊎_elim
    (λ (f : p ≡ x.0). subst (λ c. 0 < cond (c && (x.1 == w)) (suc more) more) (sym (eq-eqb x.0 p (sym f)))
    (subst (λ c. 0 < cond c (suc more) more) (sym b) (omega arith)))
    (λ (j : IsOneOf p (map (λ e. e.0) others)). one_more ((x.0 == p) && (x.1 == w)) more (has_due p w xs j)) i)
    (λ b i. one_more ((x.0 == p) && (x.1 == w)) more (has_due p w xs i))
  where
    one_more : (c : Bool) (n : ℕ) → 0 < n → 0 < cond c (suc n) n
    one_more true n h = omega arith
    one_more false n h = h

-- Who has no place among the sleepers isn't due.
pub never_due : (t : Tables) (p w : ℕ) → IsInside t → sleeping_places (state_at t p) ≡ 0 → IsOneOf p (due w t.sleepers) → ⊥
never_due t p w o awake i =
    let there = has_due p w t.sleepers i in
    let few = two_entries p w (suc w) t.sleepers (λ e. absurd (omega arith)) in
    let all = o.sleeping p in
    absurd (omega arith)

module _ (a : State) (late : sleeping_places a ≡ 1) where
  -- who isn't among those who become ready sleeps on
  sleeps_on : (ps : List ℕ) (t : Tables) (p w : ℕ) → (IsOneOf p ps → ⊥) → IsUntil a p w t → IsUntil a p w (ready_all ps t)
  sleeps_on [] t p w n z = z
  sleeps_on (q ∷ ps) t p w n z =
      sleeps_on ps (ready q t) p w (λ i. n (inr i))
      (sleeps_moved a late t p q w (in_state Ready (process_at t q)) (message_at t q) InReady (λ e. n (inl e)) z)

  -- A sleeper whose tick is another sleeps on.
  pub sleeps_through : (p w : ℕ) (s : Xinu) → IsSoundTables s.tables → IsUntil a p w s.tables → w ≢ s.tables.ticks + 1
      → IsUntil a p w (ticked s).state.tables
  sleeps_through p w s k z n =
      let t = s.tables in
      let ps = due (t.ticks + 1) t.sleepers in
      let once : entries_of p t.sleepers ≡ 1 = k.inside.sleeping p ∙ ap sleeping_places z.0 ∙ late in
      let both = two_entries p (t.ticks + 1) w t.sleepers (λ e. n (sym e)) in
      let here = z.1 in
      by_tick (IsUntil a p w) s k (λ u quantum ticks y. y) (λ u o y. sleeps_resched a late u p w o y)
      (sleeps_on ps t p w (λ i. let there = has_due p (t.ticks + 1) t.sleepers i in absurd (omega arith)) z)

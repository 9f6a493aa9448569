-- Two ticks end one quantum.
use Rattle.std.proofs.Common.{◌≡◌, ◌≢◌, ℕ, ◌+◌, ◌-◌, ◌<◌, ◌≤◌, ◌==◌, ◌&&◌, not, Bool, true, false, cond, List, [], ◌∷◌, ◌++◌, filter, map, refl, sym, ap, subst, ◌∙◌, arith, ℤ}
use Rattle.std.specs.Prelude.{int_lt, nat_lt}
use Rattle.std.specs.List.{AllByRecursion}
use Rattle.std.proofs.lemmas.Bool.{cond_both, le-ltb, lt-ltb, ltb-false, ltb-true, ne_eqb}
use Rattle.std.proofs.lemmas.Int.{ints}
use Rattle.xinu_base.specs.declared.events.Event.TheVariants.{Tick}
use Rattle.xinu_base.specs.declared.lines.TranscriptLine.{TranscriptLine}
use Rattle.xinu_base.specs.declared.processes.State.TheVariants.{Current, Ready}
use Rattle.xinu_model.specs.Clock.{a_tick_later, due, quantum_falls, ticked}
use Rattle.xinu_model.specs.Events.{Happens}
use Rattle.xinu_model.specs.Machine.{Xinu, EventResult, start, unblock_all}
use Rattle.xinu_model.specs.Process.Scheduling.{is_current, dispatch_first, keeps_cpu, preempt, ready, resched}
use Rattle.xinu_model.specs.Sound.State.{IsSound}
use Rattle.xinu_model.specs.Sound.Tables.{entries_of}
use Rattle.xinu_model.specs.Tables.{Tables, process_at, state_at, entries_without}
use Rattle.xinu_model.proofs.States.{ready_of}
use Rattle.table_laws.proofs.Lists.Counts.{first_has_entry}
use Rattle.table_laws.proofs.Lists.Orders.{all_filter}
use Rattle.scheduling_laws.specs.Policy.{HasQuantum}

-- nobody's sleep is over up to a tick
abbrev SleepPast : ℕ → Tables → Type 0
SleepPast n t = AllByRecursion (λ (e : ℕ × ℕ). n < e.1) t.sleepers

none_due : (w n : ℕ) (l : List (ℕ × ℕ)) → w ≤ n → AllByRecursion (λ (e : ℕ × ℕ). n < e.1) l → due w l ≡ []
none_due w n [] less h = refl
none_due w n (x ∷ xs) less h =
    let later = h.0 in
    let others = filter (λ (e : ℕ × ℕ). e.1 == w) xs in
    ap (λ b. map (λ (e : ℕ × ℕ). e.0) (cond b (x ∷ others) others)) (ne_eqb x.1 w (λ e. absurd (omega arith)))
    ∙ none_due w n xs less h.1

-- so a tick is only one of the quantum
tick_alone : (s : Xinu) (n : ℕ) → s.tables.ticks + 1 ≤ n → SleepPast n s.tables
    → (ticked s).state.tables ≡ quantum_falls (record s.tables { ticks = s.tables.ticks + 1 })
tick_alone s n less h =
    ap (λ l. quantum_falls (a_tick_later (unblock_all l (start s)).owes_resched (unblock_all l (start s)).state.tables))
    (none_due (s.tables.ticks + 1) n s.tables.sleepers less h)

-- a key isn't below itself
pub not_below : (a b : ℤ) → a ≡ b → int_lt a b ≡ false
not_below a b e = by_test (int_lt a b) refl
  where
    less : int_lt a b ≡ true → ⊥
    less h = grind (arith, ints)

    by_test : (c : Bool) → int_lt a b ≡ c → c ≡ false
    by_test true h = absurd (less h)
    by_test false h = refl

module _ (first : ℕ × ℤ) (others : List (ℕ × ℤ)) where
  -- The current process has an equal, the first of the ready list, and a quantum.
  record HasEqual (t : Tables) : Type 0 where
    runs : state_at t t.current ≡ Current
    ready : t.ready ≡ first ∷ others
    equal : first.1 ≡ (process_at t t.current).priority
    other : first.0 ≢ t.current

  -- a resched runs the equal
  record IsGiven (t u : Tables) : Type 0 where
    current : u.current ≡ first.0
    quantum : u.quantum ≡ 2
    ticks : u.ticks ≡ t.ticks
    sleepers : u.sleepers ≡ entries_without first.0 (entries_without t.current t.sleepers)

  gives_way : (t : Tables) → HasEqual t → IsGiven t (resched t)
  gives_way t h =
      let c = t.current in
      let top = (process_at t c).priority in
      let low : int_lt first.1 top ≡ false = not_below first.1 top h.equal in
      let leaves : keeps_cpu t.ready t ≡ false = ap (λ l. keeps_cpu l t) h.ready ∙ ap (λ b. is_current (state_at t c) && b) low ∙ and_false (is_current (state_at t c)) in
      let room : preempt t ≡ ready c t = ap (λ s. cond (is_current s) (ready c t) t) h.runs in
      let rest = entries_without c others in
      let there : entries_without c t.ready ≡ first ∷ rest =
      ap (entries_without c) h.ready ∙ ap (λ b. cond (not b) (first ∷ rest) rest) (ne_eqb first.0 c h.other) in
      let ahead = λ (e : ℕ × ℤ). not (int_lt e.1 top) in
      let more = filter ahead rest in
      let behind = λ (l : List (ℕ × ℤ)). filter (λ (e : ℕ × ℤ). not (ahead e)) l in
      let is : (ready c t).ready ≡ first ∷ (more ++ (c, top) ∷ behind (first ∷ rest)) =
      ap (λ l. filter ahead l ++ (c, top) ∷ behind l) there
      ∙ ap (λ b. cond (not b) (first ∷ more) more ++ (c, top) ∷ behind (first ∷ rest)) low in
      let same : resched t ≡ dispatch_first (first ∷ (more ++ (c, top) ∷ behind (first ∷ rest))) (ready c t) =
      ap (λ b. cond b t (dispatch_first (preempt t).ready (preempt t))) leaves
      ∙ ap (λ u. dispatch_first u.ready u) room ∙ ap (λ l. dispatch_first l (ready c t)) is in
      record {
        current = ap (λ u. u.current) same;
        quantum = ap (λ u. u.quantum) same;
        ticks = ap (λ u. u.ticks) same;
        sleepers = ap (λ u. u.sleepers) same;
      }
    where
      and_false : (b : Bool) → b && false ≡ false
      and_false true = refl
      and_false false = refl

  -- as the quantum falls from 2 the current process stays, and from 1 the equal runs
  stays_two : (t : Tables) → 2 ≤ t.quantum → quantum_falls t ≡ record t { quantum = t.quantum - 1 }
  stays_two t h = ap (λ b. cond b (record t { quantum = t.quantum - 1 }) (resched (record t { quantum = 2 }))) (lt-ltb 1 t.quantum (omega arith))

  ends_one : (t : Tables) → t.quantum ≤ 1 → quantum_falls t ≡ resched (record t { quantum = 2 })
  ends_one t h = ap (λ b. cond b (record t { quantum = t.quantum - 1 }) (resched (record t { quantum = 2 }))) (le-ltb 1 t.quantum h)

  -- Two ticks.
  two_ticks : (old mid : Xinu) → HasEqual old.tables → HasQuantum old.tables → SleepPast (old.tables.ticks + 2) old.tables
      → (ticked old).state.tables ≡ mid.tables → (ticked mid).state.tables.current ≡ first.0
  two_ticks old mid h few past e =
      cond_both (nat_lt 1 t.quantum) (record later { quantum = t.quantum - 1 }) (resched (record later { quantum = 2 }))
      (λ u. u ≡ mid.tables → (ticked mid).state.tables.current ≡ first.0)
      (λ b is. at_first (ltb-true 1 t.quantum b) is) (λ b is. at_last (ltb-false 1 t.quantum b) is)
      (sym (tick_alone old (t.ticks + 2) (omega arith) past) ∙ e)
    where
      t : Tables
      t = old.tables

      later : Tables
      later = record t { ticks = t.ticks + 1 }

      -- the second tick
      second : (u : Tables) → u ≡ mid.tables → u.ticks ≡ t.ticks + 1 → SleepPast (t.ticks + 2) u
          → (ticked mid).state.tables ≡ quantum_falls (record u { ticks = u.ticks + 1 })
      second u is n past =
          subst (λ v. SleepPast (t.ticks + 2) v → v.ticks ≡ t.ticks + 1 → (ticked mid).state.tables ≡ quantum_falls (record v { ticks = v.ticks + 1 })) (sym is)
          (λ s k. tick_alone mid (t.ticks + 2) (omega arith) s) past n

      at_first : 1 < t.quantum → record later { quantum = t.quantum - 1 } ≡ mid.tables → (ticked mid).state.tables.current ≡ first.0
      at_first more is =
          let u = record later { quantum = t.quantum - 1 } in
          let v = record u { ticks = u.ticks + 1 } in
          let most = few.1 in
          ap (λ (x : Tables). x.current) (second u is refl past ∙ ends_one v (omega arith))
          ∙ (gives_way (record v { quantum = 2 }) (record { runs = h.runs; ready = h.ready; equal = h.equal; other = h.other })).current

      at_last : t.quantum ≤ 1 → resched (record later { quantum = 2 }) ≡ mid.tables → (ticked mid).state.tables.current ≡ first.0
      at_last less is =
          let whole = record later { quantum = 2 } in
          let u = resched whole in
          let g = gives_way whole (record { runs = h.runs; ready = h.ready; equal = h.equal; other = h.other }) in
          let v = record u { ticks = u.ticks + 1 } in
          let two = g.quantum in
          let left : SleepPast (t.ticks + 2) u =
          subst (AllByRecursion (λ (e : ℕ × ℕ). t.ticks + 2 < e.1)) (sym g.sleepers)
          (all_filter (λ (e : ℕ × ℕ). t.ticks + 2 < e.1) (λ e. not (e.0 == first.0)) (entries_without t.current t.sleepers)
          (all_filter (λ (e : ℕ × ℕ). t.ticks + 2 < e.1) (λ e. not (e.0 == t.current)) t.sleepers past)) in
          ap (λ (x : Tables). x.current) (second u is g.ticks left ∙ stays_two v (omega arith)) ∙ g.current

-- The first of the ready list is another than the current process.
first_is_other : (first : ℕ × ℤ) (others : List (ℕ × ℤ)) (s : Xinu) → IsSound s → s.tables.ready ≡ first ∷ others → first.0 ≢ s.tables.current
first_is_other first others s k e f =
    let t = s.tables in
    let here : 0 < entries_of first.0 t.ready = subst (λ l. 0 < entries_of first.0 l) (sym e) (first_has_entry first others) in
    let places = k.tables.inside.ready first.0 in
    let is : state_at t first.0 ≡ Ready = ready_of (state_at t first.0) (omega arith) in
    let g = sym is ∙ ap (state_at t) f ∙ k.tables.runs in
    absurd (cc)

-- With two ticks it runs, if it is an equal.
pub quantum_ends : (first : ℕ × ℤ) (others : List (ℕ × ℤ)) (old mid new : Xinu) (one two : List TranscriptLine) → IsSound old
    → HasQuantum old.tables → old.tables.ready ≡ first ∷ others → first.1 ≡ (process_at old.tables old.tables.current).priority
    → AllByRecursion (λ (e : ℕ × ℕ). old.tables.ticks + 2 < e.1) old.tables.sleepers → Happens old Tick one mid → Happens mid Tick two new
    → (new.tables.current ≡ first.0) × (first.0 ≢ old.tables.current)
quantum_ends first others old mid new one two k few e equal past h i =
    let other = first_is_other first others old k e in
    let all : HasEqual first others old.tables = record { runs = k.tables.runs; ready = e; equal = equal; other = other } in (
      ap (λ (r : EventResult). r.state.tables.current) (sym i.effect)
          ∙ two_ticks first others old mid all few past (ap (λ (r : EventResult). r.state.tables) h.effect),
      other,
    )

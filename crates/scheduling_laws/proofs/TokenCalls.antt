-- What `wait`, `signal` and `signaln` do to the count of a process's semaphore.
use Rattle.std.proofs.Common.{◌≡◌, ◌≢◌, ℕ, zero, suc, ◌+◌, ◌-◌, ◌≤◌, ◌==◌, ◌&&◌, ◌||◌, Bool, true, false, not, cond, List, [], ◌∷◌, ◌++◌, length, drop, take, Option, Some, refl, sym, ap, subst, ◌∙◌, arith, ℤ, pos, negsuc, get_or-set_same}
use Rattle.std.specs.Prelude.{◌+ℤ◌, neg_ℤ, int_lt, slice_index}
use Rattle.std.proofs.lemmas.Bool.{and_right, cond_both, eq-eqb, true≢false}
use Rattle.std.proofs.lemmas.Int.{ints}
use Rattle.std.proofs.lemmas.List.{length-drop, take-append-drop}
use Rattle.xinu_base.specs.Constants.{OK}
use Rattle.xinu_base.specs.declared.syscalls.Call.{Call}
use Rattle.xinu_model.specs.Calls.{called}
use Rattle.xinu_model.specs.Footprints.{on_tables}
use Rattle.xinu_model.specs.Machine.{Xinu, CallResult, closed, refused, returns, start, unblock_all}
use Rattle.xinu_model.specs.Process.Scheduling.{ready, ready_all, resched}
use Rattle.xinu_model.specs.Semaphores.Calls.{signal, signaln, wait}
use Rattle.xinu_model.specs.Semaphores.Counts.{count_of, is_good, is_images, most_tokens}
use Rattle.xinu_model.specs.Semaphores.Waiting.{signalled, signalled_times}
use Rattle.std.proofs.Math.ListN.{length-set}
use Rattle.xinu_model.specs.Sound.State.{IsSound}
use Rattle.xinu_model.specs.Sound.Tables.{count_in, waiting_places, IsInside}
use Rattle.xinu_model.specs.Tables.{Semaphore, no_semaphore, Tables, is_free, numbers_without, semaphore_at, state_at}
use Rattle.xinu_model.specs.Words.{signed}
use Rattle.xinu_laws.specs.Touches.{reach, Touches}
use Rattle.table_laws.proofs.Lists.Counts.{get_or-le-total}
use Rattle.table_laws.proofs.Tables.Places.{semaphore_at_without}
use Rattle.table_laws.proofs.Tables.Signals.{others_wait}
use Rattle.table_laws.proofs.Tables.Unblock.{sound_signalled_times, unblock_all_ready, waiter_waits}
use Rattle.xinu_laws.proofs.Preserve.Calls.{called_keeps, inside_preserved}
use Rattle.xinu_laws.proofs.Preserve.Events.{may_call}
use Rattle.xinu_laws.proofs.Preserve.Semaphores.{good_semaphore}
use Rattle.xinu_laws.proofs.Touches.Events.{touches_closed}
use Rattle.xinu_laws.proofs.Touches.Semaphores.{signal_touches, signaln_touches, wait_touches}
use Rattle.xinu_base.specs.declared.processes.State.{State}
use Rattle.xinu_base.specs.declared.processes.State.TheVariants.{Waiting}
use Rattle.scheduling_laws.specs.Tokens.{dead_in, given, signals_by, waits_by}
use Rattle.scheduling_laws.proofs.Calling.{signalled_by, signals_by_many, waited_by}
use Rattle.scheduling_laws.proofs.Counts.{semaphore_resched, semaphore_signalled, semaphore_waited, signal_raises, signalled_to, taken, wait_lowers}
use Rattle.scheduling_laws.proofs.Tallies.{IsCounted, given_none, none_passes}

-- a call of a number
abbrev pub call_number : ℕ → List ℕ → Call
call_number number args = record { number = number; args = args }

-- one less
lowers : (new old : ℤ) (w n d : ℕ) → new ≡ old +ℤ neg_ℤ (pos 1) → w ≡ 1 → n ≡ 0 → d ≡ 0 → new +ℤ pos w ≡ old +ℤ pos (n + d)
lowers new old w n d a b c e = omega (arith, ints)

-- n more
raises : (new old : ℤ) (w n m d : ℕ) → new ≡ old +ℤ pos m → w ≡ 0 → n ≡ m → d ≡ 0 → new +ℤ pos w ≡ old +ℤ pos (n + d)
raises new old w n m d a b c e = omega (arith, ints)

-- none more
same_count : (a : ℤ) → a ≡ a +ℤ pos 0
same_count a = omega (arith, ints)

-- if the count is less than the greatest there is room for one more
room : (a b : ℤ) → int_lt a b ≡ true → int_lt b (a +ℤ pos 1) ≡ false
room a b h = grind (arith, ints)

no_room : (a b : ℤ) → int_lt a b ≡ false → int_lt b (a +ℤ pos 1) ≡ true
no_room a b h = grind (arith, ints)

-- in a call on semaphores nobody dies who waits
nobody_dies : (sem : ℕ) (s : Xinu) (h : CallResult) → IsSound s → IsInside h.call.state.tables → Touches (reach on_tables) s h.call.state
    → dead_in (closed h) (semaphore_at s.tables sem) ≡ 0
nobody_dies sem s h k o touches =
    none_passes (λ p. is_free (state_at (closed h) p)) (semaphore_at s.tables sem).waiters
    (λ p there.
    let waits = waiter_waits s.tables sem p k.tables.inside there in
    let last : Touches (reach on_tables) h.call.state (record h.call.state { tables = closed h }) = touches_closed h o in
    cond_both (is_free (state_at (closed h) p)) true false (λ _. is_free (state_at (closed h) p) ≡ false)
    (λ f. let g = (touches.free refl).was p ((last.free refl).was p f) in absurd (true≢false (sym g ∙ ap is_free waits))) (λ f. f))

-- what holds inside a call
call_inside : (number : ℕ) (args : List ℕ) (s : Xinu) (h : CallResult) → called number args s ≡ h → IsSound s → s.tables.current ≢ 0
    → IsInside h.call.state.tables
call_inside number args s h e k n =
    subst (λ (x : CallResult). IsInside x.call.state.tables) e
    (inside_preserved (called number args s) (called_keeps number args s (may_call s k n)).preserved)

-- the owner stays
owner_taken : (n p : ℕ) (x : Semaphore) → (taken n p x).owner ≡ x.owner
owner_taken zero p x = refl
owner_taken (suc n) p x = refl

owner_signalled : (l : List ℕ) (x : Semaphore) → (signalled_to l x).owner ≡ x.owner
owner_signalled [] x = refl
owner_signalled (p ∷ ps) x = refl

-- Call 18.
pub wait_counted : (sem : ℕ) (args : List ℕ) (s : Xinu) → IsSound s → s.tables.current ≢ 0 → is_good sem s.tables ≡ true
    → slice_index args 0 ≡ sem → IsCounted sem s.tables (Some (call_number 18 args)) (closed (called 18 args s))
wait_counted sem args s k n good f =
    let x = semaphore_at s.tables sem in
    let b = eq-eqb (slice_index args 0) sem f in
    let same : called 18 args s ≡ wait sem s = waited_by args s ∙ ap (λ r. wait r s) f in
    subst (λ (h : CallResult). IsCounted sem s.tables (Some (call_number 18 args)) (closed h)) (sym same)
    (record {
      good = ap (λ (y : Semaphore). is_images y.owner) (semaphore_waited sem s k n good)
          ∙ ap is_images (owner_taken x.tokens s.tables.current x) ∙ good;
      adds = lowers (count_of (semaphore_at (closed (wait sem s)) sem)) (count_of x) (waits_by sem (Some (call_number 18 args)))
          (signals_by sem (count_of x) (Some (call_number 18 args))) (dead_in (closed (wait sem s)) x) (wait_lowers sem s k n good)
          (ap (λ c. cond c 1 0) b) (ap (λ c. cond c (given (count_of x) (pos 0)) 0) b ∙ given_none (count_of x))
          (nobody_dies sem s (wait sem s) k (call_inside 18 args s (wait sem s) same k n) (wait_touches sem s k));
    })

-- what a signal that is refused comes to
refused_counted : (sem : ℕ) (s : Xinu) (made : Option Call) → IsSound s → is_good sem s.tables ≡ true → waits_by sem made ≡ 0
    → signals_by sem (count_of (semaphore_at s.tables sem)) made ≡ 0 → IsCounted sem s.tables made s.tables
refused_counted sem s made k good w z = record {
  good = good;
  adds = raises (count_of (semaphore_at s.tables sem)) (count_of (semaphore_at s.tables sem)) (waits_by sem made)
      (signals_by sem (count_of (semaphore_at s.tables sem)) made) 0 (dead_in s.tables (semaphore_at s.tables sem))
      (same_count (count_of (semaphore_at s.tables sem))) w z
      (none_passes (λ p. is_free (state_at s.tables p)) (semaphore_at s.tables sem).waiters
      (λ p there. ap is_free (waiter_waits s.tables sem p k.tables.inside there)));
}

-- Call 19.
pub signal_counted : (sem : ℕ) (args : List ℕ) (s : Xinu) → IsSound s → s.tables.current ≢ 0 → is_good sem s.tables ≡ true
    → slice_index args 0 ≡ sem → IsCounted sem s.tables (Some (call_number 19 args)) (closed (called 19 args s))
signal_counted sem args s k n good f =
    let x = semaphore_at s.tables sem in
    let made = Some (call_number 19 args) in
    let b = eq-eqb (slice_index args 0) sem f in
    let same : called 19 args s ≡ signal sem s = signalled_by args s ∙ ap (λ r. signal r s) f in
    let P = λ (h : CallResult). IsCounted sem s.tables made (closed h) in
    let asked = ap (λ c. cond c (given (count_of x) (pos 1)) 0) b in
    let least = int_lt (count_of x) most_tokens in
    subst P (sym same)
    (cond_both least true false (λ _. P (signal sem s))
    (λ less. record {
      good = ap (λ (y : Semaphore). is_images y.owner) (semaphore_signalled sem s k good less) ∙ ap is_images (owner_signalled x.waiters x) ∙ good;
      adds = raises (count_of (semaphore_at (closed (signal sem s)) sem)) (count_of x) (waits_by sem made) (signals_by sem (count_of x) made) 1
          (dead_in (closed (signal sem s)) x) (signal_raises sem s k good less) refl
          (asked ∙ ap (λ c. cond c 0 1) (room (count_of x) most_tokens less))
          (nobody_dies sem s (signal sem s) k (call_inside 19 args s (signal sem s) same k n) (signal_touches sem s k));
    })
    (λ most. cond_both (is_good sem s.tables && least) (returns (signalled sem (start s)) OK) (refused s) P
    (λ both. let g = ap (λ c. is_good sem s.tables && c) (sym most) in absurd (true≢false (sym both ∙ sym g ∙ and_right (is_good sem s.tables) false refl)))
    (λ _. refused_counted sem s made k good refl (asked ∙ ap (λ c. cond c 0 1) (no_room (count_of x) most_tokens most)))))

-- The first of those who wait are released: the others wait on.
waiters_after : (sem : ℕ) (ps others : List ℕ) (t : Tables) → (semaphore_at t sem).waiters ≡ ps ++ others
    → ((p : ℕ) → count_in p (ps ++ others) ≤ 1) → (semaphore_at (ready_all ps t) sem).waiters ≡ others
waiters_after sem [] others t e few = e
waiters_after sem (p ∷ ps) others t e few =
    let n = count_in p (ps ++ others) in
    let once : n ≡ 0 =
    (let f = few p in let g : count_in p (p ∷ ps ++ others) ≡ suc n = ap (λ b. cond b (suc n) n) (eq-eqb p p refl) in omega arith) in
    waiters_after sem ps others (ready p t)
    (ap (λ (x : Semaphore). x.waiters) (semaphore_at_without p sem t.semaphores) ∙ ap (numbers_without p) e ∙ others_wait p (ps ++ others) once)
    (λ q. let f = few q in let r = count_in q (ps ++ others) in
    cond_both (p == q) (suc r) r (λ c. c ≤ 1 → r ≤ 1) (λ _ h. omega arith) (λ _ h. h) f)

-- the owner of a semaphore stays as some become ready
owner_after : (sem : ℕ) (ps : List ℕ) (t : Tables) → (semaphore_at (ready_all ps t) sem).owner ≡ (semaphore_at t sem).owner
owner_after sem [] t = refl
owner_after sem (p ∷ ps) t =
    owner_after sem ps (ready p t) ∙ ap (λ (x : Semaphore). x.owner) (semaphore_at_without p sem t.semaphores)

-- nobody waits twice
waits_once : (t : Tables) (sem p : ℕ) → IsInside t → count_in p (semaphore_at t sem).waiters ≤ 1
waits_once t sem p o =
    let all = o.waiting p in
    let here = get_or-le-total (λ (y : Semaphore). count_in p y.waiters) t.semaphores sem no_semaphore refl in
    let most = at_most_one (state_at t p) in
    omega arith
  where
    at_most_one : (s : State) → waiting_places s ≤ 1
    at_most_one Waiting = omega arith
    at_most_one _ = omega arith

-- n signals add n
adds_many : (tokens all n after left : ℕ) → after ≡ tokens + (n - all) → left ≡ all - n
    → pos after +ℤ neg_ℤ (pos left) ≡ (pos tokens +ℤ neg_ℤ (pos all)) +ℤ pos n
adds_many tokens all n after left a b = omega (arith, ints)

-- the semaphore after n signals
many_signalled : (sem n : ℕ) (s : Xinu) → IsSound s → is_good sem s.tables ≡ true
    → ((semaphore_at (closed (returns (signalled_times sem n (start s)) OK)) sem).owner ≡ (semaphore_at s.tables sem).owner)
    × (count_of (semaphore_at (closed (returns (signalled_times sem n (start s)) OK)) sem) ≡ count_of (semaphore_at s.tables sem) +ℤ pos n)
many_signalled sem n s k good =
    let t = s.tables in
    let x = semaphore_at t sem in
    let g = good_semaphore t sem k.tables.inside good in
    let d = signalled_times sem n (start s) in
    let u = d.state.tables in
    let ps = take n x.waiters in
    let v = (unblock_all ps (start s)).state.tables in
    let tokens = x.tokens + (n - length x.waiters) in
    let o : IsInside u = (sound_signalled_times sem n (start s) k.tables g.within (λ e. let f = sym g.owner ∙ e in cc)).inside in
    let many : length v.semaphores ≡ 128 = sym (length-set v.semaphores sem (record (semaphore_at v sem) { tokens = tokens })) ∙ o.semaphores in
    let within = g.within in
    let here : semaphore_at u sem ≡ record (semaphore_at v sem) { tokens = tokens } =
    get_or-set_same v.semaphores sem (record (semaphore_at v sem) { tokens = tokens }) no_semaphore (omega arith) in
    let ready_now : v ≡ ready_all ps t = ap (λ (y : Xinu). y.tables) (unblock_all_ready ps (start s)) in
    let left : (semaphore_at v sem).waiters ≡ drop n x.waiters =
    ap (λ (z : Tables). (semaphore_at z sem).waiters) ready_now
    ∙ waiters_after sem ps (drop n x.waiters) t (sym (take-append-drop n x.waiters))
    (λ p. subst (λ l. count_in p l ≤ 1) (sym (take-append-drop n x.waiters)) (waits_once t sem p k.tables.inside)) in
    let same : semaphore_at (closed (returns d OK)) sem ≡ semaphore_at u sem =
    cond_both (d.owes_resched || false) (resched u) u (λ z. semaphore_at z sem ≡ semaphore_at u sem) (λ _. semaphore_resched u sem o) (λ _. refl) in
    let now = same ∙ here in (
      ap (λ (y : Semaphore). y.owner) now ∙ ap (λ (z : Tables). (semaphore_at z sem).owner) ready_now ∙ owner_after sem ps t,
      ap count_of now
          ∙ adds_many x.tokens (length x.waiters) n tokens (length (semaphore_at v sem).waiters) refl (ap length left ∙ length-drop n x.waiters),
    )

-- Call 20.
pub signaln_counted : (sem : ℕ) (args : List ℕ) (s : Xinu) → IsSound s → s.tables.current ≢ 0 → is_good sem s.tables ≡ true
    → slice_index args 0 ≡ sem → IsCounted sem s.tables (Some (call_number 20 args)) (closed (called 20 args s))
signaln_counted sem args s k n good f = by_count (signed (slice_index args 1)) refl
  where
    x : Semaphore
    x = semaphore_at s.tables sem

    made : Option Call
    made = Some (call_number 20 args)

    P : CallResult → Type 0
    P h = IsCounted sem s.tables made (closed h)

    asked : signals_by sem (count_of x) made ≡ given (count_of x) (signed (slice_index args 1))
    asked = ap (λ c. cond c (given (count_of x) (signed (slice_index args 1))) 0) (eq-eqb (slice_index args 0) sem f)

    is : (v : ℤ) → signed (slice_index args 1) ≡ v → called 20 args s ≡ signaln sem v s
    is v e = signals_by_many args s ∙ ap (λ r. signaln r (signed (slice_index args 1)) s) f ∙ ap (λ z. signaln sem z s) e

    by_count : (v : ℤ) → signed (slice_index args 1) ≡ v → P (called 20 args s)
    by_count (negsuc i) e =
        subst P (sym (is (negsuc i) e)) (refused_counted sem s made k good refl (asked ∙ ap (given (count_of x)) e))
    by_count (pos i) e =
        let full = int_lt most_tokens (count_of x +ℤ pos i) in
        let d = signalled_times sem i (start s) in
        let same = is (pos i) e in
        let many = many_signalled sem i s k good in
        let what : signals_by sem (count_of x) made ≡ cond full 0 i = asked ∙ ap (given (count_of x)) e in
        subst P (sym same)
        (cond_both (is_good sem s.tables && not full) (returns d OK) (refused s)
        (λ h. called 20 args s ≡ h → Touches (reach on_tables) s h.call.state → P h)
        (λ b eq touches. record {
          good = ap is_images many.0 ∙ good;
          adds = raises (count_of (semaphore_at (closed (returns d OK)) sem)) (count_of x) (waits_by sem made) (signals_by sem (count_of x) made) i
              (dead_in (closed (returns d OK)) x) many.1 refl (what ∙ ap (λ c. cond c 0 i) (fits (is_good sem s.tables) full b))
              (nobody_dies sem s (returns d OK) k (call_inside 20 args s (returns d OK) eq k n) touches);
        })
        (λ b eq touches. refused_counted sem s made k good refl (what ∙ ap (λ c. cond c 0 i) (is_full (is_good sem s.tables) full good b)))
        same (signaln_touches sem (pos i) s k))
      where
        fits : (a b : Bool) → a && not b ≡ true → b ≡ false
        fits true true h = cc
        fits true false h = refl
        fits false b h = cc

        is_full : (a b : Bool) → a ≡ true → a && not b ≡ false → b ≡ true
        is_full true true g h = refl
        is_full true false g h = cc
        is_full false b g h = cc

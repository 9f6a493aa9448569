-- An accepted wait lowers the count of its semaphore by one, and an accepted signal raises it by one.
use Rattle.std.proofs.Common.{◌≡◌, ◌≢◌, ℕ, zero, suc, ◌+◌, ◌<◌, ◌==◌, ◌&&◌, not, true, cond, List, [], ◌∷◌, ◌++◌, length, length-append, refl, sym, ap, subst, ◌∙◌, arith, pos, get_or-set_same, ◌||◌, false, Some}
use Rattle.std.specs.Prelude.{◌+ℤ◌, neg_ℤ, int_lt, slice_set}
use Rattle.std.proofs.lemmas.Bool.{and_from, cond_both, both_ways, eq-eqb, ne_eqb, or_from}
use Rattle.std.proofs.lemmas.Int.{ints}
use Rattle.xinu_base.specs.Constants.{OK}
use Rattle.xinu_base.specs.declared.processes.Rest.TheVariants.{Nothing}
use Rattle.xinu_base.specs.declared.processes.State.{State}
use Rattle.xinu_base.specs.declared.processes.State.TheVariants.{Waiting, Receiving, Timed, Sleeping, Suspended, Free, Current, Ready}
use Rattle.xinu_model.specs.Process.Death.{exit, killed}
use Rattle.xinu_model.specs.Process.Calls.{kill}
use Rattle.xinu_model.specs.Messages.{can_get, delivered, listens, sent}
use Rattle.xinu_model.specs.Machine.{Xinu, CallResult, closed, start, refused, returns, CallState, with_tables}
use Rattle.xinu_model.specs.Process.Scheduling.{in_state, ready, resched}
use Rattle.xinu_model.specs.Semaphores.Calls.{answers, signal, wait}
use Rattle.xinu_model.specs.Semaphores.Counts.{count_of, is_good, most_tokens}
use Rattle.xinu_model.specs.Semaphores.Waiting.{await, signal_first, signalled, take_token}
use Rattle.xinu_model.specs.Sound.Pools.{is_waiting}
use Rattle.xinu_model.specs.Sound.State.{IsSound}
use Rattle.xinu_model.specs.Sound.Tables.{count_in, waiting_places, FitsOwner, IsInside}
use Rattle.xinu_model.specs.Tables.{Semaphore, no_semaphore, Tables, process_at, state_at, message_at, semaphore_at, numbers_without, semaphore_without, InReady, InSemaphore, move_to, is_free}
use Rattle.table_laws.proofs.Tables.MoveTo.{within_table}
use Rattle.table_laws.proofs.Tables.Deaths.{inside_killed}
use Rattle.table_laws.proofs.Lists.Counts.{filter_absent, first_is_counted, get_or-le-total}
use Rattle.table_laws.proofs.Preserve.{blocked_preserves}
use Rattle.table_laws.proofs.Tables.Places.{semaphore_at_without}
use Rattle.table_laws.proofs.Tables.Scheduling.{inside_ready}
use Rattle.table_laws.proofs.Tables.Unblock.{can_be_ready_waiting, waiter_waits}
use Rattle.table_laws.specs.Preserve.{MayCall}
use Rattle.xinu_laws.proofs.Preserve.Semaphores.{good_semaphore}
use Rattle.table_laws.proofs.Frame.MoveTo.{owner_move, tokens_move}
use Rattle.table_laws.proofs.Tables.Signals.{others_wait}
use Rattle.xinu_laws.proofs.RawDisks.Moves.{waiter_added, waits_not_null}
use Rattle.scheduling_laws.proofs.Waiters.{not_waiting}
use Rattle.scheduling_laws.proofs.Resched.{by_resched}

-- one token less, or one waiter more
count_falls : (a b c d : ℕ) → c + b + 1 ≡ a + d → pos c +ℤ neg_ℤ (pos d) ≡ (pos a +ℤ neg_ℤ (pos b)) +ℤ neg_ℤ (pos 1)
count_falls a b c d e = omega (arith, ints)

-- one token more, or one waiter less
count_rises : (a b c d : ℕ) → c + b ≡ a + d + 1 → pos c +ℤ neg_ℤ (pos d) ≡ (pos a +ℤ neg_ℤ (pos b)) +ℤ pos 1
count_rises a b c d e = omega (arith, ints)

-- A process that doesn't wait leaves each semaphore as it is as it becomes ready or runs,
semaphore_left : (t : Tables) (sem q : ℕ) → IsInside t → waiting_places (state_at t q) ≡ 0
    → semaphore_without q (semaphore_at t sem) ≡ semaphore_at t sem
semaphore_left t sem q o idle =
    let x = semaphore_at t sem in
    ap (λ ws. record { owner = x.owner; tokens = x.tokens; waiters = ws })
    (filter_absent (λ w. w == q) x.waiters (not_waiting t q sem o idle))

-- and so does a resched.
pub semaphore_resched : (t : Tables) (sem : ℕ) → IsInside t → semaphore_at (resched t) sem ≡ semaphore_at t sem
semaphore_resched t sem o =
    by_resched (λ u. semaphore_at u sem ≡ semaphore_at t sem) t o refl
    (λ e. semaphore_at_without t.current sem t.semaphores ∙ semaphore_left t sem t.current o (ap waiting_places e))
    (λ u q i e k. semaphore_at_without q sem u.semaphores ∙ semaphore_left u sem q i (ap waiting_places e) ∙ k)

-- two semaphores with the same owner, tokens and waiters
semaphores_agree : (x y : Semaphore) → x.owner ≡ y.owner → x.tokens ≡ y.tokens → x.waiters ≡ y.waiters → x ≡ y
semaphores_agree x y owner tokens waiters =
    ap (λ o. record { owner = o; tokens = x.tokens; waiters = x.waiters }) owner
    ∙ ap (λ n. record { owner = y.owner; tokens = n; waiters = x.waiters }) tokens
    ∙ ap (λ l. record { owner = y.owner; tokens = y.tokens; waiters = l }) waiters

-- A semaphore after process p took one of these tokens, or waits for one.
abbrev pub taken : ℕ → ℕ → Semaphore → Semaphore
taken zero p x = record { owner = x.owner; tokens = x.tokens; waiters = x.waiters ++ p ∷ [] }
taken (suc n) p x = record { owner = x.owner; tokens = n; waiters = x.waiters }

-- its count
count_taken : (n p : ℕ) (x : Semaphore) → x.tokens ≡ n → count_of (taken n p x) ≡ count_of x +ℤ neg_ℤ (pos 1)
count_taken zero p x e =
    let many = length-append x.waiters (p ∷ []) in
    count_falls x.tokens (length x.waiters) x.tokens (length (x.waiters ++ p ∷ [])) (omega arith)
count_taken (suc n) p x e = count_falls x.tokens (length x.waiters) n (length x.waiters) (omega arith)

-- the semaphore after a wait, if these are the tokens
waited : (n sem : ℕ) (s : Xinu) → (semaphore_at s.tables sem).tokens ≡ n → IsSound s → s.tables.current ≢ 0 → is_good sem s.tables ≡ true
    → semaphore_at (closed (take_token n sem Nothing (answers OK) s)) sem ≡ taken n s.tables.current (semaphore_at s.tables sem)
waited zero sem s e k not_null good =
    let t = s.tables in
    let c = t.current in
    let g = good_semaphore t sem k.tables.inside good in
    let x = record (process_at t c) { state = Waiting; rest = Nothing } in
    let u = move_to c x (message_at t c) (InSemaphore sem) t in
    let may : MayCall s = record { tables = k.tables; harts = k.harts; not_null = not_null } in
    let o : IsInside u = (blocked_preserves Waiting Nothing (InSemaphore sem) s may (λ f. cc) (refl, refl, refl)
    (g.within, e, subst (λ by. FitsOwner sem by Nothing) (sym g.owner) refl) tt).tables in
    semaphore_resched u sem o
    ∙ semaphores_agree (semaphore_at u sem) (taken 0 c (semaphore_at t sem)) (owner_move t c x (message_at t c) (InSemaphore sem) sem)
    (tokens_move t c x (message_at t c) (InSemaphore sem) sem)
    (waiter_added t c x (message_at t c) sem g.within k.tables.inside (ap is_waiting k.tables.runs))
waited (suc n) sem s e k not_null good =
    let t = s.tables in
    let g = good_semaphore t sem k.tables.inside good in
    let many = k.tables.inside.semaphores in
    let within = g.within in
    get_or-set_same t.semaphores sem (record (semaphore_at t sem) { tokens = n }) no_semaphore (omega arith)

-- Call 18: the caller takes a token, or is the last of the waiters.
pub semaphore_waited : (sem : ℕ) (s : Xinu) → IsSound s → s.tables.current ≢ 0 → is_good sem s.tables ≡ true
    → semaphore_at (closed (wait sem s)) sem ≡ taken (semaphore_at s.tables sem).tokens s.tables.current (semaphore_at s.tables sem)
semaphore_waited sem s k not_null good =
    let x = semaphore_at s.tables sem in
    cond_both (is_good sem s.tables) (await sem Nothing (answers OK) s) (refused s)
    (λ (h : CallResult). semaphore_at (closed h) sem ≡ taken x.tokens s.tables.current x)
    (λ b. waited x.tokens sem s refl k not_null good) (λ b. absurd (both_ways (is_good sem s.tables) b good))

pub wait_lowers : (sem : ℕ) (s : Xinu) → IsSound s → s.tables.current ≢ 0 → is_good sem s.tables ≡ true
    → count_of (semaphore_at (closed (wait sem s)) sem) ≡ count_of (semaphore_at s.tables sem) +ℤ neg_ℤ (pos 1)
wait_lowers sem s k not_null good =
    let x = semaphore_at s.tables sem in
    ap count_of (semaphore_waited sem s k not_null good) ∙ count_taken x.tokens s.tables.current x refl

-- A semaphore of these waiters after a signal: the first is released, or there is a token more.
abbrev pub signalled_to : List ℕ → Semaphore → Semaphore
signalled_to [] x = record { owner = x.owner; tokens = x.tokens + 1; waiters = x.waiters }
signalled_to (p ∷ ps) x = record { owner = x.owner; tokens = x.tokens; waiters = ps }

-- its count
count_signalled : (l : List ℕ) (x : Semaphore) → x.waiters ≡ l → count_of (signalled_to l x) ≡ count_of x +ℤ pos 1
count_signalled [] x e = count_rises x.tokens (length x.waiters) (x.tokens + 1) (length x.waiters) (omega arith)
count_signalled (p ∷ ps) x e = let many = ap length e in count_rises x.tokens (length x.waiters) x.tokens (length ps) (omega arith)

-- the semaphore after a signal, if these wait
signalled_first : (l : List ℕ) (sem : ℕ) (s : Xinu) → (semaphore_at s.tables sem).waiters ≡ l → IsSound s → is_good sem s.tables ≡ true
    → semaphore_at (closed (returns (signal_first sem l (start s)) OK)) sem ≡ signalled_to l (semaphore_at s.tables sem)
signalled_first [] sem s e k good =
    let t = s.tables in
    let x = semaphore_at t sem in
    let g = good_semaphore t sem k.tables.inside good in
    let many = k.tables.inside.semaphores in
    let within = g.within in
    get_or-set_same t.semaphores sem (record x { tokens = x.tokens + 1 }) no_semaphore (omega arith)
signalled_first (p ∷ ps) sem s e k good =
    let t = s.tables in
    let o = k.tables.inside in
    let x = semaphore_at t sem in
    let u = ready p t in
    let here : 0 < count_in p x.waiters = subst (λ l. 0 < count_in p l) (sym e) (first_is_counted p ps) in
    let waits = waiter_waits t sem p o here in
    let i : IsInside u = inside_ready t p o (can_be_ready_waiting t p o waits) in
    let once : count_in p ps ≡ 0 =
    (let a = o.waiting p in
    let b : waiting_places (state_at t p) ≡ 1 = ap waiting_places waits in
    let c = get_or-le-total (λ (y : Semaphore). count_in p y.waiters) t.semaphores sem no_semaphore refl in
    let f : count_in p x.waiters ≡ suc (count_in p ps) =
    ap (count_in p) e ∙ ap (λ b. cond b (suc (count_in p ps)) (count_in p ps)) (eq-eqb p p refl) in
    omega arith) in
    semaphore_resched u sem i ∙ semaphore_at_without p sem t.semaphores
    ∙ ap (λ l. record { owner = x.owner; tokens = x.tokens; waiters = l }) (ap (numbers_without p) e ∙ others_wait p ps once)

-- Call 19: an accepted one releases the first waiter, or adds a token.
pub semaphore_signalled : (sem : ℕ) (s : Xinu) → IsSound s → is_good sem s.tables ≡ true
    → int_lt (count_of (semaphore_at s.tables sem)) most_tokens ≡ true
    → semaphore_at (closed (signal sem s)) sem ≡ signalled_to (semaphore_at s.tables sem).waiters (semaphore_at s.tables sem)
semaphore_signalled sem s k good less =
    let x = semaphore_at s.tables sem in
    let may = is_good sem s.tables && int_lt (count_of x) most_tokens in
    cond_both may (returns (signalled sem (start s)) OK) (refused s)
    (λ (h : CallResult). semaphore_at (closed h) sem ≡ signalled_to x.waiters x)
    (λ b. signalled_first x.waiters sem s refl k good)
    (λ b. absurd (both_ways may b (and_from (is_good sem s.tables) (int_lt (count_of x) most_tokens) good less)))

pub signal_raises : (sem : ℕ) (s : Xinu) → IsSound s → is_good sem s.tables ≡ true
    → int_lt (count_of (semaphore_at s.tables sem)) most_tokens ≡ true
    → count_of (semaphore_at (closed (signal sem s)) sem) ≡ count_of (semaphore_at s.tables sem) +ℤ pos 1
signal_raises sem s k good less =
    let x = semaphore_at s.tables sem in ap count_of (semaphore_signalled sem s k good less) ∙ count_signalled x.waiters x refl

-- a list is as long as what it has of p and what it has besides
length_without : (p : ℕ) (l : List ℕ) → length l ≡ count_in p l + length (numbers_without p l)
length_without p [] = refl
length_without p (x ∷ xs) =
    let n = count_in p xs in
    let others = numbers_without p xs in
    let e = length_without p xs in
    cond_both (x == p) (suc n) n (λ c. suc (length xs) ≡ c + length (numbers_without p (x ∷ xs)))
    (λ b. subst (λ a. suc (length xs) ≡ suc n + length (cond (not a) (x ∷ others) others)) (sym b) (omega arith))
    (λ b. subst (λ a. suc (length xs) ≡ n + length (cond (not a) (x ∷ others) others)) (sym b) (omega arith))

-- a message leaves each semaphore as it is
semaphore_sent : (q m sem : ℕ) (d : CallState) → IsInside d.state.tables
    → semaphore_at (sent q m d).state.tables sem ≡ semaphore_at d.state.tables sem
semaphore_sent q m sem d o =
    let t = d.state.tables in
    cond_both (can_get q t) (delivered q m d) d (λ e. semaphore_at e.state.tables sem ≡ semaphore_at t sem)
    (λ _. cond_both (listens (state_at t q))
    (record (with_tables (move_to q (in_state Ready (process_at t q)) (Some m) InReady t) d) { owes_resched = true })
    (with_tables (record t { messages = slice_set t.messages q (Some m) }) d) (λ e. semaphore_at e.state.tables sem ≡ semaphore_at t sem)
    (λ b. semaphore_at_without q sem t.semaphores ∙ semaphore_left t sem q o (no_place (state_at t q) b)) (λ _. refl))
    (λ _. refl)
  where
    no_place : (s : State) → listens s ≡ true → waiting_places s ≡ 0
    no_place Receiving b = refl
    no_place Timed b = refl
    no_place Free b = cc
    no_place Current b = cc
    no_place Ready b = cc
    no_place Sleeping b = cc
    no_place Suspended b = cc
    no_place Waiting b = cc

-- A waiter is killed.
killed_count : (sem p : ℕ) (s : Xinu) → IsSound s → 0 < count_in p (semaphore_at s.tables sem).waiters
    → count_of (semaphore_at (closed (returns (killed p (start s)) OK)) sem) ≡ count_of (semaphore_at s.tables sem) +ℤ pos 1
killed_count sem p s k here =
    let t = s.tables in
    let o = k.tables.inside in
    let x = semaphore_at t sem in
    let d = killed p (start s) in
    let u = d.state.tables in
    let told = (sent (process_at t p).parent p (start s)).state.tables in
    let waits = waiter_waits t sem p o here in
    let within = within_table t p o.processes (λ f. let g = sym waits ∙ f in cc) in
    let i : IsInside u = inside_killed p (start s) o within (waits_not_null t p o waits) in
    let after : semaphore_at u sem ≡ semaphore_without p x =
    semaphore_at_without p sem told.semaphores ∙ ap (semaphore_without p) (semaphore_sent (process_at t p).parent p sem (start s) o) in
    let all = o.waiting p in
    let one : waiting_places (state_at t p) ≡ 1 = ap waiting_places waits in
    let few = get_or-le-total (λ (y : Semaphore). count_in p y.waiters) t.semaphores sem no_semaphore refl in
    let sum = length_without p x.waiters in
    let same : semaphore_at (closed (returns d OK)) sem ≡ semaphore_at u sem =
    cond_both (d.owes_resched || false) (resched u) u (λ v. semaphore_at v sem ≡ semaphore_at u sem) (λ _. semaphore_resched u sem i) (λ _. refl) in
    ap count_of (same ∙ after) ∙ count_rises x.tokens (length x.waiters) x.tokens (length (numbers_without p x.waiters)) (omega arith)

-- Call 5.
pub kill_raises : (sem p : ℕ) (s : Xinu) → IsSound s → 0 < count_in p (semaphore_at s.tables sem).waiters
    → count_of (semaphore_at (closed (kill p s)) sem) ≡ count_of (semaphore_at s.tables sem) +ℤ pos 1
kill_raises sem p s k here =
    let t = s.tables in
    let waits = waiter_waits t sem p k.tables.inside here in
    let no_one = (p == 0) || is_free (state_at t p) in
    let dies = returns (killed p (start s)) OK in
    let P : CallResult → Type 0 = λ h. count_of (semaphore_at (closed h) sem) ≡ count_of (semaphore_at t sem) +ℤ pos 1 in
    let alive : no_one ≡ false =
    or_from (p == 0) (is_free (state_at t p)) (ne_eqb p 0 (waits_not_null t p k.tables.inside waits)) (ap is_free waits) in
    let other : (p == t.current) ≡ false = ne_eqb p t.current (λ e. let g = sym waits ∙ ap (state_at t) e ∙ k.tables.runs in cc) in
    cond_both no_one (refused s) (cond (p == t.current) (exit s) dies) P (λ b. absurd (both_ways no_one alive b))
    (λ _. cond_both (p == t.current) (exit s) dies P (λ b. absurd (both_ways (p == t.current) other b)) (λ _. killed_count sem p s k here))

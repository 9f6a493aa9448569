-- So many signals at once are that many, one after another.
use Rattle.std.proofs.Common.{◌≡◌, ◌≢◌, ℕ, zero, suc, ◌+◌, ◌-◌, ◌<◌, ◌≤◌, ◌==◌, not, cond, List, [], ◌∷◌, length, take, set, refl, sym, ap, ◌∙◌, arith, ⊎_elim, get_or-set_same, Option, None, Some}
use Rattle.std.proofs.Math.ListN.{length-set}
use Rattle.std.proofs.lemmas.Bool.{cases_lt, eq-eqb}
use Rattle.std.proofs.lemmas.List.{get_or_past, set_past, set-get_or, take_all}
use Rattle.xinu_base.specs.declared.processes.State.{State}
use Rattle.xinu_base.specs.declared.processes.State.TheVariants.{Waiting}
use Rattle.xinu_base.specs.declared.semaphores.Owner.{Owner}
use Rattle.xinu_model.specs.Machine.{CallState, with_tables, unblock, unblock_all}
use Rattle.xinu_model.specs.Semaphores.Counts.{with_tokens}
use Rattle.xinu_model.specs.Semaphores.Waiting.{signal_first, signalled, signalled_times}
use Rattle.table_laws.proofs.Lists.Maps.{set_twice}
use Rattle.table_laws.specs.Repeated.{repeated}
use Rattle.xinu_model.specs.Sound.Tables.{count_in, waiting_places, IsInside}
use Rattle.xinu_model.specs.Tables.{Semaphore, no_semaphore, Tables, state_at, semaphore_at, numbers_without, semaphore_without}
use Rattle.table_laws.proofs.Lists.Counts.{filter_absent, get_or-le-total}
use Rattle.table_laws.proofs.Tables.Places.{semaphore_at_without}
use Rattle.table_laws.proofs.Tables.Changes.{free_has_no_waiters}
use Rattle.table_laws.proofs.Tables.Owners.{owner_signalled}
use Rattle.table_laws.proofs.Tables.Unblock.{inside_signalled}

-- n signals of semaphore s, which is of these waiters and tokens
abbrev pub signals_of : ℕ → ℕ → List ℕ → ℕ → CallState → CallState
signals_of s n waiters tokens d =
    let after = unblock_all (take n waiters) d in with_tables (with_tokens s (tokens + (n - length waiters)) after.state.tables) after

-- many signals are those of the semaphore as it is
signals_at : (sem n : ℕ) (d : CallState) (x : Semaphore) → semaphore_at d.state.tables sem ≡ x
    → signalled_times sem n d ≡ signals_of sem n x.waiters x.tokens d
signals_at sem n d x e = ap (λ (y : Semaphore). signals_of sem n y.waiters y.tokens d) e

-- if nobody waits they are as many tokens
signals_to_none : (sem n tokens : ℕ) (d : CallState)
    → signals_of sem n [] tokens d ≡ with_tables (with_tokens sem (tokens + (n - 0)) d.state.tables) d
signals_to_none sem n tokens d =
    ap (λ ps. let after = unblock_all ps d in with_tables (with_tokens sem (tokens + (n - 0)) after.state.tables) after)
    (take_all {A = ℕ} n [] (omega arith))

-- a number of places is at most one
pub at_most_one : (s : State) → waiting_places s ≤ 1
at_most_one Waiting = omega arith
at_most_one _ = omega arith

-- who waits first doesn't wait after
first_waits_once : (t : Tables) (sem p : ℕ) (ps : List ℕ) → IsInside t → (semaphore_at t sem).waiters ≡ p ∷ ps → count_in p ps ≡ 0
first_waits_once t sem p ps o e =
    let l = get_or-le-total (λ x. count_in p x.waiters) t.semaphores sem no_semaphore refl in
    let m = at_most_one (state_at t p) in
    let w = o.waiting p in
    let f : count_in p (semaphore_at t sem).waiters ≡ suc (count_in p ps) = ap (count_in p) e
    ∙ ap (λ b. cond b (suc (count_in p ps)) (count_in p ps)) (eq-eqb p p refl) in
    omega arith

-- the others wait once the first is released
pub others_wait : (p : ℕ) (ps : List ℕ) → count_in p ps ≡ 0 → numbers_without p (p ∷ ps) ≡ ps
others_wait p ps z =
    ap (λ b. cond (not b) (p ∷ numbers_without p ps) (numbers_without p ps)) (eq-eqb p p refl) ∙ filter_absent (λ x. x == p) ps z

-- no signal changes nothing
no_signal : (sem : ℕ) (d : CallState) → signalled_times sem 0 d ≡ d
no_signal sem d =
    let t = d.state.tables in
    let x = semaphore_at t sem in
    let e : x.tokens + (0 - length x.waiters) ≡ x.tokens = omega arith in
    ap (λ n. with_tables (with_tokens sem n t) d) e
    ∙ ap (λ l. with_tables (record t { semaphores = l }) d) (set-get_or t.semaphores sem no_semaphore)

-- one signal and then n are n + 1, if one waits
signals_released : (sem n p : ℕ) (ps : List ℕ) (d : CallState) → IsInside d.state.tables
    → (semaphore_at d.state.tables sem).waiters ≡ p ∷ ps → signalled_times sem (suc n) d ≡ signalled_times sem n (unblock p d)
signals_released sem n p ps d o e =
    let t = d.state.tables in
    let x = semaphore_at t sem in
    let left : numbers_without p x.waiters ≡ ps = ap (numbers_without p) e ∙ others_wait p ps (first_waits_once t sem p ps o e) in
    let g : suc n - suc (length ps) ≡ n - length ps = omega arith in
    ap (λ w. signals_of sem (suc n) w x.tokens d) e
    ∙ ap (λ k. let after = unblock_all (take n ps) (unblock p d) in with_tables (with_tokens sem (x.tokens + k) after.state.tables) after) g
    ∙ sym (ap (λ w. signals_of sem n w x.tokens (unblock p d)) left)
    ∙ sym (signals_at sem n (unblock p d) (semaphore_without p x) (semaphore_at_without p sem t.semaphores))

-- and if nobody waits
signals_counted : (sem n : ℕ) (d : CallState) → length d.state.tables.semaphores ≡ 128 → sem < 128
    → (semaphore_at d.state.tables sem).waiters ≡ []
    → signalled_times sem (suc n) d ≡ signalled_times sem n (with_tables (with_tokens sem ((semaphore_at d.state.tables sem).tokens + 1) d.state.tables) d)
signals_counted sem n d many w e =
    let t = d.state.tables in
    let x = semaphore_at t sem in
    let y : Semaphore = record x { tokens = x.tokens + 1 } in
    let u = with_tokens sem (x.tokens + 1) t in
    let here : semaphore_at u sem ≡ y = get_or-set_same t.semaphores sem y no_semaphore (omega arith) in
    let sum : x.tokens + (suc n - 0) ≡ x.tokens + 1 + (n - 0) = omega arith in
    let tokens = x.tokens + 1 + (n - 0) in
    ap (λ l. signals_of sem (suc n) l x.tokens d) e
    ∙ signals_to_none sem (suc n) x.tokens d
    ∙ ap (λ k. with_tables (with_tokens sem k t) d) sum
    ∙ sym (ap (λ l. with_tables (record t { semaphores = l }) d) (set_twice t.semaphores sem y (record x { tokens = tokens })))
    ∙ sym (ap (λ (z : Semaphore). with_tables (record u { semaphores = set u.semaphores sem (record z { tokens = tokens }) }) d) here)
    ∙ sym (signals_to_none sem n (x.tokens + 1) (with_tables u d))
    ∙ sym (ap (λ l. signals_of sem n l (x.tokens + 1) (with_tables u d)) e)
    ∙ sym (signals_at sem n (with_tables u d) y here)

-- One signal and then n are n + 1.
one_more_signal : (sem n : ℕ) (d : CallState) (waiters : List ℕ) → waiters ≡ (semaphore_at d.state.tables sem).waiters
    → IsInside d.state.tables → sem < 128 → signalled_times sem (suc n) d ≡ signalled_times sem n (signal_first sem waiters d)
one_more_signal sem n d [] e o w = signals_counted sem n d o.semaphores w (sym e)
one_more_signal sem n d (p ∷ ps) e o w = signals_released sem n p ps d o (sym e)

-- the same of a semaphore of the table
signals_within : (n sem : ℕ) (d : CallState) → IsInside d.state.tables → sem < 128 → (semaphore_at d.state.tables sem).owner ≢ None
    → signalled_times sem n d ≡ repeated n (signalled sem) d
signals_within zero sem d o w used = no_signal sem d
signals_within (suc n) sem d o w used =
    one_more_signal sem n d (semaphore_at d.state.tables sem).waiters refl o w
    ∙ signals_within n sem (signalled sem d) (inside_signalled sem d o w used) w (λ e. used (sym (owner_signalled sem d sem) ∙ e))

-- and of one that isn't in use: nobody waits on it
signals_unused : (n sem : ℕ) (d : CallState) → length d.state.tables.semaphores ≡ 128 → sem < 128
    → (semaphore_at d.state.tables sem).waiters ≡ [] → signalled_times sem n d ≡ repeated n (signalled sem) d
signals_unused zero sem d many w e = no_signal sem d
signals_unused (suc n) sem d many w e =
    let t = d.state.tables in
    let y : Semaphore = record (semaphore_at t sem) { tokens = (semaphore_at t sem).tokens + 1 } in
    let u = with_tables (with_tokens sem ((semaphore_at t sem).tokens + 1) t) d in
    let one : signalled sem d ≡ u = ap (λ l. signal_first sem l d) e in
    let same : (semaphore_at u.state.tables sem).waiters ≡ [] = ap (λ (x : Semaphore). x.waiters)
    (get_or-set_same t.semaphores sem y no_semaphore (omega arith)) ∙ e in
    signals_counted sem n d many w e ∙ signals_unused n sem u (length-set t.semaphores sem y ∙ many) w same
    ∙ sym (ap (repeated n (signalled sem)) one)

-- a signal of a number past the table changes nothing
signal_past : (sem : ℕ) (d : CallState) → length d.state.tables.semaphores ≡ 128 → 128 ≤ sem → signalled sem d ≡ d
signal_past sem d many h =
    let t = d.state.tables in
    ap (λ (x : Semaphore). signal_first sem x.waiters d) (get_or_past t.semaphores sem no_semaphore (omega arith))
    ∙ ap (λ l. with_tables (record t { semaphores = l }) d)
    (set_past t.semaphores sem (record (semaphore_at t sem) { tokens = (semaphore_at t sem).tokens + 1 }) (omega arith))

-- and so do many
signals_past : (n sem : ℕ) (d : CallState) → length d.state.tables.semaphores ≡ 128 → 128 ≤ sem → d ≡ repeated n (signalled sem) d
signals_past zero sem d many h = refl
signals_past (suc n) sem d many h = signals_past n sem d many h ∙ sym (ap (repeated n (signalled sem)) (signal_past sem d many h))

-- many at once of a number past the table change nothing
many_past : (n sem : ℕ) (d : CallState) → length d.state.tables.semaphores ≡ 128 → 128 ≤ sem → signalled_times sem n d ≡ d
many_past n sem d many h =
    let t = d.state.tables in
    signals_at sem n d no_semaphore (get_or_past t.semaphores sem no_semaphore (omega arith))
    ∙ signals_to_none sem n 0 d
    ∙ ap (λ l. with_tables (record t { semaphores = l }) d)
    (set_past t.semaphores sem (record (semaphore_at t sem) { tokens = 0 + (n - 0) }) (omega arith))

-- So many signals at once are that many signals, one after another, if what holds of the tables at each moment holds.
pub signals_are_repeated : (sem n : ℕ) (d : CallState) → IsInside d.state.tables → signalled_times sem n d ≡ repeated n (signalled sem) d
signals_are_repeated sem n d o =
    ⊎_elim (λ (h : sem < 128). in_use (semaphore_at d.state.tables sem).owner refl h)
    (λ (h : 128 ≤ sem). many_past n sem d o.semaphores h ∙ signals_past n sem d o.semaphores h) (cases_lt sem 128)
  where
    in_use : (by : Option Owner) → (semaphore_at d.state.tables sem).owner ≡ by → sem < 128
        → signalled_times sem n d ≡ repeated n (signalled sem) d
    in_use None e h = signals_unused n sem d o.semaphores h (free_has_no_waiters d.state.tables sem o e)
    in_use (Some owner) e h = signals_within n sem d o h (λ f. cc)

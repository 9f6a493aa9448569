-- The calls on semaphores by which processes are released.
use Rattle.std.proofs.Common.{◌≡◌, ◌∙◌, ◌+◌, ◌-◌, ℕ, true, false, cond, ◌&&◌, not, ℤ, pos, negsuc, ◌+ℤ◌, int_lt, List, [], ◌∷◌, length, take, refl, sym, ap, subst, arith, ◌≤ℤ◌}
use Rattle.std.proofs.lemmas.Int.{ints}
use Rattle.semaphores.specs.Counts.{tokens_of}
use Rattle.semaphores.specs.Signals.{signal_answer}
use Rattle.semaphores.specs.declared.waiting.Signalled.TheVariants.{Released}
use Rattle.xinu_base.specs.Constants.{OK, SYSERR}
use Rattle.xinu_model.specs.Machine.{CallState, refused, returns, start, with_tables, Xinu}
use Rattle.xinu_model.specs.Process.Scheduling.{ready, ready_all}
use Rattle.xinu_model.specs.Semaphores.Calls.{semdelete, semreset, signal, signaln}
use Rattle.xinu_model.specs.Semaphores.Counts.{count_of, is_good, most_tokens, with_semaphore, with_tokens}
use Rattle.xinu_model.specs.Semaphores.Waiting.{emptied_with, signal_first, signalled_times}
use Rattle.xinu_model.specs.Tables.{no_semaphore, semaphore_at, Tables}
use Rattle.kernel_state.proofs.Together.{released_first, released_then, releasing}
use Rattle.kernel_tables.proofs.Rests.{rests_ready, SameRests}
use Rattle.kernel_tables.proofs.Waiters.{rests_written}

-- tables that are equal have the same rests
same_as : (t u v : Tables) → u ≡ v → SameRests t v → SameRests t u
same_as t u v e r = subst (SameRests t) (sym e) r

-- call 15
pub semdelete_is : (s : Xinu) (sem word : ℕ) (released : List ℕ) (u : Tables) → sem ≡ word → is_good sem s.tables ≡ true
    → released ≡ (semaphore_at s.tables sem).waiters
    → u ≡ with_semaphore sem no_semaphore (ready_all (semaphore_at s.tables sem).waiters s.tables)
    → returns (releasing SYSERR released u s) OK ≡ semdelete word s
semdelete_is s sem word released u named good these is =
    let t = s.tables in
    let ps = (semaphore_at t sem).waiters in
    let D : ℕ → CallState = λ sem. (let d = emptied_with SYSERR sem (start s) in with_tables
    (with_semaphore sem no_semaphore d.state.tables) d) in
    ap (λ d. returns d OK) (released_then SYSERR ps released s (with_semaphore sem no_semaphore) u these is
    (same_as t u _ is (rests_written t ps sem no_semaphore)))
    ∙ sym (ap (λ b. cond b (returns (D sem) OK) (refused s)) good)
    ∙ ap (λ n. semdelete n s) named

-- call 16
pub semreset_is : (s : Xinu) (sem word n : ℕ) (released : List ℕ) (u : Tables) → sem ≡ word → is_good sem s.tables ≡ true
    → released ≡ (semaphore_at s.tables sem).waiters
    → u ≡ with_tokens sem n (ready_all (semaphore_at s.tables sem).waiters s.tables)
    → returns (releasing OK released u s) OK ≡ semreset word (pos n) s
semreset_is s sem word n released u named good these is =
    let t = s.tables in
    let ps = (semaphore_at t sem).waiters in
    let D : ℕ → CallState = λ sem. (let d = emptied_with OK sem (start s) in with_tables (with_tokens sem n d.state.tables) d) in
    ap (λ d. returns d OK) (released_then OK ps released s (with_tokens sem n) u these is (same_as t u _ is (rests_written t ps sem _)))
    ∙ sym (ap (λ b. cond b (returns (D sem) OK) (refused s)) good)
    ∙ ap (λ k. semreset k (pos n) s) named

-- call 20
pub signaln_is : (s : Xinu) (sem word n : ℕ) (released : List ℕ) (u : Tables) → sem ≡ word → is_good sem s.tables ≡ true
    → not (int_lt most_tokens (count_of (semaphore_at s.tables sem) +ℤ pos n)) ≡ true
    → released ≡ take n (semaphore_at s.tables sem).waiters
    → u ≡ (let x = semaphore_at s.tables sem in with_tokens sem (x.tokens + (n - length x.waiters)) (ready_all (take n x.waiters) s.tables))
    → returns (releasing OK released u s) OK ≡ signaln word (pos n) s
signaln_is s sem word n released u named good room these is =
    let t = s.tables in
    let x = semaphore_at t sem in
    let ps = take n x.waiters in
    let k = x.tokens + (n - length x.waiters) in
    ap (λ d. returns d OK) (released_then OK ps released s (with_tokens sem k) u these is (same_as t u _ is (rests_written t ps sem _)))
    ∙ sym (ap (λ b. cond (b && not (int_lt most_tokens (count_of x +ℤ pos n))) (returns (signalled_times sem n (start s)) OK)
    (refused s)) good
    ∙ ap (λ b. cond b (returns (signalled_times sem n (start s)) OK) (refused s)) room)
    ∙ ap (λ k. signaln k (pos n) s) named

-- call 19
pub signal_releases : (s : Xinu) (sem word p : ℕ) (u : Tables) → sem ≡ word → is_good sem s.tables ≡ true
    → Released p ≡ signal_answer (semaphore_at s.tables sem)
    → u ≡ ready p s.tables → returns (releasing OK (p ∷ []) u s) OK ≡ signal word s
signal_releases s sem word p u named good answer is =
    let t = s.tables in
    let x = semaphore_at t sem in
    let f = released_first x p answer in
    ap (λ d. returns d OK) (released_then OK (p ∷ []) (p ∷ []) s (λ v. v) u refl is (same_as t u _ is (rests_ready t p)))
    ∙ sym (ap (λ l. returns (signal_first sem l (start s)) OK) f.first)
    ∙ sym (ap (λ b. cond (b && int_lt (count_of x) most_tokens) (returns (signal_first sem x.waiters (start s)) OK) (refused s)) good
    ∙ ap (λ b. cond b (returns (signal_first sem x.waiters (start s)) OK) (refused s)) f.below)
    ∙ ap (λ k. signal k s) named

-- call 16 with a count that isn't negative
pub semreset_counts : (s : Xinu) (sem word : ℕ) (count : ℤ) (released : List ℕ) (u : Tables) → pos 0 ≤ℤ count → sem ≡ word
    → is_good sem s.tables ≡ true → released ≡ (semaphore_at s.tables sem).waiters
    → u ≡ with_tokens sem (tokens_of count) (ready_all (semaphore_at s.tables sem).waiters s.tables)
    → returns (releasing OK released u s) OK ≡ semreset word count s
semreset_counts s sem word (pos n) released u le named good these is = semreset_is s sem word n released u named good these is
semreset_counts s sem word (negsuc n) released u le named good these is = absurd (omega (arith, ints, le))

-- a number that passes the test isn't negative
pub at_least_zero : (z : ℤ) → int_lt z (pos 0) ≡ false → pos 0 ≤ℤ z
at_least_zero (pos n) h = omega (arith, ints)
at_least_zero (negsuc n) h = absurd (cc)

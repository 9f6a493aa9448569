-- What it means that no address is claimed twice: stacks, pools and free cells share nothing, and the heap takes back each stack.
use Rattle.std.proofs.Common.{◌≡◌, ◌≢◌, ℕ, zero, suc, ◌+◌, ◌≤◌, Bool, true, false, List, [], ◌∷◌, get_or, refl, ap, arith}
use Rattle.std.proofs.lemmas.Bool.{false_from_ne_true}
use Rattle.event_laws.specs.Ownership.Apart.{is_in_pool, is_in_stack, IsApart}
use Rattle.part_laws.specs.FreeCells.{is_in_free}
use Rattle.xinu_model.specs.Machine.{Xinu}
use Rattle.xinu_model.specs.Pools.Buffers.{no_pool, pool_at}
use Rattle.xinu_model.specs.Sound.Tables.{times}
use Rattle.xinu_model.specs.Tables.{no_process, process_at}
use Rattle.event_laws.proofs.Ownership.Claims.{empty_stack, pool_parts}
use Rattle.table_laws.proofs.Lists.Maps.{one, times_first}

-- an element that passes a test is counted
pub times_at : {A : Type 0} (test : A → Bool) (l : List A) (i : ℕ) (d : A) → test d ≡ false → one (test (get_or l i d)) ≤ times test l
times_at test [] i d e = let none = ap one e in omega arith
times_at test (x ∷ l) zero d e = let first = times_first test x l in omega arith
times_at test (x ∷ l) (suc i) d e =
    let first = times_first test x l in
    let more = times_at test l i d e in
    omega arith

-- and so are two
pub times_two : {A : Type 0} (test : A → Bool) (l : List A) (i j : ℕ) (d : A) → test d ≡ false → i ≢ j
    → one (test (get_or l i d)) + one (test (get_or l j d)) ≤ times test l
times_two test [] i j d e n = let none = ap one e in omega arith
times_two test (x ∷ l) zero zero d e n = absurd (n refl)
times_two test (x ∷ l) zero (suc j) d e n =
    let first = times_first test x l in
    let more = times_at test l j d e in
    omega arith
times_two test (x ∷ l) (suc i) zero d e n =
    let first = times_first test x l in
    let more = times_at test l i d e in
    omega arith
times_two test (x ∷ l) (suc i) (suc j) d e n =
    let first = times_first test x l in
    let more = times_two test l i j d e (λ s. n (ap suc s)) in
    omega arith

-- no address is in a pool that was never made
no_pool_has : (a : ℕ) → is_in_pool a no_pool ≡ false
no_pool_has a = false_from_ne_true (is_in_pool a no_pool) (λ h. let parts = pool_parts a no_pool h in omega arith)

-- what is counted once at most
other_fails : (b c : Bool) → one b + one c ≤ 1 → b ≡ true → c ≡ false
other_fails b c few e = false_from_ne_true c (λ f. let x = ap one e in let y = ap one f in omega arith)

-- The stacks of two processes share no address.
pub stacks_share_nothing : (s : Xinu) → IsApart s → (p q a : ℕ) → p ≢ q → is_in_stack a (process_at s.tables p) ≡ true
    → is_in_stack a (process_at s.tables q) ≡ false
stacks_share_nothing s apart p q a n e =
    let both = times_two (is_in_stack a) s.tables.processes p q no_process (empty_stack a no_process refl) n in
    let few = apart.claims a in
    other_fails (is_in_stack a (process_at s.tables p)) (is_in_stack a (process_at s.tables q)) (omega arith) e

-- Two pools share no address.
pub pools_share_nothing : (s : Xinu) → IsApart s → (i j a : ℕ) → i ≢ j → is_in_pool a (pool_at s.parts.pools i) ≡ true
    → is_in_pool a (pool_at s.parts.pools j) ≡ false
pools_share_nothing s apart i j a n e =
    let both = times_two (is_in_pool a) s.parts.pools i j no_pool (no_pool_has a) n in
    let few = apart.claims a in
    other_fails (is_in_pool a (pool_at s.parts.pools i)) (is_in_pool a (pool_at s.parts.pools j)) (omega arith) e

-- A stack and a pool share no address.
pub stack_and_pool_share_nothing : (s : Xinu) → IsApart s → (p i a : ℕ) → is_in_stack a (process_at s.tables p) ≡ true
    → is_in_pool a (pool_at s.parts.pools i) ≡ false
stack_and_pool_share_nothing s apart p i a e =
    let stack = times_at (is_in_stack a) s.tables.processes p no_process (empty_stack a no_process refl) in
    let pool = times_at (is_in_pool a) s.parts.pools i no_pool (no_pool_has a) in
    let few = apart.claims a in
    other_fails (is_in_stack a (process_at s.tables p)) (is_in_pool a (pool_at s.parts.pools i)) (omega arith) e

-- No address of a stack is free.
pub stack_is_taken : (s : Xinu) → IsApart s → (p a : ℕ) → is_in_stack a (process_at s.tables p) ≡ true → is_in_free a s.parts.heap ≡ false
stack_is_taken s apart p a e =
    let stack = times_at (is_in_stack a) s.tables.processes p no_process (empty_stack a no_process refl) in
    let few = apart.claims a in
    other_fails (is_in_stack a (process_at s.tables p)) (is_in_free a s.parts.heap) (omega arith) e

-- No address of a pool is free.
pub pool_is_taken : (s : Xinu) → IsApart s → (i a : ℕ) → is_in_pool a (pool_at s.parts.pools i) ≡ true → is_in_free a s.parts.heap ≡ false
pool_is_taken s apart i a e =
    let pool = times_at (is_in_pool a) s.parts.pools i no_pool (no_pool_has a) in
    let few = apart.claims a in
    other_fails (is_in_pool a (pool_at s.parts.pools i)) (is_in_free a s.parts.heap) (omega arith) e

-- The addresses of a pool's buffers, and how many of them are held as one is taken or put back.
use Rattle.std.proofs.Common.{◌≡◌, ◌≢◌, ℕ, zero, suc, ◌+◌, ◌*◌, ◌<◌, ◌≤◌, ◌==◌, Bool, true, false, not, cond, ◌||◌, List, [], ◌∷◌, length, filter, refl, sym, ap, subst, ◌∙◌, ⊎_elim, arith}
use Rattle.std.specs.List.{AllByRecursion}
use Rattle.std.proofs.lemmas.Bool.{and_parts, not-true, both_ways, cases_eq, cond_both, eq-eqb, eqb-true, false_from_ne_true, ne_eqb, or_cases, or_left, or_right}
use Rattle.xinu_model.specs.Pools.Buffers.{BufferPool, addresses, buffers, pool_bytes, is_in, is_held, held_in, with_free, new_pool}
use Rattle.xinu_model.specs.Sound.Tables.{count_in}
use Rattle.table_laws.proofs.Lists.Counts.{first_is_counted, count_behind}
use Rattle.table_laws.proofs.Lists.Orders.{all_weaker}
use Rattle.table_laws.proofs.Tables.Unblock.{all_counted}

-- a number in a list is counted there
pub is_in_counted : (a : ℕ) (l : List ℕ) → is_in a l ≡ true → 0 < count_in a l
is_in_counted a [] h = cc
is_in_counted a (b ∷ l) h = ⊎_elim
    (λ (e : (a == b) ≡ true). subst (λ k. 0 < count_in a (k ∷ l)) (eqb-true a b e) (first_is_counted a l))
    (λ (e : is_in a l ≡ true). count_behind a b l (is_in_counted a l e)) (or_cases (a == b) (is_in a l) h)

-- and one that is counted is in it
pub counted_is_in : (a : ℕ) (l : List ℕ) → 0 < count_in a l → is_in a l ≡ true
counted_is_in a [] h = absurd (omega arith)
counted_is_in a (b ∷ l) h = ⊎_elim
    (λ (e : a ≡ b). or_left (a == b) (is_in a l) (eq-eqb a b e))
    (λ (n : a ≢ b). or_right (a == b) (is_in a l)
    (counted_is_in a l (subst (λ c. 0 < cond c (suc (count_in a l)) (count_in a l)) (ne_eqb b a (λ e. n (sym e))) h))) (cases_eq a b)

-- a number that isn't in a list isn't counted there
pub is_out_uncounted : (a : ℕ) (l : List ℕ) → is_in a l ≡ false → count_in a l ≡ 0
is_out_uncounted a l h =
    ⊎_elim (λ (e : count_in a l ≡ 0). e) (λ (n : count_in a l ≢ 0). absurd (both_ways (is_in a l) h (counted_is_in a l (omega arith))))
    (cases_eq (count_in a l) 0)

-- and one that isn't counted isn't in it
pub uncounted_is_out : (a : ℕ) (l : List ℕ) → count_in a l ≡ 0 → is_in a l ≡ false
uncounted_is_out a l h = false_from_ne_true (is_in a l) (λ e. let f = is_in_counted a l e in absurd (omega arith))

-- no address lies below the first
addresses_above : (x a step n : ℕ) → x < a → count_in x (addresses a step n) ≡ 0
addresses_above x a step zero h = refl
addresses_above x a step (suc n) h =
    ap (λ b. cond b (suc (count_in x (addresses (a + step) step n))) (count_in x (addresses (a + step) step n)))
    (ne_eqb a x (λ e. absurd (omega arith)))
    ∙ addresses_above x (a + step) step n (omega arith)

-- No address comes twice.
pub addresses_distinct : (x a step n : ℕ) → 0 < step → count_in x (addresses a step n) ≤ 1
addresses_distinct x a step zero h = omega arith
addresses_distinct x a step (suc n) h =
    cond_both (a == x) (suc (count_in x (addresses (a + step) step n))) (count_in x (addresses (a + step) step n)) (λ k. k ≤ 1)
    (λ b. let e = eqb-true a x b in let f = addresses_above x (a + step) step n (omega arith) in omega arith)
    (λ _. addresses_distinct x (a + step) step n h)

-- there are n addresses
pub length-addresses : (a step n : ℕ) → length (addresses a step n) ≡ n
length-addresses a step zero = refl
length-addresses a step (suc n) = ap suc (length-addresses (a + step) step n)

-- each lies among them
addresses_between : (x a step n : ℕ) → is_in x (addresses a step n) ≡ true → (a ≤ x) × (x + step ≤ a + n * step)
addresses_between x a step zero h = absurd (cc)
addresses_between x a step (suc n) h =
    ⊎_elim
    (λ (e : (x == a) ≡ true). let same = eqb-true x a e in (omega (arith, same), omega (arith, same)))
    (λ (e : is_in x (addresses (a + step) step n) ≡ true). let f = addresses_between x (a + step) step n e in (let low = f.0 in omega (arith, low), let high = f.1 in omega (arith, high)))
    (or_cases (x == a) (is_in x (addresses (a + step) step n)) h)

-- A buffer lies in its pool's range, after a word.
pub buffer_between : (a : ℕ) (pool : BufferPool) → is_in a (buffers pool) ≡ true
    → (4 ≤ a) × (a ≤ pool.base + pool_bytes pool.size pool.number)
buffer_between a pool h =
    let f = addresses_between a (pool.base + 4) (pool.size + 4) pool.number h in
    let low = f.0 in
    let high = f.1 in
    (omega (arith, low), omega (arith, high))

-- one element more, if it passes, on both sides
both_longer : (b : Bool) (x : ℕ) (xs ys : List ℕ) (k : ℕ) → length xs ≡ length ys + k
    → length (cond b (x ∷ xs) xs) ≡ length (cond b (x ∷ ys) ys) + k
both_longer true x xs ys k e = omega arith
both_longer false x xs ys k e = e

-- one test passes what another passes and a beside: it passes as many more as there are a
more_pass : (wide narrow : ℕ → Bool) (a : ℕ) → wide a ≡ true → narrow a ≡ false → ((x : ℕ) → x ≢ a → narrow x ≡ wide x) → (l : List ℕ)
    → length (filter wide l) ≡ length (filter narrow l) + count_in a l
more_pass wide narrow a w n same [] = refl
more_pass wide narrow a w n same (x ∷ l) =
    let e = more_pass wide narrow a w n same l in
    ⊎_elim
    (λ (h : x ≡ a). rw (ap wide h ∙ w) (rw (ap narrow h ∙ n) (rw (eq-eqb x a h) (omega arith))))
    (λ (h : x ≢ a). rw (same x h) (rw (ne_eqb x a h) (both_longer (wide x) x (filter wide l) (filter narrow l) (count_in a l) e)))
    (cases_eq x a)

-- no address of a pool's buffers comes twice
pub buffers_distinct : (a : ℕ) (pool : BufferPool) → count_in a (buffers pool) ≤ 1
buffers_distinct a pool = addresses_distinct a (pool.base + 4) (pool.size + 4) pool.number (omega arith)

-- a buffer of a pool is one
buffer_once : (a : ℕ) (pool : BufferPool) → is_in a (buffers pool) ≡ true → count_in a (buffers pool) ≡ 1
buffer_once a pool h = let e = is_in_counted a (buffers pool) h in let f = buffers_distinct a pool in omega arith

-- if one more buffer is free one less is held
held_step : (a : ℕ) (pool : BufferPool) (free : List ℕ) → is_in a (buffers pool) ≡ true → is_in a free ≡ false
    → held_in (record pool { free = free }) ≡ held_in (record pool { free = a ∷ free }) + 1
held_step a pool free here out =
    let e = more_pass (λ x. not (is_in x free)) (λ x. not (is_in x (a ∷ free))) a (ap not out)
    (ap not (or_left (a == a) (is_in a free) (eq-eqb a a refl)))
    (λ x n. ap (λ b. not (b || is_in x free)) (ne_eqb x a n)) (buffers pool) in
    let f = buffer_once a pool here in
    omega arith

-- the rest of a list of distinct numbers hasn't the first
pub first_is_out : (a : ℕ) (l : List ℕ) → count_in a (a ∷ l) ≤ 1 → is_in a l ≡ false
first_is_out a l h =
    let e : count_in a (a ∷ l) ≡ suc (count_in a l) = ap (λ b. cond b (suc (count_in a l)) (count_in a l)) (eq-eqb a a refl) in
    uncounted_is_out a l (omega arith)

-- A free buffer is taken: one more is held.
pub held_taken : (a : ℕ) (pool : BufferPool) (free : List ℕ) → pool.free ≡ a ∷ free → is_in a (buffers pool) ≡ true
    → count_in a pool.free ≤ 1 → held_in (record pool { free = free }) ≡ held_in pool + 1
held_taken a pool free e here once =
    held_step a pool free here (first_is_out a free (subst (λ l. count_in a l ≤ 1) e once))
    ∙ ap (λ l. held_in (record pool { free = l }) + 1) (sym e)

-- A held buffer is put back: one less is held.
pub held_put_back : (a : ℕ) (pool : BufferPool) → is_held a pool ≡ true → held_in pool ≡ held_in (with_free a pool) + 1
held_put_back a pool h =
    let parts = and_parts (is_in a (buffers pool)) (not (is_in a pool.free)) h in
    held_step a pool pool.free parts.0 (not-true (is_in a pool.free) parts.1)

-- none passes where each fails
none_pass : (test : ℕ → Bool) (l : List ℕ) → AllByRecursion (λ a. test a ≡ false) l → length (filter test l) ≡ 0
none_pass test [] h = refl
none_pass test (x ∷ l) h = rw h.0 (none_pass test l h.1)

-- each number of a list is in it
all_in : (l : List ℕ) → AllByRecursion (λ a. is_in a l ≡ true) l
all_in l = all_weaker (λ a. 0 < count_in a l) (λ a. is_in a l ≡ true) (λ a h. counted_is_in a l h) l (all_counted l)

-- What holds of the buffers of a new pool: all are free.
pub new_pool_buffers : (base size number semaphore : ℕ)
    → AllByRecursion (λ a. is_in a (buffers (new_pool base size number semaphore)) ≡ true) (new_pool base size number semaphore).free
new_pool_buffers base size number semaphore = all_in (addresses (base + 4) (size + 4) number)

-- So many are free and none is held.
pub new_pool_number : (base size number semaphore : ℕ)
    → length (new_pool base size number semaphore).free + held_in (new_pool base size number semaphore) ≡ number
new_pool_number base size number semaphore =
    let l = addresses (base + 4) (size + 4) number in
    let e = none_pass (λ a. not (is_in a l)) l
    (all_weaker (λ a. is_in a l ≡ true) (λ a. not (is_in a l) ≡ false) (λ a h. ap not h) l (all_in l)) in
    let f = length-addresses (base + 4) (size + 4) number in
    omega arith

-- The free buffers of a pool as one is taken, put back, or all are put in.
use Rattle.std.proofs.Common.{◌≡◌, ◌≢◌, ℕ, zero, suc, ◌+◌, ◌-◌, ◌*◌, ◌<◌, ◌≤◌, ◌==◌, true, not, List, [], ◌∷◌, ◌++◌, length, reverse, refl, sym, ap, subst, ◌∙◌, ⊎_elim, arith}
use Rattle.std.specs.List.{AllByRecursion, list_any}
use Rattle.std.proofs.Math.Nat.{suc-mul}
use Rattle.std.proofs.lemmas.Bool.{and_parts, cases_eq, eq-eqb, ne_eqb, not-true}
use Rattle.std.proofs.lemmas.List.{reverse-append}
use Rattle.std.proofs.lemmas.List.Sorted.{IsPermutation-reverse, list_any-IsPermutation}
use Rattle.xinu_model.specs.Pools.Buffers.{BufferPool, addresses, buffers, is_held, is_in, new_pool, with_free}
use Rattle.xinu_model.specs.Sound.Tables.{count_in}
use Rattle.table_laws.proofs.Buffers.{buffers_distinct, held_put_back, held_taken, is_out_uncounted, new_pool_buffers, new_pool_number}
use Rattle.buffer_pools.specs.Buffers.{HasBuffers}
use Rattle.table_laws.proofs.Lists.Counts.{distinct_with, count_more}

-- A search that compares the other way round, over the list in reverse, finds the same.
pub any_is_in : (a : ℕ) (l : List ℕ) → list_any (λ b. b == a) l ≡ is_in a (reverse l)
any_is_in a l = turned a l ∙ list_any-IsPermutation (λ b. a == b) l (reverse l) (IsPermutation-reverse l)
  where
    same : (a b : ℕ) → (b == a) ≡ (a == b)
    same a b = ⊎_elim
        (λ (e : a ≡ b). eq-eqb b a (sym e) ∙ sym (eq-eqb a b e))
        (λ (n : a ≢ b). ne_eqb b a (λ e. n (sym e)) ∙ sym (ne_eqb a b n)) (cases_eq a b)

    turned : (a : ℕ) (l : List ℕ) → list_any (λ b. b == a) l ≡ is_in a l
    turned a [] = refl
    turned a (b ∷ l) = rw (same a b, turned a l)

-- A free buffer is taken.
pub has_taken : (pool : BufferPool) (a : ℕ) (free : List ℕ) → HasBuffers pool → pool.free ≡ a ∷ free
    → HasBuffers (record pool { free = free })
has_taken pool a free k e =
    let IsOne = λ (x : ℕ). is_in x (buffers pool) ≡ true in
    let all : AllByRecursion IsOne (a ∷ free) = subst (AllByRecursion IsOne) e k.buffers in
    record {
      buffers = all.1;
      distinct = λ x. (let once : count_in x (a ∷ free) ≤ 1 = subst (λ l. count_in x l ≤ 1) e (k.distinct x) in
          let more = count_more x a free in omega arith);
      number = (let len : length pool.free ≡ suc (length free) = ap length e in
          let held = held_taken a pool free e all.0 (k.distinct a) in let sum = k.number in omega arith);
    }

-- A held buffer is put back.
pub has_put_back : (pool : BufferPool) (a : ℕ) → HasBuffers pool → is_held a pool ≡ true → HasBuffers (with_free a pool)
has_put_back pool a k held =
    let parts = and_parts (is_in a (buffers pool)) (not (is_in a pool.free)) held in
    record {
      buffers = (parts.0, k.buffers);
      distinct = λ x. distinct_with x a pool.free (is_out_uncounted a pool.free (not-true (is_in a pool.free) parts.1)) (k.distinct x);
      number = (let f = held_put_back a pool held in let g = k.number in omega arith);
    }

-- While a buffer is held not all are free.
pub some_held : (pool : BufferPool) (a : ℕ) → HasBuffers pool → is_held a pool ≡ true → length pool.free < pool.number
some_held pool a k held = let f = held_put_back a pool held in let g = k.number in omega arith

-- All buffers of a new pool are free.
pub has_all : (base size number semaphore : ℕ) → HasBuffers (new_pool base size number semaphore)
has_all base size number semaphore = record {
  buffers = new_pool_buffers base size number semaphore;
  distinct = λ a. buffers_distinct a (new_pool base size number semaphore);
  number = new_pool_number base size number semaphore;
}

-- What is last is first in reverse.
pub last_first : (before after : List ℕ) (a : ℕ) → after ≡ before ++ a ∷ [] → reverse after ≡ a ∷ reverse before
last_first before after a e = ap reverse e ∙ reverse-append before (a ∷ [])

-- a step less
pub step_less : (left step : ℕ) → 0 < left → left * step ≡ (left - 1) * step + step
step_less zero step h = absurd (omega arith)
step_less (suc n) step h = let e : n ≡ suc n - 1 = omega arith in suc-mul n step ∙ ap (λ m. m * step + step) e

-- One more is put in at the end: the one before the first.
pub one_more : (l : List ℕ) (next step left number : ℕ) → 0 < left → left ≤ number → step ≤ next
    → reverse l ≡ addresses next step (number - left)
    → reverse (l ++ (next - step) ∷ []) ≡ addresses (next - step) step (number - (left - 1))
one_more l next step left number some within h r =
    let n : suc (number - left) ≡ number - (left - 1) = omega arith in
    let a : next ≡ next - step + step = omega arith in
    reverse-append l ((next - step) ∷ [])
    ∙ ap (λ (t : List ℕ). (next - step) ∷ t) (r ∙ ap (λ x. addresses x step (number - left)) a)
    ∙ ap (addresses (next - step) step) n

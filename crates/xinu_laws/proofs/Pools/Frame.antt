-- What leaves the pools alone keeps what holds of them.
use Rattle.std.proofs.Common.{◌≡◌, ℕ, suc, ◌≤◌, ◌==◌, Bool, true, false, not, cond, List, [], ◌∷◌, length, Option, Some, get_or, refl, sym, ap, ◌∙◌, arith}
use Rattle.std.proofs.lemmas.Bool.{and_from, and_parts, cond_both, eqb-true}
use Rattle.xinu_base.specs.declared.processes.Rest.{Rest}
use Rattle.xinu_base.specs.declared.processes.Rest.TheVariants.{Nothing, GetBuf}
use Rattle.xinu_base.specs.declared.semaphores.Owner.{Owner}
use Rattle.xinu_base.specs.declared.semaphores.Owner.TheVariants as owner
use Rattle.table_laws.specs.Frame.{Frame}
use Rattle.xinu_model.specs.Pools.Buffers.{BufferPool, pool_at}
use Rattle.xinu_model.specs.Sound.Tables.{times}
use Rattle.xinu_model.specs.Sound.Pools.{is_waiting, asks_pool, is_released_to_pool, IsSoundPool, ArePools}
use Rattle.xinu_model.specs.Tables.{no_process, Tables, process_at, state_at, semaphore_at}

-- whether a semaphore is a pool's
abbrev pub is_pools : ℕ → Option Owner → Bool
is_pools sem (Some (owner.Pool i)) = true
is_pools sem _ = false

-- whether what is left of a call is to take a buffer
abbrev pub asks_buffer : Rest → Bool
asks_buffer (GetBuf i) = true
asks_buffer _ = false

-- whether a semaphore is that of pool i
abbrev pub is_pool : ℕ → ℕ → Option Owner → Bool
is_pool i sem (Some (owner.Pool j)) = j == i
is_pool i sem _ = false

-- who asks for a buffer of pool i is to take one of it
pub asks_pool_of : (i : ℕ) (left : Rest) → asks_pool i left ≡ true → left ≡ GetBuf i
asks_pool_of i (GetBuf j) h = ap GetBuf (eqb-true j i h)
asks_pool_of i Nothing h = cc
asks_pool_of i _ h = cc

-- where each element that passes passed before, at most as many pass
pub times-le : {A : Type 0} (test : A → Bool) (xs ys : List A) (d : A) → length xs ≡ length ys
    → ((p : ℕ) → test (get_or xs p d) ≡ true → test (get_or ys p d) ≡ true) → times test xs ≤ times test ys
times-le test [] ys d e h = omega arith
times-le test (x ∷ xs) [] d e h = absurd (omega arith)
times-le test (x ∷ xs) (y ∷ ys) d e h =
    let k = times-le test xs ys d (omega arith) (λ p. h (suc p)) in
    cond_both (test x) (suc (times test xs)) (times test xs) (λ n. n ≤ cond (test y) (suc (times test ys)) (times test ys))
    (λ b. rw (h 0 b) (omega arith))
    (λ b. cond_both (test y) (suc (times test ys)) (times test ys) (λ n. times test xs ≤ n) (λ _. omega arith) (λ _. k))

-- If pool i is left alone, no more processes than before are released to it and haven't taken their buffer.
pub released_framed : (mine : ℕ → Option Owner → Bool) (asks : Rest → Bool) (t u : Tables) (i : ℕ) → Frame mine asks t u
    → asks (GetBuf i) ≡ true
    → times (is_released_to_pool i) u.processes ≤ times (is_released_to_pool i) t.processes
released_framed mine asks t u i c here = times-le (is_released_to_pool i) u.processes t.processes no_process c.many
    (λ p h. let x = process_at u p in
    let parts = and_parts (not (is_waiting x.state)) (asks_pool i x.rest) h in
    let same = c.rests p (ap asks (asks_pool_of i x.rest parts.1) ∙ here) in
    and_from (not (is_waiting (state_at t p))) (asks_pool i (process_at t p).rest)
    (ap not (sym same.1) ∙ parts.0) (ap (asks_pool i) (sym same.0) ∙ parts.1))

-- What leaves pool i alone keeps what holds of it.
pub sound_pool_framed : (mine : ℕ → Option Owner → Bool) (asks : Rest → Bool) (t u : Tables) (i : ℕ) (pool : BufferPool)
    → Frame mine asks t u → ((sem : ℕ) → mine sem (Some (owner.Pool i)) ≡ true) → asks (GetBuf i) ≡ true → IsSoundPool t i pool
    → IsSoundPool u i pool
sound_pool_framed mine asks t u i pool c m a k =
    let kept = c.kept pool.semaphore (ap (mine pool.semaphore) k.owner ∙ m pool.semaphore) in
    record {
      owner = kept.0 ∙ k.owner;
      within = k.within;
      buffers = k.buffers;
      distinct = k.distinct;
      number = k.number;
      enough = (let e = kept.1 in let f = released_framed mine asks t u i c a in let g = k.enough in omega arith);
    }

-- What leaves all pools alone keeps what holds of them.
pub are_pools_framed : (t u : Tables) (pools : List BufferPool) → Frame is_pools asks_buffer t u → ArePools t pools → ArePools u pools
are_pools_framed t u pools c k = record {
  few = k.few;
  each = λ i h. sound_pool_framed is_pools asks_buffer t u i (pool_at pools i) c (λ sem. refl) refl (k.each i h);
  owned = λ s i e. k.owned s i (sym (c.old s (ap (is_pools s) e)) ∙ e);
  made = λ p i e. k.made p i (sym (c.rests p (ap asks_buffer e)).0 ∙ e);
  apart = k.apart;
}

-- At the start there are no pools.
pub no_pools : (t : Tables) → ((sem : ℕ) → is_pools sem (semaphore_at t sem).owner ≡ false)
    → ((p : ℕ) → asks_buffer (process_at t p).rest ≡ false) → ArePools t []
no_pools t sem p = record {
  few = omega arith;
  each = λ i h. absurd (omega arith);
  owned = λ r i e. (let f = sem r in let g = ap (is_pools r) e in cc);
  made = λ q i e. (let f = p q in let g = ap asks_buffer e in cc);
  apart = λ i j a b. absurd (omega arith);
}

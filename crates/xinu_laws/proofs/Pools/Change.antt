-- What holds of the pools is kept if one of them changes.
use Rattle.std.proofs.Common.{◌≡◌, ◌≢◌, ℕ, suc, ◌+◌, ◌<◌, ◌≤◌, true, not, List, ◌∷◌, length, set, refl, sym, ap, subst, ◌∙◌, arith, get_or-set_same, get_or-set_other}
use Rattle.std.proofs.Math.ListN.{length-set}
use Rattle.std.specs.List.{AllByRecursion}
use Rattle.std.proofs.lemmas.Bool.{and_parts, eq-eqb, not-true}
use Rattle.std.proofs.lemmas.List.{set-get_or}
use Rattle.xinu_base.specs.declared.processes.Rest.TheVariants.{GetBuf}
use Rattle.xinu_model.specs.Memory.{ranges_meet}
use Rattle.xinu_model.specs.Pools.Buffers.{BufferPool, no_pool, pool_at, pool_bytes, buffers, is_in, is_held, with_free}
use Rattle.xinu_model.specs.Sound.Tables.{times, count_in}
use Rattle.xinu_model.specs.Sound.Pools.{asks_pool, is_released_to_pool, IsSoundPool, ArePools}
use Rattle.xinu_model.specs.Tables.{Tables, process_at, semaphore_at}
use Rattle.table_laws.specs.Frame.{Frame}
use Rattle.table_laws.proofs.Frame.MoveTo.{same_written}
use Rattle.table_laws.proofs.Buffers.{is_out_uncounted, held_taken, held_put_back}
use Rattle.xinu_laws.proofs.Pools.Frame.{is_pool, sound_pool_framed}
use Rattle.table_laws.proofs.Tables.MoveTo.{by_number}
use Rattle.table_laws.proofs.Lists.Counts.{distinct_with, count_more}

-- how many buffers of pool i are promised: the tokens of its semaphore, and those who were released and haven't taken theirs
abbrev pub promised : ℕ → ℕ → Tables → ℕ
promised i s t = (semaphore_at t s).tokens + times (is_released_to_pool i) t.processes

-- If not more buffers are promised nothing changes for a pool.
pub pool_kept : (t u : Tables) (i : ℕ) (pool : BufferPool) → IsSoundPool t i pool
    → (semaphore_at u pool.semaphore).owner ≡ (semaphore_at t pool.semaphore).owner
    → promised i pool.semaphore u ≤ promised i pool.semaphore t → IsSoundPool u i pool
pool_kept t u i pool k e h = record { owner = e ∙ k.owner; within = k.within; buffers = k.buffers; distinct = k.distinct; number = k.number; enough = (let f = k.enough in omega arith) }

-- A buffer is taken, and one less is promised.
pub pool_taken : (t u : Tables) (i : ℕ) (pool : BufferPool) (a : ℕ) (free : List ℕ) → IsSoundPool t i pool → pool.free ≡ a ∷ free
    → (semaphore_at u pool.semaphore).owner ≡ (semaphore_at t pool.semaphore).owner
    → suc (promised i pool.semaphore u) ≤ promised i pool.semaphore t → IsSoundPool u i (record pool { free = free })
pool_taken t u i pool a free k e o h =
    let all : AllByRecursion (λ x. is_in x (buffers pool) ≡ true)
    (a ∷ free) = subst (AllByRecursion (λ x. is_in x (buffers pool) ≡ true)) e k.buffers in
    let len : length pool.free ≡ suc (length free) = ap length e in
    record {
      owner = o ∙ k.owner;
      within = k.within;
      buffers = all.1;
      distinct = λ x. (let f = count_more x a free in let g : count_in x (a ∷ free) ≤ 1 = subst (λ l. count_in x l ≤ 1) e (k.distinct x) in omega arith);
      number = (let f = held_taken a pool free e all.0 (k.distinct a) in let g = k.number in omega arith);
      enough = (let f = k.enough in omega arith);
    }

-- A held buffer is put back, and one more is promised at most.
pub pool_put_back : (t u : Tables) (i : ℕ) (pool : BufferPool) (a : ℕ) → IsSoundPool t i pool → is_held a pool ≡ true
    → (semaphore_at u pool.semaphore).owner ≡ (semaphore_at t pool.semaphore).owner
    → promised i pool.semaphore u ≤ suc (promised i pool.semaphore t) → IsSoundPool u i (with_free a pool)
pool_put_back t u i pool a k held o h =
    let parts = and_parts (is_in a (buffers pool)) (not (is_in a pool.free)) held in
    record {
      owner = o ∙ k.owner;
      within = k.within;
      buffers = (parts.0, k.buffers);
      distinct = λ x. distinct_with x a pool.free (is_out_uncounted a pool.free (not-true (is_in a pool.free) parts.1)) (k.distinct x);
      number = (let f = held_put_back a pool held in let g = k.number in omega arith);
      enough = (let f = k.enough in omega arith);
    }

-- a pool that keeps its memory and its semaphore
pub record KeepsPlace (old new : BufferPool) : Type 0 where
  pub base : new.base ≡ old.base
  pub size : new.size ≡ old.size
  pub number : new.number ≡ old.number
  pub semaphore : new.semaphore ≡ old.semaphore

-- the pools with another pool i meet no more than before
apart_set : (pools : List BufferPool) (i : ℕ) (pool : BufferPool) → KeepsPlace (pool_at pools i) pool → (j k : ℕ)
    → ranges_meet (pool_at (set pools i pool) j).base (pool_bytes (pool_at (set pools i pool) j).size (pool_at (set pools i pool) j).number) (pool_at (set pools i pool) k).base (pool_bytes (pool_at (set pools i pool) k).size (pool_at (set pools i pool) k).number)
    ≡ ranges_meet (pool_at pools j).base (pool_bytes (pool_at pools j).size (pool_at pools j).number) (pool_at pools k).base
    (pool_bytes (pool_at pools k).size (pool_at pools k).number)
apart_set pools i pool p j k =
    let base = λ (n : ℕ). same_written (λ (x : BufferPool). x.base) pools i n pool no_pool p.base in
    let size = λ (n : ℕ). same_written (λ (x : BufferPool). x.size) pools i n pool no_pool p.size in
    let number = λ (n : ℕ). same_written (λ (x : BufferPool). x.number) pools i n pool no_pool p.number in
    cc (base j, base k, size j, size k, number j, number k)

-- Pool i becomes another that keeps its place: what holds of it is to be shown, and the other pools are left alone.
pub are_pools_set : (t u : Tables) (pools : List BufferPool) (i : ℕ) (pool : BufferPool) → i < length pools
    → KeepsPlace (pool_at pools i) pool → IsSoundPool u i pool → ((j : ℕ) → j ≢ i → Frame (is_pool j) (asks_pool j) t u)
    → ((s : ℕ) → (semaphore_at u s).owner ≡ (semaphore_at t s).owner) → ArePools t pools → ArePools u (set pools i pool)
are_pools_set t u pools i pool here p sound others owners k =
    let len = length-set pools i pool in
    record {
      few = (let f = k.few in omega arith);
      each = λ j. by_number j i (λ n. n < length (set pools i pool) → IsSoundPool u n (pool_at (set pools i pool) n))
          (λ _. subst (IsSoundPool u i) (sym (get_or-set_same pools i pool no_pool here)) sound)
          (λ n h. subst (IsSoundPool u j) (sym (get_or-set_other pools i j pool no_pool n))
          (sound_pool_framed (is_pool j) (asks_pool j) t u j (pool_at pools j) (others j n) (λ sem. eq-eqb j j refl) (eq-eqb j j refl) (k.each j (omega arith))));
      owned = λ s j e. (let f = k.owned s j (sym (owners s) ∙ e) in (let g = f.0 in omega arith, same_written (λ (x : BufferPool). x.semaphore) pools i j pool no_pool p.semaphore ∙ f.1));
      made = λ q j. by_number j i (λ n. (process_at u q).rest ≡ GetBuf n → n < length (set pools i pool))
          (λ _. omega arith)
          (λ n e. let f = k.made q j (sym ((others j n).rests q (ap (asks_pool j) e ∙ eq-eqb j j refl)).0 ∙ e) in omega arith);
      apart = λ m n a b. apart_set pools i pool p m n ∙ k.apart m n a (omega arith);
    }

-- The same if pool i stays as it is.
pub are_pools_kept : (t u : Tables) (pools : List BufferPool) (i : ℕ) → i < length pools → IsSoundPool u i (pool_at pools i)
    → ((j : ℕ) → j ≢ i → Frame (is_pool j) (asks_pool j) t u) → ((sem : ℕ) → (semaphore_at u sem).owner ≡ (semaphore_at t sem).owner)
    → ArePools t pools → ArePools u pools
are_pools_kept t u pools i here sound others owners k =
    subst (ArePools u) (set-get_or pools i no_pool)
    (are_pools_set t u pools i (pool_at pools i) here (record { base = refl; size = refl; number = refl; semaphore = refl }) sound others owners k)

-- A pool that is made keeps what holds of the pools.
use Rattle.std.proofs.Common.{◌≡◌, ℕ, suc, ◌+◌, ◌*◌, ◌<◌, ◌≤◌, Bool, false, not, ◌&&◌, List, [], ◌∷◌, ◌++◌, length, Option, None, Some, get_or, refl, sym, ap, subst, ◌∙◌, ⊎_elim, arith, length-append, get_or-set_same, get_or-set_other}
use Rattle.std.specs.Prelude.{is_some, nat_lt}
use Rattle.std.proofs.Math.Bool.{and_comm}
use Rattle.std.proofs.Math.ListN.{get_or-append}
use Rattle.std.proofs.Math.Seq.{get_or-append_seam}
use Rattle.std.proofs.lemmas.Bool.{and_parts, both_ways, cases_lt, cond_both, eq-eqb, false_from_ne_true, ltb-true, ne_eqb}
use Rattle.std.proofs.lemmas.List.Folds.{list_any_at}
use Rattle.xinu_base.specs.declared.semaphores.Owner.TheVariants as owner
use Rattle.xinu_model.specs.Heap.Cells.{Heap, Grant, take_memory}
use Rattle.xinu_model.specs.Machine.{Xinu, CallResult, refused}
use Rattle.xinu_model.specs.Memory.{ram_size, ranges_meet}
use Rattle.xinu_model.specs.Pools.Calls.{with_pool, made_pool, is_pool_size, mkbufpool}
use Rattle.xinu_model.specs.Pools.Buffers.{BufferPool, no_pool, most_pools, pool_at, pool_bytes, whole_words, new_pool, meets_pool}
use Rattle.xinu_model.specs.Semaphores.Counts.{free_semaphore, make_semaphore}
use Rattle.xinu_model.specs.Sound.Tables.{times, IsInside}
use Rattle.xinu_model.specs.Sound.Pools.{is_waiting, asks_pool, is_released_to_pool, IsSoundPool, ArePools}
use Rattle.xinu_model.specs.Sound.State.{IsWhole}
use Rattle.xinu_model.specs.Tables.{no_process, Semaphore, no_semaphore, Tables, process_at, semaphore_at}
use Rattle.table_laws.proofs.Frame.Semaphores.{frame_make_semaphore}
use Rattle.table_laws.proofs.Tables.Found.{free_semaphore_free}
use Rattle.table_laws.proofs.Buffers.{length-addresses, buffers_distinct, new_pool_buffers, new_pool_number}
use Rattle.part_laws.proofs.HeapCells.Taken.{getmem_grants, room_in_cells}
use Rattle.xinu_laws.proofs.Pools.Calls.{HavePools}
use Rattle.xinu_laws.proofs.Pools.Frame.{is_pool, asks_pool_of, sound_pool_framed}
use Rattle.table_laws.proofs.Tables.MoveTo.{by_number}
use Rattle.table_laws.proofs.Lists.Searches.{search_within}

-- none passes where each fails
times-none : {A : Type 0} (test : A → Bool) (l : List A) (d : A) → ((p : ℕ) → test (get_or l p d) ≡ false) → times test l ≡ 0
times-none test [] d h = refl
times-none test (x ∷ l) d h = rw (h 0) (times-none test l d (λ p. h (suc p)))

-- nobody is released to a pool that isn't made
none_released : (t : Tables) (pools : List BufferPool) (i : ℕ) → ArePools t pools → length pools ≤ i
    → times (is_released_to_pool i) t.processes ≡ 0
none_released t pools i k h = times-none (is_released_to_pool i) t.processes no_process
    (λ p. false_from_ne_true (is_released_to_pool i (process_at t p))
    (λ b. let x = process_at t p in
    let e = asks_pool_of i x.rest (and_parts (not (is_waiting x.state)) (asks_pool i x.rest) b).1 in
    let f = k.made p i e in
    absurd (omega arith)))

-- two ranges meet in either order
meet_swap : (a n b m : ℕ) → ranges_meet a n b m ≡ ranges_meet b m a n
meet_swap a n b m =
    ap (λ k. k && (nat_lt a (b + m) && nat_lt b (a + n))) (and_comm (nat_lt 0 n) (nat_lt 0 m))
    ∙ ap (λ k. (nat_lt 0 m && nat_lt 0 n) && k) (and_comm (nat_lt a (b + m)) (nat_lt b (a + n)))

-- a range that meets no pool doesn't meet this one
meets_none : (base bytes : ℕ) (pools : List BufferPool) (i : ℕ) → meets_pool base bytes pools ≡ false → i < length pools
    → ranges_meet (pool_at pools i).base (pool_bytes (pool_at pools i).size (pool_at pools i).number) base bytes ≡ false
meets_none base bytes pools i e h =
    let pool = pool_at pools i in
    let test = λ (x : BufferPool). ranges_meet base bytes x.base (pool_bytes x.size x.number) in
    meet_swap pool.base (pool_bytes pool.size pool.number) base bytes
    ∙ false_from_ne_true (test pool) (λ b. both_ways (meets_pool base bytes pools) e (list_any_at test pools i no_pool h b))

-- the pools with one more
module _ (t : Tables) (pools : List BufferPool) (pool : BufferPool) where
  -- the old ones are as they were
  old_at : (j : ℕ) → j < length pools → pool_at (pools ++ pool ∷ []) j ≡ pool_at pools j
  old_at j h = get_or-append pools (pool ∷ []) no_pool j h

  -- the new one is the last
  new_at : pool_at (pools ++ pool ∷ []) (length pools) ≡ pool
  new_at = get_or-append_seam pools pool [] no_pool

  -- what holds of the old ones and of the new one holds of all
  by_age : (P : ℕ → BufferPool → Type 0) → ((j : ℕ) → j < length pools → P j (pool_at pools j)) → P (length pools) pool
      → (j : ℕ) → j < length (pools ++ pool ∷ []) → P j (pool_at (pools ++ pool ∷ []) j)
  by_age P old new j h = ⊎_elim
      (λ (l : j < length pools). subst (P j) (sym (old_at j l)) (old j l))
      (λ (l : length pools ≤ j). subst (λ n. P n (pool_at (pools ++ pool ∷ []) n)) (let e = length-append pools (pool ∷ []) in omega arith)
      (subst (P (length pools)) (sym new_at) new))
      (cases_lt j (length pools))

-- what holds of the new pool
new_pool_sound : (t : Tables) (pools : List BufferPool) (sem base size n : ℕ) → ArePools t pools → sem < length t.semaphores
    → base + pool_bytes size n ≤ ram_size → IsSoundPool (make_semaphore sem (owner.Pool (length pools)) n t) (length pools) (new_pool base size n sem)
new_pool_sound t pools sem base size n k h within =
    let x : Semaphore = record { owner = Some (owner.Pool (length pools)); tokens = n; waiters = [] } in
    let e : semaphore_at (make_semaphore sem (owner.Pool (length pools)) n t) sem ≡ x = get_or-set_same t.semaphores sem x no_semaphore h in
    record {
      owner = ap (λ (y : Semaphore). y.owner) e;
      within = within;
      buffers = new_pool_buffers base size n sem;
      distinct = λ a. buffers_distinct a (new_pool base size n sem);
      number = new_pool_number base size n sem;
      enough = (let f = ap (λ (y : Semaphore). y.tokens) e in let g = none_released t pools (length pools) k (omega arith) in let l = length-addresses (base + 4) (size + 4) n in omega arith);
    }

-- A pool is made, whose semaphore was free and whose memory is in RAM and meets no other pool.
pub are_pools_made : (t : Tables) (pools : List BufferPool) (sem base size n : ℕ) → ArePools t pools → length pools < most_pools
    → base + pool_bytes size n ≤ ram_size → sem < length t.semaphores → (semaphore_at t sem).owner ≡ None → meets_pool base (pool_bytes size n) pools ≡ false
    → ArePools (make_semaphore sem (owner.Pool (length pools)) n t) (pools ++ new_pool base size n sem ∷ [])
are_pools_made t pools sem base size n k few within_ram h free apart =
    let i = length pools in
    let pool = new_pool base size n sem in
    let u = make_semaphore sem (owner.Pool i) n t in
    let all = pools ++ pool ∷ [] in
    let len : length all ≡ length pools + 1 = length-append pools (pool ∷ []) in
    let x : Semaphore = record { owner = Some (owner.Pool i); tokens = n; waiters = [] } in
    record {
      few = omega arith;
      each = by_age t pools pool (IsSoundPool u)
          (λ j l. sound_pool_framed (is_pool j) (asks_pool j) t u j (pool_at pools j)
          (frame_make_semaphore t sem (owner.Pool i) n (ap (is_pool j sem) free) (ne_eqb i j (λ e. absurd (omega arith))))
          (λ sem. eq-eqb j j refl) (eq-eqb j j refl) (k.each j l))
          (new_pool_sound t pools sem base size n k h within_ram);
      owned = λ r j. by_number r sem (λ s. (semaphore_at u s).owner ≡ Some (owner.Pool j) → (j < length all) × ((pool_at all j).semaphore ≡ s))
          (λ e. let f : i ≡ j = (let g : (semaphore_at u sem).owner ≡ Some
          (owner.Pool i) = ap (λ (y : Semaphore). y.owner) (get_or-set_same t.semaphores sem x no_semaphore h) in cc) in
          subst (λ m. (m < length all) × ((pool_at all m).semaphore ≡ sem)) f
          (omega arith, ap (λ (y : BufferPool). y.semaphore) (new_at t pools pool)))
          (λ n e. let f = k.owned r j (sym (ap (λ (y : Semaphore). y.owner) (get_or-set_other t.semaphores sem r x no_semaphore n)) ∙ e) in
          ((let l = f.0 in omega arith), ap (λ (y : BufferPool). y.semaphore) (old_at t pools pool j f.0) ∙ f.1));
      made = λ q j e. (let f = k.made q j e in omega arith);
      apart = λ a b l within. by_age t pools pool (λ m y. a < m → ranges_meet (pool_at all a).base (pool_bytes (pool_at all a).size (pool_at all a).number) y.base (pool_bytes y.size y.number) ≡ false)
          (λ m mh ah. subst (λ (y : BufferPool). ranges_meet y.base (pool_bytes y.size y.number) (pool_at pools m).base
          (pool_bytes (pool_at pools m).size (pool_at pools m).number) ≡ false)
          (sym (old_at t pools pool a (omega arith))) (k.apart a m ah mh))
          (λ ah. subst (λ (y : BufferPool). ranges_meet y.base (pool_bytes y.size y.number) base (pool_bytes size n) ≡ false) (sym (old_at t pools pool a ah)) (meets_none base (pool_bytes size n) pools a apart ah)) b within l;
    }

-- what is granted of a heap that is in RAM is in RAM
grant_within : (n : ℕ) (h : Heap) (grant : Grant) → take_memory n h ≡ Some grant → h.low + 8 * length h.cells ≤ ram_size
    → grant.address + n ≤ ram_size
grant_within n h grant e within =
    let g = getmem_grants n h grant e in
    let at = g.address in
    let there = g.taken.before.within in
    let room = room_in_cells n in
    omega (arith, at, there, room, within)

-- a pool is made, if memory and a semaphore are found
pools_made_pool : (found : Option Grant) (sem : Option ℕ) (size n : ℕ) (s : Xinu) → free_semaphore s.tables ≡ sem
    → take_memory (pool_bytes size n) s.parts.heap ≡ found → IsWhole s.memory s.parts.heap → IsInside s.tables
    → HavePools s → length s.parts.pools < most_pools → HavePools (made_pool found sem size n s).call.state
pools_made_pool (Some grant) (Some sem) size n s e g w o k few =
    cond_both (meets_pool grant.address (pool_bytes size n) s.parts.pools) (refused s) (with_pool grant sem size n s)
    (λ (h : CallResult). HavePools h.call.state) (λ _. k)
    (λ b. are_pools_made s.tables s.parts.pools sem grant.address size n k few (grant_within (pool_bytes size n) s.parts.heap grant g w.heap)
    (let h = search_within (λ r. not (is_some (semaphore_at s.tables r).owner)) 128
    (s.tables.last_semaphore + 1) sem e in let f = o.semaphores in omega arith) (free_semaphore_free s.tables sem e) b)
pools_made_pool (Some grant) None size n s e g w o k few = k
pools_made_pool None sem size n s e g w o k few = k

-- Call 28.
pub pools_mkbufpool : (size n : ℕ) (s : Xinu) → IsWhole s.memory s.parts.heap → IsInside s.tables → HavePools s
    → HavePools (mkbufpool size n s).call.state
pools_mkbufpool size n s w o k =
    let fits = is_pool_size size n in
    let few = nat_lt (length s.parts.pools) most_pools in
    cond_both (fits && few)
    (made_pool (take_memory (pool_bytes (whole_words size) n) s.parts.heap) (free_semaphore s.tables) (whole_words size) n s) (refused s)
    (λ (h : CallResult). HavePools h.call.state)
    (λ b. pools_made_pool (take_memory (pool_bytes (whole_words size) n) s.parts.heap) (free_semaphore s.tables)
    (whole_words size) n s refl refl w o k (ltb-true (length s.parts.pools) most_pools (and_parts fits few b).1))
    (λ _. k)

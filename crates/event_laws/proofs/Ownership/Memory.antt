-- The calls that take and give memory keep each address claimed at most once: what is granted was free, and what is given back is
-- held by nobody else, if the caller sees to it.
use Rattle.std.proofs.Common.{◌≡◌, ℕ, true, false, [], ◌∷◌, length, Option, Some, None, refl, ap, arith, ⊎_elim, ◌&&◌}
use Rattle.std.specs.Prelude.{nat_lt}
use Rattle.std.proofs.lemmas.Bool.{cond_both, cases_Bool}
use Rattle.event_laws.specs.Ownership.Apart.{is_in_pool, holders, IsApart}
use Rattle.part_laws.specs.FreeCells.{is_in_free}
use Rattle.xinu_model.specs.Heap.Cells as heap
use Rattle.xinu_model.specs.Heap.Cells.{Heap, cells_for, Grant, Stack}
use Rattle.xinu_model.specs.Machine.{Xinu, CallResult, refused}
use Rattle.xinu_model.specs.Heap.Calls.{granted, stacked, given_back, getmem, freemem, getstk, freestk}
use Rattle.xinu_model.specs.Pools.Calls.{with_pool, made_pool, is_pool_size, mkbufpool}
use Rattle.xinu_model.specs.Pools.Buffers.{most_pools, pool_bytes, whole_words, new_pool, meets_pool}
use Rattle.xinu_model.specs.Semaphores.Counts.{free_semaphore}
use Rattle.xinu_model.specs.Tables.{process_at}
use Rattle.event_laws.proofs.Ownership.Claims.{stack_stays, low_stays, pool_parts, InCells, claim_taken}
use Rattle.table_laws.proofs.Lists.Maps.{one, times_first}
use Rattle.part_laws.proofs.HeapCells.Marked.{AreMarked, as_many_cells}
use Rattle.part_laws.proofs.HeapCells.Taken.{room_in_cells, getmem_grants, getstk_finds, freemem_frees, freestk_frees}
use Rattle.table_laws.proofs.Lists.Counts.{times-append}

-- No address that is free in u, and wasn't in s, was held by a pool or a stack.
abbrev pub FreesNothingHeld : Xinu → Xinu → Type 0
FreesNothingHeld s u = (a : ℕ) → is_in_free a u.parts.heap ≡ true → is_in_free a s.parts.heap ≡ false → holders s a ≡ 0

-- Cells are taken.
pub apart_taken : (s : Xinu) (u : Heap) (start k : ℕ) → AreMarked false start k s.parts.heap u → IsApart s
    → IsApart (record s { parts = record s.parts { heap = u } })
apart_taken s u start k m apart = record {
  low = low_stays s.parts.heap u m.low apart.low;
  stacks = λ p. stack_stays s.parts.heap u (process_at s.tables p) m.low (as_many_cells m) (apart.stacks p);
  claims = λ a.
      let less = claim_taken m a false (λ e. absurd (cc)) in
      let few = apart.claims a in
      omega arith;
}

-- Cells are freed that nobody holds.
pub apart_given : (s : Xinu) (u : Heap) (start k : ℕ) → AreMarked true start k s.parts.heap u → IsApart s
    → FreesNothingHeld s (record s { parts = record s.parts { heap = u } }) → IsApart (record s { parts = record s.parts { heap = u } })
apart_given s u start k m apart none = record {
  low = low_stays s.parts.heap u m.low apart.low;
  stacks = λ p. stack_stays s.parts.heap u (process_at s.tables p) m.low (as_many_cells m) (apart.stacks p);
  claims = λ a.
      let few = apart.claims a in
      ⊎_elim
      (λ (is : is_in_free a u ≡ true).
      let here = ap one is in
      ⊎_elim
      (λ (was : is_in_free a s.parts.heap ≡ true). let there = ap one was in omega arith)
      (λ (was : is_in_free a s.parts.heap ≡ false). let nobody = none a is was in omega arith)
      (cases_Bool (is_in_free a s.parts.heap)))
      (λ (is : is_in_free a u ≡ false). let here = ap one is in omega arith)
      (cases_Bool (is_in_free a u));
}

-- call 10
apart_granted : (n : ℕ) (found : Option Grant) (s : Xinu) → heap.take_memory n s.parts.heap ≡ found → IsApart s
    → IsApart (granted found s).call.state
apart_granted n None s e apart = apart
apart_granted n (Some grant) s e apart =
    let g = getmem_grants n s.parts.heap grant e in apart_taken s grant.heap g.start (cells_for n) g.taken apart

pub apart_getmem : (n : ℕ) (s : Xinu) → IsApart s → IsApart (getmem n s).call.state
apart_getmem n s apart = apart_granted n (heap.take_memory n s.parts.heap) s refl apart

-- call 12
apart_stacked : (n : ℕ) (found : Option Stack) (s : Xinu) → heap.take_stack n s.parts.heap ≡ found → IsApart s
    → IsApart (stacked found s).call.state
apart_stacked n None s e apart = apart
apart_stacked n (Some stack) s e apart =
    let g = getstk_finds n s.parts.heap stack e in apart_taken s stack.heap g.start (cells_for n) g.taken apart

pub apart_getstk : (n : ℕ) (s : Xinu) → IsApart s → IsApart (getstk n s).call.state
apart_getstk n s apart = apart_stacked n (heap.take_stack n s.parts.heap) s refl apart

-- call 11
apart_freed_memory : (a n : ℕ) (found : Option Heap) (s : Xinu) → heap.free_memory a n s.parts.heap ≡ found → IsApart s
    → FreesNothingHeld s (given_back found s).call.state → IsApart (given_back found s).call.state
apart_freed_memory a n None s e apart none = apart
apart_freed_memory a n (Some u) s e apart none =
    let f = freemem_frees a n s.parts.heap u apart.low e in apart_given s u f.start (cells_for n) f.freed apart none

pub apart_freemem : (a n : ℕ) (s : Xinu) → IsApart s → FreesNothingHeld s (freemem a n s).call.state → IsApart (freemem a n s).call.state
apart_freemem a n s apart none = apart_freed_memory a n (heap.free_memory a n s.parts.heap) s refl apart none

-- call 13
apart_freed_stack : (a n : ℕ) (found : Option Heap) (s : Xinu) → heap.free_stack a n s.parts.heap ≡ found → IsApart s
    → FreesNothingHeld s (given_back found s).call.state → IsApart (given_back found s).call.state
apart_freed_stack a n None s e apart none = apart
apart_freed_stack a n (Some u) s e apart none =
    let f = freestk_frees a n s.parts.heap u apart.low e in apart_given s u f.start (cells_for n) f.freed apart none

pub apart_freestk : (a n : ℕ) (s : Xinu) → IsApart s → FreesNothingHeld s (freestk a n s).call.state → IsApart (freestk a n s).call.state
apart_freestk a n s apart none = apart_freed_stack a n (heap.free_stack a n s.parts.heap) s refl apart none

-- A pool is made of memory that is granted for it.
apart_with_pool : (grant : Grant) (sem size n : ℕ) (s : Xinu) → heap.take_memory (pool_bytes size n) s.parts.heap ≡ Some grant → IsApart s
    → IsApart (with_pool grant sem size n s).call.state
apart_with_pool grant sem size n s e apart =
    let g = getmem_grants (pool_bytes size n) s.parts.heap grant e in
    let pool = new_pool grant.address size n sem in
    let room = room_in_cells (pool_bytes size n) in
    record {
      low = low_stays s.parts.heap grant.heap g.taken.low apart.low;
      stacks = λ p. stack_stays s.parts.heap grant.heap (process_at s.tables p) g.taken.low (as_many_cells g.taken) (apart.stacks p);
      claims = λ a.
          let within : is_in_pool a pool ≡ true → InCells s.parts.heap.low g.start
          (cells_for (pool_bytes size n)) a = λ h. let parts = pool_parts a pool h in let at = g.address in (omega arith, omega arith) in
          let less = claim_taken g.taken a (is_in_pool a pool) within in
          let both = times-append (is_in_pool a) s.parts.pools (pool ∷ []) in
          let new = times_first (is_in_pool a) pool [] in
          let few = apart.claims a in
          omega arith;
    }

-- a pool is made if memory and a semaphore are found
apart_made_pool : (found : Option Grant) (sem : Option ℕ) (size n : ℕ) (s : Xinu)
    → heap.take_memory (pool_bytes size n) s.parts.heap ≡ found → IsApart s → IsApart (made_pool found sem size n s).call.state
apart_made_pool (Some grant) (Some sem) size n s e apart =
    cond_both (meets_pool grant.address (pool_bytes size n) s.parts.pools) (refused s) (with_pool grant sem size n s)
    (λ (h : CallResult). IsApart h.call.state)
    (λ _. apart) (λ _. apart_with_pool grant sem size n s e apart)
apart_made_pool (Some grant) None size n s e apart = apart
apart_made_pool None sem size n s e apart = apart

-- call 28
pub apart_mkbufpool : (size n : ℕ) (s : Xinu) → IsApart s → IsApart (mkbufpool size n s).call.state
apart_mkbufpool size n s apart =
    let bytes = pool_bytes (whole_words size) n in
    cond_both (is_pool_size size n && nat_lt (length s.parts.pools) most_pools)
    (made_pool (heap.take_memory bytes s.parts.heap) (free_semaphore s.tables) (whole_words size) n s) (refused s)
    (λ (h : CallResult). IsApart h.call.state)
    (λ _. apart_made_pool (heap.take_memory bytes s.parts.heap) (free_semaphore s.tables) (whole_words size) n s refl apart)
    (λ _. apart)

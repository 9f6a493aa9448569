-- Who has which address, before and after cells are taken or freed and processes move.
use Rattle.std.proofs.Common.{◌≡◌, ◌⊎◌, ℕ, ◌+◌, ◌*◌, ◌%◌, ◌<◌, ◌≤◌, Bool, true, false, ◌&&◌, length, map, get_or, sym, ap, subst, ◌∙◌, arith, inl, inr, ⊎_elim}
use Rattle.std.specs.Prelude.{nat_le, nat_lt}
use Rattle.std.proofs.lemmas.Bool.{cases_Bool, cases_lt, and_parts, and_from, ltb-true, leb-true, lt-ltb, le-leb}
use Rattle.xinu_base.specs.declared.processes.Process.{Process}
use Rattle.event_laws.specs.Ownership.Apart.{is_in_pool, is_in_stack, holders, HasStackIn, IsApart}
use Rattle.part_laws.specs.FreeCells.{is_in_free}
use Rattle.xinu_model.specs.Heap.Cells.{Heap}
use Rattle.xinu_model.specs.Machine.{Xinu}
use Rattle.xinu_model.specs.Pools.Buffers.{BufferPool, pool_bytes}
use Rattle.xinu_model.specs.Sound.Tables.{times}
use Rattle.xinu_model.specs.Tables.{no_process, Tables, process_at}
use Rattle.xinu_laws.specs.Touches.{stack_of, stacks_of, range_of, KeepsPlaces}
use Rattle.table_laws.proofs.Lists.Maps.{one, times-map, get_or_seen}
use Rattle.part_laws.proofs.HeapCells.Marked.{AreMarked, free_inside, free_outside}

-- whether an address lies in a stack, by its highest word and its bytes
abbrev pub in_stack : ℕ → ℕ × ℕ → Bool
in_stack a stack = nat_lt a (stack.0 + 4) && nat_le (stack.0 + 4) (a + stack.1)

-- whether an address lies in a range, by its first address and its bytes
abbrev pub in_range : ℕ → ℕ × ℕ → Bool
in_range a range = nat_le range.0 a && nat_lt a (range.0 + range.1)

-- a stack is empty, or whole cells of the heap
abbrev pub IsStackIn : Heap → ℕ × ℕ → Type 0
IsStackIn h stack =
    (stack.1 ≡ 0) ⊎ ((k : ℕ) × (n : ℕ) × (stack.0 + 4 ≡ h.low + 8 * (k + n)) × (stack.1 ≡ 8 * n) × (k + n ≤ length h.cells))

-- the stack of a process, in the list of stacks
pub stack_at : (t : Tables) (p : ℕ) → stack_of (process_at t p) ≡ get_or (stacks_of t) p (0, 0)
stack_at t p = get_or_seen stack_of t.processes p no_process

-- how many pools and stacks have an address, by the ranges and the stacks
pub holders_by_places : (s : Xinu) (a : ℕ)
    → times (in_range a) (map range_of s.parts.pools) + times (in_stack a) (stacks_of s.tables) ≡ holders s a
holders_by_places s a =
    let pools = times-map range_of (in_range a) s.parts.pools in
    let stacks = times-map stack_of (in_stack a) s.tables.processes in
    ap (λ n. n + times (in_stack a) (stacks_of s.tables)) pools ∙ ap (λ n. times (is_in_pool a) s.parts.pools + n) stacks

-- If the places stay as they are, so do the claims.
pub holders_kept : (s u : Xinu) → map range_of u.parts.pools ≡ map range_of s.parts.pools → stacks_of u.tables ≡ stacks_of s.tables
    → (a : ℕ) → holders u a ≡ holders s a
holders_kept s u ranges stacks a =
    sym (holders_by_places u a)
    ∙ ap (λ l. times (in_range a) l + times (in_stack a) (stacks_of u.tables)) ranges
    ∙ ap (λ l. times (in_range a) (map range_of s.parts.pools) + times (in_stack a) l) stacks
    ∙ holders_by_places s a

-- If the places stay as they are, no address is claimed twice.
pub apart_kept : {s u : Xinu} → KeepsPlaces s u → IsApart s → IsApart u
apart_kept {s} {u} k apart = record {
  low = subst (λ (h : Heap). h.low % 8 ≡ 0) (sym k.heap) apart.low;
  stacks = λ p.
      let same = stack_at s.tables p ∙ ap (λ l. get_or l p (0, 0)) (sym k.stacks) ∙ sym (stack_at u.tables p) in
      subst (IsStackIn u.parts.heap) same (subst (λ h. IsStackIn h (stack_of (process_at s.tables p))) (sym k.heap) (apart.stacks p));
  claims = λ a.
      let held = holders_kept s u k.ranges k.stacks a in
      let free = ap (λ h. one (is_in_free a h)) k.heap in
      let few = apart.claims a in
      omega arith;
}

-- a stack of a heap is one of another with the same cells
pub stack_stays : (h u : Heap) (x : Process) → u.low ≡ h.low → length u.cells ≡ length h.cells → HasStackIn h x → HasStackIn u x
stack_stays h u x low many has =
    ⊎_elim
    (λ (none : x.stack_size ≡ 0). inl none)
    (λ (some : (k : ℕ) × (n : ℕ) × (x.stack + 4 ≡ h.low + 8 * (k + n)) × (x.stack_size ≡ 8 * n) × (k + n ≤ length h.cells)).
    inr (some.0, some.1, (let e = some.2 in omega arith), some.3, (let w = some.4 in omega arith)))
    has

-- a heap of whole cells
pub low_stays : (h u : Heap) → u.low ≡ h.low → h.low % 8 ≡ 0 → u.low % 8 ≡ 0
low_stays h u e w = omega arith

-- who is in a stack is between its ends
pub stack_parts : (a : ℕ) (x : Process) → is_in_stack a x ≡ true → (a < x.stack + 4) × (x.stack + 4 ≤ a + x.stack_size)
stack_parts a x h =
    let parts = and_parts (nat_lt a (x.stack + 4)) (nat_le (x.stack + 4) (a + x.stack_size)) h in
    (ltb-true a (x.stack + 4) parts.0, leb-true (x.stack + 4) (a + x.stack_size) parts.1)

-- and the other way round
pub stack_from : (a : ℕ) (x : Process) → a < x.stack + 4 → x.stack + 4 ≤ a + x.stack_size → is_in_stack a x ≡ true
stack_from a x low high =
    and_from (nat_lt a (x.stack + 4)) (nat_le (x.stack + 4) (a + x.stack_size)) (lt-ltb a (x.stack + 4) low)
    (le-leb (x.stack + 4) (a + x.stack_size) high)

-- nobody is in an empty stack
pub empty_stack : (a : ℕ) (x : Process) → x.stack_size ≡ 0 → is_in_stack a x ≡ false
empty_stack a x e =
    ⊎_elim
    (λ (h : is_in_stack a x ≡ true). absurd (let parts = stack_parts a x h in omega arith))
    (λ (h : is_in_stack a x ≡ false). h)
    (cases_Bool (is_in_stack a x))

-- who is in a pool is between its ends
pub pool_parts : (a : ℕ) (pool : BufferPool) → is_in_pool a pool ≡ true
    → (pool.base ≤ a) × (a < pool.base + pool_bytes pool.size pool.number)
pool_parts a pool h =
    let parts = and_parts (nat_le pool.base a) (nat_lt a (pool.base + pool_bytes pool.size pool.number)) h in
    (leb-true pool.base a parts.0, ltb-true a (pool.base + pool_bytes pool.size pool.number) parts.1)

-- the addresses of some cells
abbrev pub InCells : ℕ → ℕ → ℕ → ℕ → Type 0
InCells low start k a = (low + 8 * start ≤ a) × (a < low + 8 * (start + k))

-- an address is of some cells, or not
pub cases_cells : (low start k a : ℕ) → InCells low start k a ⊎ ((a < low + 8 * start) ⊎ (low + 8 * (start + k) ≤ a))
cases_cells low start k a =
    ⊎_elim (λ (l : a < low + 8 * start). inr (inl l))
    (λ (l : low + 8 * start ≤ a).
    ⊎_elim (λ (m : a < low + 8 * (start + k)). inl (l, m)) (λ (m : low + 8 * (start + k) ≤ a). inr (inr m))
    (cases_lt a (low + 8 * (start + k))))
    (cases_lt a (low + 8 * start))

-- at most one
pub one_at_most : (b : Bool) → one b ≤ 1
one_at_most true = omega arith
one_at_most false = omega arith

-- If cells are taken, an address of them may be claimed by another in their place.
pub claim_taken : {start k : ℕ} {h u : Heap} → AreMarked false start k h u → (a : ℕ) (b : Bool) → (b ≡ true → InCells h.low start k a)
    → one (is_in_free a u) + one b ≤ one (is_in_free a h)
claim_taken {start} {k} {h} {u} m a b within =
    ⊎_elim
    (λ (i : InCells h.low start k a).
    let both = free_inside m a i.0 i.1 in
    let was = ap one both.0 in
    let is = ap one both.1 in
    let few = one_at_most b in
    omega arith)
    (λ (o : (a < h.low + 8 * start) ⊎ (h.low + 8 * (start + k) ≤ a)).
    let same = ap one (free_outside m a o) in
    ⊎_elim
    (λ (e : b ≡ true). absurd
    (⊎_elim (λ (l : a < h.low + 8 * start). let i = within e in omega arith)
    (λ (l : h.low + 8 * (start + k) ≤ a). let i = within e in omega arith) o))
    (λ (e : b ≡ false). let none = ap one e in omega arith)
    (cases_Bool b))
    (cases_cells h.low start k a)

-- If cells are freed, an address of them that somebody claimed is free in their place.
pub claim_freed : {start k : ℕ} {h u : Heap} → AreMarked true start k h u → (a : ℕ) (b : Bool) → (InCells h.low start k a → b ≡ true)
    → one (is_in_free a u) ≤ one (is_in_free a h) + one b
claim_freed {start} {k} {h} {u} m a b within =
    ⊎_elim
    (λ (i : InCells h.low start k a). let is = ap one (within i) in let few = one_at_most (is_in_free a u) in omega arith)
    (λ (o : (a < h.low + 8 * start) ⊎ (h.low + 8 * (start + k) ≤ a)). let same = ap one (free_outside m a o) in omega arith)
    (cases_cells h.low start k a)

-- What the heap takes and frees: the kernel hands out only cells that were free, and frees only cells that were taken.
use Rattle.std.proofs.Common.{◌≡◌, ℕ, ◌+◌, ◌-◌, ◌*◌, ◌/◌, ◌%◌, ◌<◌, ◌≤◌, ◌==◌, true, false, not, ◌||◌, length, drop, Option, Some, None, refl, sym, subst, ◌∙◌, arith, ⊎_elim}
use Rattle.std.specs.Prelude.{nat_lt}
use Rattle.std.proofs.lemmas.Bool.{true≢false, cond_both, cases_lt, ltb-false, eqb-true, eqb-false, not-false, or_parts}
use Rattle.part_laws.specs.FreeCells.{IsLeast, IsGreatest, BeginNowhere, is_in_free}
use Rattle.xinu_model.specs.Heap.Cells.{Heap, cells_for, begins_with, highest_free, lowest_free, marked, Grant, grant_at, take_memory, Stack, stack_at, take_stack, freed, free_memory, free_stack}
use Rattle.part_laws.proofs.HeapCells.Rows.{cells_there, begins_past}
use Rattle.part_laws.proofs.HeapCells.Found.{OfFound, lowest_says, highest_says}
use Rattle.part_laws.proofs.HeapCells.Marked.{AreMarked, free_inside}
use Rattle.xinu_model.proofs.Heap.{cells_some}

-- and have room in their cells
pub room_in_cells : (n : ℕ) → n ≤ 8 * cells_for n
room_in_cells n = omega arith

-- What `getmem` grants of n bytes: the lowest cells in a row that are free and enough, which are taken now.
pub record IsGranted (n : ℕ) (h : Heap) (grant : Grant) : Type 0 where
  pub some : 0 < n
  pub start : ℕ
  pub least : IsLeast (cells_for n) h.cells start
  pub address : grant.address ≡ h.low + 8 * start
  pub taken : AreMarked false start (cells_for n) h grant.heap

-- What `getstk` finds of n bytes: the highest cells in a row that are free and enough, which are taken now.
pub record IsStack (n : ℕ) (h : Heap) (stack : Stack) : Type 0 where
  pub some : 0 < n
  pub start : ℕ
  pub greatest : IsGreatest (cells_for n) h.cells start
  pub top : stack.top + 4 ≡ h.low + 8 * (start + cells_for n)
  pub taken : AreMarked false start (cells_for n) h stack.heap

-- free cells that begin at a place are taken
cells_taken : (h : Heap) (start k : ℕ) → start < length h.cells → begins_with true k (drop start h.cells) ≡ true
    → AreMarked false start k h (record h { cells = marked false start k h.cells })
cells_taken h start k w b = record { before = cells_there true start k h.cells (omega arith) b; low = refl; cells = refl }

-- what is granted if a start is found
grant_found : (n : ℕ) (h : Heap) (grant : Grant) (found : Option ℕ) → 0 < n
    → OfFound (IsLeast (cells_for n) h.cells) (BeginNowhere (cells_for n) h.cells) found → grant_at h (cells_for n) found ≡ Some grant
    → IsGranted n h grant
grant_found n h grant None z says e = absurd (cc)
grant_found n h grant (Some start) z says e =
    let k = cells_for n in
    let is : record { address = h.low + 8 * start; heap = record h { cells = marked false start k h.cells } } ≡ grant = cc in
    subst (IsGranted n h) is (record { some = z; start = start; least = says; address = refl; taken = cells_taken h start k says.place says.begins })

-- The heap grants the lowest cells that are free.
pub getmem_grants : (n : ℕ) (h : Heap) (grant : Grant) → take_memory n h ≡ Some grant → IsGranted n h grant
getmem_grants n h grant =
    cond_both (n == 0) None (grant_at h (cells_for n) (lowest_free (cells_for n) h.cells)) (λ x. x ≡ Some grant → IsGranted n h grant)
    (λ _ e. absurd (cc))
    (λ b e. let some = eqb-false n 0 b in grant_found n h grant (lowest_free (cells_for n) h.cells) (omega arith)
    (lowest_says (cells_for n) h.cells) e)

-- what stack is found if a start is
stack_found : (n : ℕ) (h : Heap) (stack : Stack) (found : Option ℕ) → 0 < n
    → OfFound (IsGreatest (cells_for n) h.cells) (BeginNowhere (cells_for n) h.cells) found → stack_at h (cells_for n) found ≡ Some stack
    → IsStack n h stack
stack_found n h stack None z says e = absurd (cc)
stack_found n h stack (Some start) z says e =
    let k = cells_for n in
    let is : record { top = h.low + 8 * (start + k) - 4; heap = record h { cells = marked false start k h.cells } } ≡ stack = cc in
    let some = cells_some n z in
    subst (IsStack n h) is (record { some = z; start = start; greatest = says; top = omega arith; taken = cells_taken h start k says.place says.begins })

-- The heap gives a stack the highest cells that are free.
pub getstk_finds : (n : ℕ) (h : Heap) (stack : Stack) → take_stack n h ≡ Some stack → IsStack n h stack
getstk_finds n h stack =
    cond_both (n == 0) None (stack_at h (cells_for n) (highest_free (cells_for n) h.cells)) (λ x. x ≡ Some stack → IsStack n h stack)
    (λ _ e. absurd (cc))
    (λ b e. let some = eqb-false n 0 b in stack_found n h stack (highest_free (cells_for n) h.cells) (omega arith)
    (highest_says (cells_for n) h.cells) e)

-- What `freemem` frees of n bytes at an address: whole cells that were taken.
pub record IsFreed (address n : ℕ) (h u : Heap) : Type 0 where
  pub some : 0 < n
  pub start : ℕ
  pub place : address ≡ h.low + 8 * start
  pub freed : AreMarked true start (cells_for n) h u

-- taken cells that begin at a place are freed
pub cells_freed : (h u : Heap) (start k : ℕ) → 0 < k → freed h start k ≡ Some u → AreMarked true start k h u
cells_freed h u start k z =
    cond_both (begins_with false k (drop start h.cells)) (Some (record h { cells = marked true start k h.cells })) None
    (λ x. x ≡ Some u → AreMarked true start k h u)
    (λ b e.
    let is : record h { cells = marked true start k h.cells } ≡ u = cc in
    let there : start ≤ length h.cells = ⊎_elim
    (λ (l : start < length h.cells). omega arith)
    (λ (l : length h.cells ≤ start). absurd (true≢false (sym b ∙ begins_past false k start h.cells z l)))
    (cases_lt start (length h.cells)) in
    subst (AreMarked true start k h) is (record { before = cells_there false start k h.cells there b; low = refl; cells = refl }))
    (λ _ e. absurd (cc))

-- The heap frees cells that were taken.
pub freemem_frees : (address n : ℕ) (h u : Heap) → h.low % 8 ≡ 0 → free_memory address n h ≡ Some u → IsFreed address n h u
freemem_frees address n h u whole =
    cond_both ((n == 0) || (not (address % 8 == 0) || nat_lt address h.low)) None (freed h ((address - h.low) / 8) (cells_for n))
    (λ x. x ≡ Some u → IsFreed address n h u)
    (λ _ e. absurd (cc))
    (λ b e.
    let fits = or_parts (n == 0) (not (address % 8 == 0) || nat_lt address h.low) b in
    let lies = or_parts (not (address % 8 == 0)) (nat_lt address h.low) fits.1 in
    let some = eqb-false n 0 fits.0 in
    let eight = eqb-true (address % 8) 0 (not-false (address % 8 == 0) lies.0) in
    let above = ltb-false address h.low lies.1 in
    let z : 0 < n = omega arith in
    record {
      some = z;
      start = (address - h.low) / 8;
      place = omega arith;
      freed = cells_freed h u ((address - h.low) / 8) (cells_for n) (cells_some n z) e;
    })

-- What `freestk` frees of n bytes whose highest word is at an address: whole cells that were taken.
pub record IsStackFreed (top n : ℕ) (h u : Heap) : Type 0 where
  pub some : 0 < n
  pub start : ℕ
  pub place : top + 4 ≡ h.low + 8 * (start + cells_for n)
  pub freed : AreMarked true start (cells_for n) h u

-- The heap frees the cells of a stack, which were taken.
pub freestk_frees : (top n : ℕ) (h u : Heap) → h.low % 8 ≡ 0 → free_stack top n h ≡ Some u → IsStackFreed top n h u
freestk_frees top n h u whole =
    cond_both (nat_lt (top + 4) (8 * cells_for n)) None (free_memory (top + 4 - 8 * cells_for n) n h)
    (λ x. x ≡ Some u → IsStackFreed top n h u)
    (λ _ e. absurd (cc))
    (λ b e.
    let above = ltb-false (top + 4) (8 * cells_for n) b in
    let f = freemem_frees (top + 4 - 8 * cells_for n) n h u whole e in
    let lies = f.place in
    record { some = f.some; start = f.start; place = omega arith; freed = f.freed })

-- The kernel hands out only memory that was free just before, and that nobody else can be granted as long as it is taken.
pub grants_were_free : (n : ℕ) (h : Heap) (grant : Grant) → take_memory n h ≡ Some grant → (a : ℕ) → grant.address ≤ a
    → a < grant.address + n → (is_in_free a h ≡ true) × (is_in_free a grant.heap ≡ false)
grants_were_free n h grant e a low high =
    let g = getmem_grants n h grant e in
    let at = g.address in
    let room = room_in_cells n in
    free_inside g.taken a (omega arith) (omega arith)

-- The kernel hands out only stacks that were free just before.
pub stacks_were_free : (n : ℕ) (h : Heap) (stack : Stack) → take_stack n h ≡ Some stack → (a : ℕ) → a < stack.top + 4
    → stack.top + 4 ≤ a + n → (is_in_free a h ≡ true) × (is_in_free a stack.heap ≡ false)
stacks_were_free n h stack e a low high =
    let s = getstk_finds n h stack e in
    let at = s.top in
    let room = room_in_cells n in
    free_inside s.taken a (omega arith) (omega arith)

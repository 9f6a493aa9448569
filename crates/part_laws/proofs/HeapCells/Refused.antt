-- When the heap refuses: it has no such cells in a row, or what is given back wasn't taken as it is named.
use Rattle.std.proofs.Common.{◌≡◌, ℕ, ◌<◌, ◌==◌, Option, Some, None, refl, arith}
use Rattle.std.proofs.lemmas.Bool.{cond_both, eqb-true}
use Rattle.part_laws.specs.FreeCells.{BeginNowhere}
use Rattle.xinu_model.specs.Heap.Cells.{Heap, cells_for, highest_free, lowest_free, grant_at, take_memory, stack_at, take_stack}
use Rattle.part_laws.proofs.HeapCells.Found.{lowest_is_nowhere, highest_is_nowhere}

-- nothing was found if nothing is granted
grant_refused : (h : Heap) (k : ℕ) (found : Option ℕ) → grant_at h k found ≡ None → found ≡ None
grant_refused h k None e = refl
grant_refused h k (Some start) e = absurd (cc)

-- `getmem` refuses some bytes only if the heap has no free cells in a row that hold them.
pub getmem_refuses : (n : ℕ) (h : Heap) → 0 < n → take_memory n h ≡ None → BeginNowhere (cells_for n) h.cells
getmem_refuses n h z =
    let k = cells_for n in
    cond_both (n == 0) None (grant_at h k (lowest_free k h.cells)) (λ x. x ≡ None → BeginNowhere k h.cells)
    (λ b. absurd (let none = eqb-true n 0 b in omega arith))
    (λ _ e. lowest_is_nowhere k h.cells (grant_refused h k (lowest_free k h.cells) e))

-- nothing was found if there is no stack
stack_refused : (h : Heap) (k : ℕ) (found : Option ℕ) → stack_at h k found ≡ None → found ≡ None
stack_refused h k None e = refl
stack_refused h k (Some start) e = absurd (cc)

-- `getstk` refuses some bytes only if the heap has no free cells in a row that hold them.
pub getstk_refuses : (n : ℕ) (h : Heap) → 0 < n → take_stack n h ≡ None → BeginNowhere (cells_for n) h.cells
getstk_refuses n h z =
    let k = cells_for n in
    cond_both (n == 0) None (stack_at h k (highest_free k h.cells)) (λ x. x ≡ None → BeginNowhere k h.cells)
    (λ b. absurd (let none = eqb-true n 0 b in omega arith))
    (λ _ e. highest_is_nowhere k h.cells (stack_refused h k (highest_free k h.cells) e))

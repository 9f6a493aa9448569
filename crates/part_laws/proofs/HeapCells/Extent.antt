-- What changes the heap leaves it where it is.
use Rattle.std.proofs.Common.{◌≡◌, ℕ, ◌+◌, ◌-◌, ◌*◌, ◌/◌, ◌%◌, ◌==◌, ◌||◌, Bool, not, Option, Some, None, refl, arith}
use Rattle.std.specs.Prelude.{nat_lt, unwrap_or}
use Rattle.std.proofs.lemmas.Bool.{cond_both, eqb-false, or_parts}
use Rattle.xinu_model.specs.Heap.Cells as heap
use Rattle.xinu_model.specs.Heap.Cells.{Heap, cells_for, freed}
use Rattle.part_laws.specs.FreeCells.{HasSameExtent}
use Rattle.part_laws.proofs.HeapCells.Marked.{AreMarked, as_many_cells}
use Rattle.part_laws.proofs.HeapCells.Taken.{cells_freed}
use Rattle.xinu_model.proofs.Heap.{cells_some}

-- nothing changes
pub same_extent : (h : Heap) → HasSameExtent h h
same_extent h = record { low = refl; many = refl }

-- cells that became of a kind are as many
pub extent_marked : {kind : Bool} {start k : ℕ} {h u : Heap} → AreMarked kind start k h u → HasSameExtent h u
extent_marked m = record { low = m.low; many = as_many_cells m }

-- memory is given back
pub extent_freemem : (a n : ℕ) (h u : Heap) → heap.free_memory a n h ≡ Some u → HasSameExtent h u
extent_freemem a n h u =
    cond_both ((n == 0) || (not (a % 8 == 0) || nat_lt a h.low)) None (freed h ((a - h.low) / 8) (cells_for n))
    (λ x. x ≡ Some u → HasSameExtent h u)
    (λ _ e. absurd (cc))
    (λ b e.
    let some = eqb-false n 0 (or_parts (n == 0) (not (a % 8 == 0) || nat_lt a h.low) b).0 in
    extent_marked (cells_freed h u ((a - h.low) / 8) (cells_for n) (cells_some n (omega arith)) e))

-- a stack is given back
pub extent_freestk : (a n : ℕ) (h u : Heap) → heap.free_stack a n h ≡ Some u → HasSameExtent h u
extent_freestk a n h u =
    cond_both (nat_lt (a + 4) (8 * cells_for n)) None (heap.free_memory (a + 4 - 8 * cells_for n) n h) (λ x. x ≡ Some u → HasSameExtent h u)
    (λ _ e. absurd (cc))
    (λ _ e. extent_freemem (a + 4 - 8 * cells_for n) n h u e)

-- and if it is refused the heap stays
pub extent_unless : (found : Option Heap) (h : Heap) → ((u : Heap) → found ≡ Some u → HasSameExtent h u)
    → HasSameExtent h (unwrap_or found h)
extent_unless None h each = same_extent h
extent_unless (Some u) h each = each u refl

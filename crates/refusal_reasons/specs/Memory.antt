-- Why the calls on the heap are refused (book, chapter 9).
use Rattle.std.specs.Prelude.{ℕ, ◌+◌, ◌-◌, ◌*◌, ◌/◌, ◌%◌, ◌==◌, nat_lt, Bool, true, false, not, ◌&&◌, ◌||◌, List, [], ◌∷◌, drop}
use Rattle.std.specs.List.{list_any}
use Rattle.refusal_reasons.specs.Causes.{cause, CauseRow, row}
use Rattle.refusal_reasons.specs.declared.reasons.Cause.{Cause}
use Rattle.refusal_reasons.specs.declared.reasons.Reason.TheVariants.{NoBytes, NoBlock, NotAligned, NotTop, FreeAlready, NotTaken}
use Rattle.xinu_model.specs.Heap.Cells.{Heap, begins_with, cells_for, free_blocks}
use Rattle.xinu_model.specs.Machine.{Xinu}
use Rattle.xinu_model.specs.Memory.{ranges_meet}

-- whether k free cells in a row begin somewhere
abbrev pub has_free : ℕ → List Bool → Bool
has_free k [] = false
has_free k (c ∷ cells) = begins_with true k (c ∷ cells) || has_free k cells

-- the heap has no free block of n bytes
abbrev pub no_block : ℕ → Xinu → Cause
no_block n s = cause NoBlock (not (has_free (cells_for n) s.parts.heap.cells))

-- the cells of the heap from an address on
abbrev pub cells_from : ℕ → Heap → List Bool
cells_from a h = drop ((a - h.low) / 8) h.cells

-- whether n bytes from an address on are cells of the heap that are taken
abbrev pub are_taken : ℕ → ℕ → Heap → Bool
are_taken a n h = not (nat_lt a h.low) && begins_with false (cells_for n) (cells_from a h)

-- whether they share an address with a free block
abbrev pub are_free : ℕ → ℕ → Heap → Bool
are_free a n h = list_any (λ b. ranges_meet a (8 * cells_for n) b.0 b.1) (free_blocks h)

-- n bytes from an address on aren't taken: some of them are free, or they aren't the heap's
abbrev pub giving_causes : ℕ → ℕ → Heap → List Cause
giving_causes a n h = cause FreeAlready (not (are_taken a n h) && are_free a n h) ∷ cause NotTaken (not (are_taken a n h)) ∷ []

-- `getmem` and `getstk`
abbrev pub taking_causes : ℕ → Xinu → List Cause
taking_causes n s = cause NoBytes (n == 0) ∷ no_block n s ∷ []

-- `freemem`: n bytes from an address on
abbrev pub freemem_causes : ℕ → ℕ → Heap → List Cause
freemem_causes a n h = cause NoBytes (n == 0) ∷ cause NotAligned (not (a % 8 == 0)) ∷ giving_causes a n h

-- the lowest address of a stack of n bytes whose highest word is at an address
abbrev pub bottom_of : ℕ → ℕ → ℕ
bottom_of a n = a + 4 - 8 * cells_for n

-- whether no stack of n bytes can have its highest word at an address
abbrev pub is_no_top : ℕ → ℕ → Bool
is_no_top a n = nat_lt (a + 4) (8 * cells_for n) || not (bottom_of a n % 8 == 0)

-- `freestk`: a stack of n bytes whose highest word is at an address
abbrev pub freestk_causes : ℕ → ℕ → Heap → List Cause
freestk_causes a n h = cause NoBytes (n == 0) ∷ cause NotTop (is_no_top a n) ∷ giving_causes (bottom_of a n) n h

-- the calls on the heap
abbrev pub memory_causes : List CauseRow
memory_causes =
    row 10 (λ a s. taking_causes (a 0) s) ∷
    row 11 (λ a s. freemem_causes (a 0) (a 1) s.parts.heap) ∷
    row 12 (λ a s. taking_causes (a 0) s) ∷
    row 13 (λ a s. freestk_causes (a 0) (a 1) s.parts.heap) ∷
    []

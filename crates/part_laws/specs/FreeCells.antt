-- The free cells of the heap: which addresses they have, and where enough of them are in a row: the least such place, the greatest, or none.
use Rattle.std.specs.Prelude.{◌≡◌, ℕ, ◌-◌, ◌/◌, ◌<◌, nat_le, Bool, true, false, ◌&&◌, List, length, drop, slice_index_or}
use Rattle.xinu_model.specs.Heap.Cells.{Heap, begins_with}

-- k free cells begin at this place
abbrev pub BeginAt : ℕ → List Bool → ℕ → Type 0
BeginAt k cells i = begins_with true k (drop i cells) ≡ true

-- no k free cells begin at this place
abbrev pub NoneAt : ℕ → List Bool → ℕ → Type 0
NoneAt k cells i = begins_with true k (drop i cells) ≡ false

-- k free cells begin at the least start, which is a place of the list, and at none before it
pub record IsLeast (k : ℕ) (cells : List Bool) (start : ℕ) : Type 0 where
  pub place : start < length cells
  pub begins : BeginAt k cells start
  pub least : (i : ℕ) → i < start → NoneAt k cells i

-- k free cells begin at the greatest start, which is a place of the list, and at no place after it
pub record IsGreatest (k : ℕ) (cells : List Bool) (start : ℕ) : Type 0 where
  pub place : start < length cells
  pub begins : BeginAt k cells start
  pub greatest : (i : ℕ) → start < i → i < length cells → NoneAt k cells i

-- k free cells begin at no place of the list
abbrev pub BeginNowhere : ℕ → List Bool → Type 0
BeginNowhere k cells = (i : ℕ) → i < length cells → NoneAt k cells i

-- whether an address lies in a free cell of the heap
abbrev pub is_in_free : ℕ → Heap → Bool
is_in_free a h = nat_le h.low a && slice_index_or h.cells ((a - h.low) / 8) false

-- Two heaps begin at one address and have the same number of cells.
pub record HasSameExtent (h u : Heap) : Type 0 where
  pub low : u.low ≡ h.low
  pub many : length u.cells ≡ length h.cells

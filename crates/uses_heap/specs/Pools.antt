-- Records of 24 bytes at their addresses, in a heap.
use Rattle.std.specs.Prelude.{◌≡◌, ◌⊎◌, ◌+◌, ◌<◌, ◌≤◌, ℕ, List, false}
use Rattle.std.specs.List.{All, AllPairs}
use Rattle.part_laws.specs.FreeCells.{is_in_free}
use Rattle.xinu_model.specs.Heap.Cells.{Heap}

-- Two records share no byte.
abbrev pub AreApart : ℕ → ℕ → Type 0
AreApart a b = (a + 24 ≤ b) ⊎ (b + 24 ≤ a)

-- No byte of the record at this address is free.
pub record IsTaken (h : Heap) (address : ℕ) : Type 0 where
  pub none_free : (b : ℕ) → address ≤ b → b < address + 24 → is_in_free b h ≡ false

-- The heap begins at address 0, the records are taken from it, and no two share a byte.
pub record AreRecords (h : Heap) (addresses : List ℕ) : Type 0 where
  pub low : h.low ≡ 0
  pub taken : All (IsTaken h) addresses
  pub apart : AllPairs AreApart addresses

-- A heap, and the addresses of the records that are taken from it, the oldest first.
pub record Records : Type 0 where
  pub heap : Heap
  pub addresses : List ℕ

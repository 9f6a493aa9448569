-- What is behind equal cells, and how many cells some bytes need.
use Rattle.std.proofs.Common.{◌≡◌, ℕ, zero, suc, ◌<◌, List, ◌++◌, drop, refl, arith}
use Rattle.std.specs.Prelude.{replicate}
use Rattle.xinu_model.specs.Heap.Cells.{cells_for}

-- what comes after m equal elements
pub drop_equal : {A : Type 0} (m : ℕ) (x : A) (l : List A) → drop m (replicate m x ++ l) ≡ l
drop_equal zero x l = refl
drop_equal (suc m) x l = drop_equal m x l

-- some bytes need at least one cell
pub cells_some : (n : ℕ) → 0 < n → 0 < cells_for n
cells_some n h = omega arith

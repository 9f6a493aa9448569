-- Heaps in which a row of cells became free or taken: which addresses are free afterwards.
use Rattle.std.proofs.Common.{◌≡◌, ◌⊎◌, ℕ, ◌+◌, ◌-◌, ◌*◌, ◌/◌, ◌<◌, ◌≤◌, Bool, false, not, ◌&&◌, length, get_or, sym, ap, ◌∙◌, arith, inl, inr, ⊎_elim}
use Rattle.std.specs.Prelude.{nat_le}
use Rattle.std.proofs.lemmas.Bool.{cases_lt, le-leb, lt-leb, and_left}
use Rattle.part_laws.specs.FreeCells.{is_in_free}
use Rattle.xinu_model.specs.Heap.Cells.{Heap, marked}
use Rattle.part_laws.proofs.HeapCells.Rows.{AreCells, length-marked, marked_inside, marked_below, marked_behind}

-- From h to u the k cells from start on, all of the other kind, became of this kind.
pub record AreMarked (kind : Bool) (start k : ℕ) (h u : Heap) : Type 0 where
  pub before : AreCells (not kind) start k h.cells
  pub low : u.low ≡ h.low
  pub cells : u.cells ≡ marked kind start k h.cells

-- The heap keeps how many cells it has.
pub as_many_cells : {kind : Bool} {start k : ℕ} {h u : Heap} → AreMarked kind start k h u → length u.cells ≡ length h.cells
as_many_cells {kind} {start} {k} {h} m = ap length m.cells ∙ length-marked kind start k h.cells m.before.within

-- an address of a cell is free as the cell is
pub free_as_cell : (h : Heap) (i a : ℕ) → h.low + 8 * i ≤ a → a < h.low + 8 * (i + 1) → is_in_free a h ≡ get_or h.cells i false
free_as_cell h i a low high =
    let place : (a - h.low) / 8 ≡ i = omega arith in
    ap (λ b. b && get_or h.cells ((a - h.low) / 8) false) (le-leb h.low a (omega arith)) ∙ ap (λ j. get_or h.cells j false) place

-- an address below the heap is in no free cell
free_below : (h : Heap) (a : ℕ) → a < h.low → is_in_free a h ≡ false
free_below h a w = and_left (nat_le h.low a) (get_or h.cells ((a - h.low) / 8) false) (lt-leb h.low a w)

-- the cell of an address
cell_of : (low a : ℕ) → low ≤ a → (low + 8 * ((a - low) / 8) ≤ a) × (a < low + 8 * ((a - low) / 8 + 1))
cell_of low a w = (omega arith, omega arith)

-- The addresses of the marked cells were of the other kind, and are of this one.
pub free_inside : {kind : Bool} {start k : ℕ} {h u : Heap} → AreMarked kind start k h u → (a : ℕ) → h.low + 8 * start ≤ a
    → a < h.low + 8 * (start + k) → (is_in_free a h ≡ not kind) × (is_in_free a u ≡ kind)
free_inside {kind} {start} {k} {h} {u} m a low high =
    let i = (a - h.low) / 8 in
    let c = cell_of h.low a (omega arith) in
    let e = m.low in (
      free_as_cell h i a c.0 c.1 ∙ m.before.each i (omega arith) (omega arith),
      free_as_cell u i a (omega arith) (omega arith) ∙ ap (λ cells. get_or cells i false) m.cells
          ∙ marked_inside kind start k h.cells i m.before.within (omega arith) (omega arith),
    )

-- a cell that isn't marked is as it was
cell_outside : {kind : Bool} {start k : ℕ} {h u : Heap} → AreMarked kind start k h u → (i : ℕ) → (i < start) ⊎ (start + k ≤ i)
    → get_or u.cells i false ≡ get_or h.cells i false
cell_outside {kind} {start} {k} {h} m i w =
    ap (λ cells. get_or cells i false) m.cells
    ∙ ⊎_elim (λ (l : i < start). marked_below kind start k h.cells i m.before.within l)
    (λ (l : start + k ≤ i). marked_behind kind start k h.cells i m.before.within l) w

-- where an address outside of some cells lies, by cells
place_outside : (low start k a : ℕ) → low ≤ a → (a < low + 8 * start) ⊎ (low + 8 * (start + k) ≤ a)
    → ((a - low) / 8 < start) ⊎ (start + k ≤ (a - low) / 8)
place_outside low start k a w o =
    ⊎_elim (λ (l : a < low + 8 * start). inl (omega arith)) (λ (l : low + 8 * (start + k) ≤ a). inr (omega arith)) o

-- The other addresses are as they were.
pub free_outside : {kind : Bool} {start k : ℕ} {h u : Heap} → AreMarked kind start k h u → (a : ℕ)
    → (a < h.low + 8 * start) ⊎ (h.low + 8 * (start + k) ≤ a) → is_in_free a u ≡ is_in_free a h
free_outside {kind} {start} {k} {h} {u} m a o =
    let e = m.low in
    ⊎_elim
    (λ (l : a < h.low). free_below u a (omega arith) ∙ sym (free_below h a l))
    (λ (l : h.low ≤ a).
    let i = (a - h.low) / 8 in
    let c = cell_of h.low a l in
    free_as_cell u i a (omega arith) (omega arith) ∙ cell_outside m i (place_outside h.low start k a l o)
    ∙ sym (free_as_cell h i a c.0 c.1))
    (cases_lt a h.low)

-- Cells in a row: where n of one kind begin, and what marking them changes.
use Rattle.std.proofs.Common.{◌≡◌, ℕ, zero, suc, ◌+◌, ◌-◌, ◌<◌, ◌≤◌, Bool, true, false, List, [], ◌∷◌, ◌++◌, length, take, drop, get_or, length-append, refl, sym, ap, ◌∙◌, arith}
use Rattle.std.specs.Prelude.{replicate}
use Rattle.std.proofs.lemmas.Bool.{false≢true}
use Rattle.std.proofs.lemmas.List.{length-take-le, length-drop, length-replicate, get_or-take, get_or-drop, get_or-replicate, get_or_append_left, get_or-append_right}
use Rattle.xinu_model.specs.Heap.Cells.{begins_with, marked}

-- The k cells from start on exist and are of this kind.
pub record AreCells (kind : Bool) (start k : ℕ) (cells : List Bool) : Type 0 where
  pub within : start + k ≤ length cells
  pub each : (i : ℕ) → start ≤ i → i < start + k → get_or cells i false ≡ kind

-- a cell that begins k + 1 of a kind is of that kind, and k of it follow
begins_parts : (kind : Bool) (k : ℕ) (c : Bool) (cells : List Bool) → begins_with kind (suc k) (c ∷ cells) ≡ true
    → (c ≡ kind) × (begins_with kind k cells ≡ true)
begins_parts true k true cells h = (refl, h)
begins_parts true k false cells h = absurd (false≢true h)
begins_parts false k true cells h = absurd (false≢true h)
begins_parts false k false cells h = (refl, h)

-- a list that begins with k cells has as many
pub begins_length : (kind : Bool) (k : ℕ) (cells : List Bool) → begins_with kind k cells ≡ true → k ≤ length cells
begins_length kind zero cells h = omega arith
begins_length kind (suc k) [] h = absurd (false≢true h)
begins_length kind (suc k) (c ∷ cells) h = let more = begins_length kind k cells (begins_parts kind k c cells h).1 in omega arith

-- and each of them is of the kind
pub begins_each : (kind : Bool) (k : ℕ) (cells : List Bool) → begins_with kind k cells ≡ true → (i : ℕ) → i < k
    → get_or cells i false ≡ kind
begins_each kind zero cells h i w = absurd (omega arith)
begins_each kind (suc k) [] h i w = absurd (false≢true h)
begins_each kind (suc k) (c ∷ cells) h zero w = (begins_parts kind k c cells h).0
begins_each kind (suc k) (c ∷ cells) h (suc i) w = begins_each kind k cells (begins_parts kind k c cells h).1 i (omega arith)

-- no cells begin after the last one
pub begins_past : (kind : Bool) (k start : ℕ) (cells : List Bool) → 0 < k → length cells ≤ start
    → begins_with kind k (drop start cells) ≡ false
begins_past kind zero start cells z h = absurd (omega arith)
begins_past kind (suc k) zero [] z h = refl
begins_past kind (suc k) zero (c ∷ cells) z h = absurd (omega arith)
begins_past kind (suc k) (suc start) [] z h = refl
begins_past kind (suc k) (suc start) (c ∷ cells) z h = begins_past kind (suc k) start cells z (omega arith)

-- If k cells of a kind begin, at a place of the list, they exist and are of it.
pub cells_there : (kind : Bool) (start k : ℕ) (cells : List Bool) → start ≤ length cells → begins_with kind k (drop start cells) ≡ true
    → AreCells kind start k cells
cells_there kind start k cells w h = record {
  within = let l = begins_length kind k (drop start cells) h in let d = length-drop start cells in omega arith;
  each = λ i low high.
      let place : start + (i - start) ≡ i = omega arith in
      ap (λ j. get_or cells j false) (sym place) ∙ sym (get_or-drop start cells (i - start) false) ∙ begins_each kind k (drop start cells) h (i - start) (omega arith);
}

-- the cells up to the end of what is marked
front_length : (kind : Bool) (start k : ℕ) (cells : List Bool) → start + k ≤ length cells
    → length (take start cells ++ replicate k kind) ≡ start + k
front_length kind start k cells w =
    let below = length-take-le start cells (omega arith) in
    let middle = length-replicate k kind in
    let both = length-append (take start cells) (replicate k kind) in
    omega arith

-- Marking leaves as many cells as there were.
pub length-marked : (kind : Bool) (start k : ℕ) (cells : List Bool) → start + k ≤ length cells
    → length (marked kind start k cells) ≡ length cells
length-marked kind start k cells w =
    let front = front_length kind start k cells w in
    let back = length-drop (start + k) cells in
    let whole = length-append (take start cells ++ replicate k kind) (drop (start + k) cells) in
    omega arith

-- The marked cells are of the kind.
pub marked_inside : (kind : Bool) (start k : ℕ) (cells : List Bool) (i : ℕ) → start + k ≤ length cells → start ≤ i → i < start + k
    → get_or (marked kind start k cells) i false ≡ kind
marked_inside kind start k cells i w low high =
    let below = length-take-le start cells (omega arith) in
    let front = front_length kind start k cells w in
    get_or_append_left (take start cells ++ replicate k kind) (drop (start + k) cells) false i (omega arith)
    ∙ get_or-append_right (take start cells) (replicate k kind) start i false below low
    ∙ get_or-replicate k (i - start) kind false (omega arith)

-- The cells below them are as they were.
pub marked_below : (kind : Bool) (start k : ℕ) (cells : List Bool) (i : ℕ) → start + k ≤ length cells → i < start
    → get_or (marked kind start k cells) i false ≡ get_or cells i false
marked_below kind start k cells i w low =
    let below = length-take-le start cells (omega arith) in
    let front = front_length kind start k cells w in
    get_or_append_left (take start cells ++ replicate k kind) (drop (start + k) cells) false i (omega arith)
    ∙ get_or_append_left (take start cells) (replicate k kind) false i (omega arith)
    ∙ get_or-take start cells i false low

-- And so are those after them.
pub marked_behind : (kind : Bool) (start k : ℕ) (cells : List Bool) (i : ℕ) → start + k ≤ length cells → start + k ≤ i
    → get_or (marked kind start k cells) i false ≡ get_or cells i false
marked_behind kind start k cells i w high =
    let front = front_length kind start k cells w in
    let place : start + k + (i - (start + k)) ≡ i = omega arith in
    get_or-append_right (take start cells ++ replicate k kind) (drop (start + k) cells) (start + k) i false front high
    ∙ get_or-drop (start + k) cells (i - (start + k)) false
    ∙ ap (λ j. get_or cells j false) place

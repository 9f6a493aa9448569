-- The heap and the stacks: cells of eight bytes, each free or taken (book, chapter 9).
use Rattle.std.specs.Prelude.{ℕ, zero, suc, ◌+◌, ◌-◌, ◌*◌, ◌/◌, ◌%◌, ◌==◌, nat_lt, Bool, true, false, not, if◌then◌else◌, ◌&&◌, ◌||◌, List, [], ◌∷◌, ◌++◌, replicate, take, drop, Option, Some, None, option_map}

-- Cell i holds the eight bytes from low + 8 * i on; true says that it is free.
pub record Heap : Type 0 where
  pub low : ℕ
  pub cells : List Bool

-- how many cells hold n bytes
abbrev pub cells_for : ℕ → ℕ
cells_for n = (n + 7) / 8

-- whether a list of cells begins with k cells of this kind
abbrev pub begins_with : Bool → ℕ → List Bool → Bool
begins_with kind zero cells = true
begins_with kind (suc k) [] = false
begins_with kind (suc k) (true ∷ cells) = kind && begins_with kind k cells
begins_with kind (suc k) (false ∷ cells) = not kind && begins_with kind k cells

-- one place further, or here if k free cells begin here
abbrev pub or_here : ℕ → List Bool → Option ℕ → Option ℕ
or_here k cells (Some start) = Some (suc start)
or_here k cells None = if begins_with true k cells then Some 0 else None

-- the greatest start of k free cells in a row
abbrev pub highest_free : ℕ → List Bool → Option ℕ
highest_free k [] = None
highest_free k (c ∷ cells) = or_here k (c ∷ cells) (highest_free k cells)

-- the least start of k free cells in a row
abbrev pub lowest_free : ℕ → List Bool → Option ℕ
lowest_free k [] = None
lowest_free k (c ∷ cells) = if begins_with true k (c ∷ cells) then Some 0 else option_map suc (lowest_free k cells)

-- the k cells from start on are of this kind now
abbrev pub marked : Bool → ℕ → ℕ → List Bool → List Bool
marked kind start k cells = take start cells ++ replicate k kind ++ drop (start + k) cells

-- memory that was granted: its lowest address, and the heap without it
pub record Grant : Type 0 where
  pub address : ℕ
  pub heap : Heap

-- the k cells from start on, granted
abbrev pub grant_at : Heap → ℕ → Option ℕ → Option Grant
grant_at h k None = None
grant_at h k (Some start) =
    Some (record { address = h.low + 8 * start; heap = record h { cells = marked false start k h.cells } })

-- n bytes, from the lowest cells that are free
abbrev pub take_memory : ℕ → Heap → Option Grant
take_memory n h = if n == 0 then None else grant_at h (cells_for n) (lowest_free (cells_for n) h.cells)

-- a stack: the address of its highest word, and the heap without it
pub record Stack : Type 0 where
  pub top : ℕ
  pub heap : Heap

-- the stack of k cells from start on
abbrev pub stack_at : Heap → ℕ → Option ℕ → Option Stack
stack_at h k None = None
stack_at h k (Some start) =
    Some (record { top = h.low + 8 * (start + k) - 4; heap = record h { cells = marked false start k h.cells } })

-- a stack of n bytes, from the highest cells that are free
abbrev pub take_stack : ℕ → Heap → Option Stack
take_stack n h = if n == 0 then None else stack_at h (cells_for n) (highest_free (cells_for n) h.cells)

-- the heap with k cells freed from start on, which exist and are taken
abbrev pub freed : Heap → ℕ → ℕ → Option Heap
freed h start k =
    if begins_with false k (drop start h.cells) then Some (record h { cells = marked true start k h.cells }) else None

-- n bytes from address a on are given back
abbrev pub free_memory : ℕ → ℕ → Heap → Option Heap
free_memory a n h =
    if (n == 0) || (not (a % 8 == 0) || nat_lt a h.low) then None else freed h ((a - h.low) / 8) (cells_for n)

-- a stack of n bytes whose highest word is at a is given back
abbrev pub free_stack : ℕ → ℕ → Heap → Option Heap
free_stack a n h = if nat_lt (a + 4) (8 * cells_for n) then None else free_memory (a + 4 - 8 * cells_for n) n h

-- a free block: its address and its bytes
abbrev pub Block : Type 0
Block = ℕ × ℕ

-- a free cell at an address, before the blocks after it
abbrev pub with_cell : ℕ → List Block → List Block
with_cell a [] = (a, 8) ∷ []
with_cell a (b ∷ blocks) = if b.0 == a + 8 then (a, b.1 + 8) ∷ blocks else (a, 8) ∷ b ∷ blocks

-- the free blocks of the cells from an address on, none touching the next
abbrev pub blocks_from : ℕ → List Bool → List Block
blocks_from a [] = []
blocks_from a (true ∷ cells) = with_cell a (blocks_from (a + 8) cells)
blocks_from a (false ∷ cells) = blocks_from (a + 8) cells

-- the free blocks by address
abbrev pub free_blocks : Heap → List Block
free_blocks h = blocks_from h.low h.cells

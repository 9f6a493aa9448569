-- Places of programs that pass items through a buffer: the word that lies there, and what is known of the registers.
use Rattle.std.specs.Prelude.{◌≡◌, ◌+◌, ◌%◌, ◌^◌, ℕ, List, [], ◌∷◌, slice_index, Option, Some, None}

-- How far a process is in its round. While the semaphores are still to be made: both of them, or the second. Then it has no token; it has one; or
-- it has moved its item, and is still to call `signal`.
pub data Phase : Type 0 where
  Bare : Phase
  Single : Phase
  Outside : Phase
  Holding : Phase
  Done : Phase

-- What is known of a register: its value, or that it is how many rounds the process has completed, and a number more.
pub data Known : Type 0 where
  Number : (register : ℕ) → (value : ℕ) → Known
  Counts : (register : ℕ) → (more : ℕ) → Known

-- the same of the registers, after c rounds
abbrev pub Holds : ℕ → List ℕ → Known → Type 0
Holds c regs (Number i x) = slice_index regs i ≡ x
Holds c regs (Counts i x) = slice_index regs i ≡ (c + x) % 2 ^ 32

abbrev pub All : ℕ → List ℕ → List Known → Type 0
All c regs [] = Unit {0}
All c regs (x ∷ xs) = Holds c regs x × All c regs xs

-- nothing is known where no process comes
abbrev pub Says : Option (List Known) → ℕ → List ℕ → Type 0
Says None c regs = ⊥
Says (Some xs) c regs = All c regs xs

-- A place: its word, which of the two slots its round is on, and what is known there in each phase.
pub record Row : Type 0 where
  pub word : ℕ
  pub slot : ℕ
  pub bare : Option (List Known)
  pub single : Option (List Known)
  pub outside : Option (List Known)
  pub holding : Option (List Known)
  pub done : Option (List Known)

abbrev pub known_in : Phase → Row → Option (List Known)
known_in Bare r = r.bare
known_in Single r = r.single
known_in Outside r = r.outside
known_in Holding r = r.holding
known_in Done r = r.done

-- what is known at a place in a phase, after c rounds: rounds are on slots 0 and 1 by turns
abbrev pub says : Phase → Row → ℕ → List ℕ → Type 0
says f r c regs = (c % 2 ≡ r.slot) × Says (known_in f r) c regs

-- no process comes to a place that isn't in the program
abbrev pub row : ℕ → ℕ → Row
row word slot = record { word = word; slot = slot; bare = None; single = None; outside = None; holding = None; done = None }

abbrev pub no_row : Row
no_row = row 0 0

-- places to which a process comes in one phase, or in two
abbrev pub bare : ℕ → List Known → Row
bare word xs = record (row word 0) { bare = Some xs }

abbrev pub single : ℕ → List Known → Row
single word xs = record (row word 0) { single = Some xs }

abbrev pub outside : ℕ → ℕ → List Known → Row
outside word slot xs = record (row word slot) { outside = Some xs }

abbrev pub holding : ℕ → ℕ → List Known → Row
holding word slot xs = record (row word slot) { holding = Some xs }

abbrev pub done : ℕ → ℕ → List Known → Row
done word slot xs = record (row word slot) { done = Some xs }

abbrev pub either : ℕ → ℕ → List Known → List Known → Row
either word slot xs ys = record (row word slot) { outside = Some xs; holding = Some ys }

abbrev pub words_in : List Row → List ℕ
words_in [] = []
words_in (r ∷ rows) = r.word ∷ words_in rows

-- Clocks of 64 processes, in rows of 64 numbers.
use Rattle.std.specs.Prelude.{ℕ, List, [], length, slice_index_or}
use Rattle.happens_before.specs.Clocks.{Clock}

-- the clock that a row holds; a process that it lacks has 0
abbrev pub clock_in : List ℕ → Clock
clock_in row u = slice_index_or row u 0

-- the clock in row k; a row that isn't there says nothing
abbrev pub clock_at : List (List ℕ) → ℕ → Clock
clock_at rows k = clock_in (slice_index_or rows k [])

-- What is held: a row for each process, and one for each part whose clock is kept.
pub record Held : Type 0 where
  pub processes : List (List ℕ)
  pub parts : List (List ℕ)

-- of each process, what comes before what it does next
abbrev pub knows : Held → ℕ → Clock
knows x = clock_at x.processes

-- the kept clocks, by their names
abbrev pub kept : Held → ℕ → Clock
kept x = clock_at x.parts

-- how many are kept: their names are the numbers below
abbrev pub count : Held → ℕ
count x = length x.parts

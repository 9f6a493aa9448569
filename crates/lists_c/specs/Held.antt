-- The three lists of a table: what they are, and what each call makes of them.
use Rattle.std.specs.Prelude.{ℕ, ℤ, pos, int_le, Bool, false, ◌||◌, List, [], ◌++◌, ◌∷◌, Option, Some, None}
use Rattle.queue_table.specs.Lists.{Entry, delay_insert, first_key_of, is_listed, rest_of, sooner, without}
use Rattle.xinu_base.specs.Insert.{ready_insert}

-- Processes with their priorities, the first to run first; processes that wait, the first to go on first; and sleepers with the ticks that
-- are left to each, the first to wake first.
pub record Lists : Type 0 where
  pub ready : List Entry
  pub waiters : List Entry
  pub sleepers : List Entry

-- no process is in a list
abbrev pub no_lists : Lists
no_lists = record { ready = []; waiters = []; sleepers = [] }

-- whether a process is in one of the lists
abbrev pub is_held : ℕ → Lists → Bool
is_held p s = is_listed p s.ready || (is_listed p s.waiters || is_listed p s.sleepers)

-- a process becomes ready, after those of its priority
abbrev pub with_ready : ℕ → ℤ → Lists → Lists
with_ready p key s = record s { ready = ready_insert p key s.ready }

-- a process waits, after the others
abbrev pub with_waiter : ℕ → Lists → Lists
with_waiter p s = record s { waiters = s.waiters ++ (p, pos 0) ∷ [] }

-- a process sleeps, after those that wake then or sooner
abbrev pub with_sleeper : ℕ → ℤ → Lists → Lists
with_sleeper p ticks s = record s { sleepers = delay_insert p ticks s.sleepers }

-- a process is taken out of its list
abbrev pub without_process : ℕ → Lists → Lists
without_process p s =
    record { ready = without p s.ready; waiters = without p s.waiters; sleepers = without p s.sleepers }

-- whether a sleeper with these ticks left is due, if there is one
abbrev pub has_none_left : Option ℤ → Bool
has_none_left None = false
has_none_left (Some ticks) = int_le ticks (pos 0)

-- whether the first sleeper is due
abbrev pub is_due : Lists → Bool
is_due s = has_none_left (first_key_of s.sleepers)

-- a tick passes
abbrev pub ticked : Lists → Lists
ticked s = record s { sleepers = sooner s.sleepers }

-- the first of a list is taken out
abbrev pub ready_taken : Lists → Lists
ready_taken s = record s { ready = rest_of s.ready }

abbrev pub waiter_taken : Lists → Lists
waiter_taken s = record s { waiters = rest_of s.waiters }

abbrev pub sleeper_taken : Lists → Lists
sleeper_taken s = record s { sleepers = rest_of s.sleepers }

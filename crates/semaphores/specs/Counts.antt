-- The table of semaphores, with a signed count for each, and how it fits the lists in which the waiters are.
use Rattle.std.specs.Prelude.{◌≡◌, ◌<◌, ℕ, suc, List, ◌∷◌, length, map, replicate, slice_index_or, slice_set, Option, Some, None, ℤ, pos, negsuc}
use Rattle.queue_table.specs.Lists.{Entry, list_at}
use Rattle.process_core.specs.Tables.{Beside, Mark}
use Rattle.semaphores.specs.declared.sems.SemaphoreEntry.{SemaphoreEntry}
use Rattle.xinu_base.specs.declared.semaphores.Owner.{Owner}
use Rattle.xinu_base.specs.declared.semaphores.Owner.TheVariants as owner
use Rattle.xinu_model.specs.Semaphores.Counts.{free_semaphore, make_semaphore}
use Rattle.xinu_model.specs.Tables.{Tables}

-- The table of semaphores: the entries by number, and the last number given.
pub record SemaphoreTable : Type 0 where
  pub entries : List SemaphoreEntry
  pub last_semaphore : ℕ

-- what is at a free number
abbrev pub no_entry : SemaphoreEntry
no_entry = record { owner = None; count = pos 0 }

-- the entry of semaphore sem
abbrev pub entry_at : List SemaphoreEntry → ℕ → SemaphoreEntry
entry_at es sem = slice_index_or es sem no_entry

-- the tokens of a signed count
abbrev pub tokens_of : ℤ → ℕ
tokens_of (pos n) = n
tokens_of (negsuc n) = 0

-- the number of processes that wait, by a signed count
abbrev pub waiting_of : ℤ → ℕ
waiting_of (pos n) = 0
waiting_of (negsuc n) = suc n

-- what an entry says of a semaphore beside its waiters
abbrev pub mark_in : SemaphoreEntry → Mark
mark_in e = record { owner = e.owner; tokens = tokens_of e.count }

-- what the kernel's tables have beside lists and processes, with these semaphores, messages and ticks
abbrev pub beside : SemaphoreTable → List (Option ℕ) → ℕ → Beside
beside s messages ticks =
    record { messages = messages; marks = map mark_in s.entries; ticks = ticks; last_semaphore = s.last_semaphore }

-- A count below 0 is the number of those in the semaphore's list, and else the list is empty; a free number has no count.
pub record Counts (ls : List (List Entry)) (es : List SemaphoreEntry) : Type 0 where
  pub size : length es ≡ 128
  pub waiting : (sem : ℕ) → sem < 128 → length (list_at ls sem) ≡ waiting_of (entry_at es sem).count
  pub unused : (sem : ℕ) → (entry_at es sem).owner ≡ None → (entry_at es sem).count ≡ pos 0

-- the table with another entry of semaphore sem
abbrev pub with_entry : ℕ → SemaphoreEntry → SemaphoreTable → SemaphoreTable
with_entry sem e s = record s { entries = slice_set s.entries sem e }

-- the table with another count of semaphore sem
abbrev pub with_count : ℕ → ℤ → SemaphoreTable → SemaphoreTable
with_count sem n s = with_entry sem (record (entry_at s.entries sem) { count = n }) s

-- a semaphore of the kernel's, with this count
abbrev pub device_entry : ℤ → SemaphoreEntry
device_entry n = record { owner = Some owner.Device; count = n }

-- The semaphores at the start: those of console input, console output, the callers of the raw disk and those of the file system.
abbrev pub kernel_semaphores : SemaphoreTable
kernel_semaphores = record {
  entries = device_entry (pos 0) ∷ device_entry (pos 64) ∷ device_entry (pos 0) ∷ device_entry (pos 0) ∷ replicate 124 no_entry;
  last_semaphore = 3;
}

-- the number that a new semaphore with this count gets
abbrev pub number_for : ℤ → Tables → Option ℕ
number_for (pos n) t = free_semaphore t
number_for (negsuc n) t = None

-- the tables with a new semaphore, if it got a number
abbrev pub with_made : Option ℕ → Owner → ℤ → Tables → Tables
with_made (Some sem) by count t = make_semaphore sem by (tokens_of count) t
with_made None by count t = t

-- the table of semaphores then
abbrev pub with_made_entry : Option ℕ → Owner → ℤ → SemaphoreTable → SemaphoreTable
with_made_entry (Some sem) by count s = record (with_entry sem (record { owner = Some by; count = count }) s) { last_semaphore = sem }
with_made_entry None by count s = s

-- a number and another one, if that was found
abbrev pub paired : ℕ → Option ℕ → Option (ℕ × ℕ)
paired first None = None
paired first (Some second) = Some (first, second)

-- the numbers of two new semaphores, if the first got one: the second is sought after the first is made
abbrev pub second_number : Option ℕ → Owner → ℤ → Tables → Option (ℕ × ℕ)
second_number None by count t = None
second_number (Some first) by count t = paired first (free_semaphore (make_semaphore first by (tokens_of count) t))

-- the numbers of two new semaphores, the first with this count and the second with no tokens
abbrev pub two_numbers : Owner → ℤ → Tables → Option (ℕ × ℕ)
two_numbers by count t = second_number (number_for count t) by count t

-- the tables with both, if they got numbers
abbrev pub with_two : Option (ℕ × ℕ) → Owner → ℤ → Tables → Tables
with_two None by count t = t
with_two (Some (first, second)) by count t = make_semaphore second by 0 (make_semaphore first by (tokens_of count) t)

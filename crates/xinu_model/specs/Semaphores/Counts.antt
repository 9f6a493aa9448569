-- The table of semaphores: owners, counts, and the search for a free number (book, chapter 7).
use Rattle.std.specs.Prelude.{ℕ, ◌+◌, Bool, true, false, not, [], length, slice_set, Option, Some, is_some, ℤ, pos, ◌+ℤ◌, neg_ℤ}
use Rattle.xinu_base.specs.Constants.{NSEM}
use Rattle.xinu_base.specs.declared.semaphores.Owner.{Owner}
use Rattle.xinu_base.specs.declared.semaphores.Owner.TheVariants as owner
use Rattle.xinu_model.specs.Searches.{search}
use Rattle.xinu_model.specs.Tables.{Semaphore, Tables, semaphore_at}

-- the greatest count of a semaphore
abbrev pub most_tokens : ℤ
most_tokens = pos 2147483647

-- the tables with another semaphore sem
abbrev pub with_semaphore : ℕ → Semaphore → Tables → Tables
with_semaphore sem x t = record t { semaphores = slice_set t.semaphores sem x }

-- the tables with n tokens at semaphore sem
abbrev pub with_tokens : ℕ → ℕ → Tables → Tables
with_tokens sem n t = with_semaphore sem (record (semaphore_at t sem) { tokens = n }) t

-- the count of a semaphore: its tokens less its waiters
abbrev pub count_of : Semaphore → ℤ
count_of x = pos x.tokens +ℤ neg_ℤ (pos (length x.waiters))

-- whether a semaphore is one that a process made
abbrev pub is_images : Option Owner → Bool
is_images (Some owner.Image) = true
is_images _ = false

-- whether a process may name semaphore sem: it is in use, and one that a process made
abbrev pub is_good : ℕ → Tables → Bool
is_good sem t = is_images (semaphore_at t sem).owner

-- the free number that the next semaphore gets
abbrev pub free_semaphore : Tables → Option ℕ
free_semaphore t = search (λ sem. not (is_some (semaphore_at t sem).owner)) NSEM (t.last_semaphore + 1)

-- semaphore sem is made, with an owner and n tokens
abbrev pub make_semaphore : ℕ → Owner → ℕ → Tables → Tables
make_semaphore sem by tokens t =
    record (with_semaphore sem (record { owner = Some by; tokens = tokens; waiters = [] }) t) { last_semaphore = sem }

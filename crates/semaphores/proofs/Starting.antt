-- The semaphores at the start.
use Rattle.std.proofs.Common.{◌≡◌, ◌∙◌, ℕ, zero, suc, List, [], ◌∷◌, length, replicate, None, refl, sym, ap, pos}
use Rattle.std.specs.List.{AllByRecursion}
use Rattle.queue_table.specs.Lists.{list_at}
use Rattle.xinu_model.specs.Boot.{first_semaphores, null_tables}
use Rattle.process_core.specs.Starts.{first_beside}
use Rattle.semaphores.specs.declared.sems.SemaphoreEntry.{SemaphoreEntry}
use Rattle.semaphores.specs.Counts.{Counts, beside, entry_at, kernel_semaphores, no_entry, waiting_of}

-- The semaphores at the start are those of the machine.
pub beside_start : beside kernel_semaphores null_tables.messages 0 ≡ first_beside
unfolding first_semaphores
beside_start = refl

-- nobody waits in an empty list
none_listed : (n sem : ℕ) → list_at (replicate n []) sem ≡ []
none_listed zero sem = refl
none_listed (suc n) zero = refl
none_listed (suc n) (suc sem) = none_listed n sem

-- an entry with no count below 0, and with none if it is free
pub record IsStart (e : SemaphoreEntry) : Type 0 where
  pub waiting : waiting_of e.count ≡ 0
  pub unused : e.owner ≡ None → e.count ≡ pos 0

-- what is at a free number is such an entry
free_starts : IsStart no_entry
free_starts = record { waiting = refl; unused = λ e. refl }

-- and so are all that are alike
all_free : (n : ℕ) → AllByRecursion IsStart (replicate n no_entry)
all_free zero = tt
all_free (suc n) = (free_starts, all_free n)

-- what holds of all holds of each
start_at : (es : List SemaphoreEntry) (sem : ℕ) → AllByRecursion IsStart es → IsStart (entry_at es sem)
start_at [] sem h = free_starts
start_at (e ∷ es) zero h = h.0
start_at (e ∷ es) (suc sem) h = start_at es sem h.1

-- the kernel's own are such entries
kernel_starts : AllByRecursion IsStart kernel_semaphores.entries
kernel_starts = (
  record { waiting = refl; unused = λ e. refl },
  (
    record { waiting = refl; unused = λ e. absurd (cc) },
    (
      record { waiting = refl; unused = λ e. refl },
      (record { waiting = refl; unused = λ e. refl }, all_free 124),
    ),
  ),
)

-- The semaphores at the start fit empty lists.
pub counts_start : Counts (replicate 130 []) kernel_semaphores.entries
counts_start = record {
  size = refl;
  waiting = λ sem lt. ap length (none_listed 130 sem) ∙ sym (start_at kernel_semaphores.entries sem kernel_starts).waiting;
  unused = λ sem none. (start_at kernel_semaphores.entries sem kernel_starts).unused none;
}

-- What a search for a free number finds: it isn't in use, and it is a number of the table.
use Rattle.std.proofs.Common.{◌≡◌, ℕ, ◌+◌, ◌<◌, true, not, Option, Some, None, is_some, refl}
use Rattle.xinu_base.specs.declared.processes.State.TheVariants.{Free}
use Rattle.xinu_base.specs.declared.semaphores.Owner.{Owner}
use Rattle.xinu_model.specs.Process.Creation.{free_process}
use Rattle.xinu_model.specs.Semaphores.Counts.{free_semaphore}
use Rattle.xinu_model.specs.Tables.{Tables, state_at, is_free, semaphore_at}
use Rattle.table_laws.proofs.Lists.Searches.{search_passes, search_within}
use Rattle.xinu_model.proofs.States.{free_of}

-- a search for a free number finds one that is free
pub free_process_free : (t : Tables) (p : ℕ) → free_process t ≡ Some p → state_at t p ≡ Free
free_process_free t p e = free_of (state_at t p) (search_passes (λ r. is_free (state_at t r)) 64 (t.last_process + 1) p e)

-- and one of the table
pub free_process_within : (t : Tables) (p : ℕ) → free_process t ≡ Some p → p < 64
free_process_within t p e = search_within (λ r. is_free (state_at t r)) 64 (t.last_process + 1) p e

-- a search for a free number finds one that isn't in use
pub free_semaphore_free : (t : Tables) (sem : ℕ) → free_semaphore t ≡ Some sem → (semaphore_at t sem).owner ≡ None
free_semaphore_free t sem e =
    unused (semaphore_at t sem).owner (search_passes (λ r. not (is_some (semaphore_at t r).owner)) 128 (t.last_semaphore + 1) sem e)
  where
    unused : (by : Option Owner) → not (is_some by) ≡ true → by ≡ None
    unused None h = refl
    unused (Some by) h = cc

-- The process table at the start fits new lists, and stands for the machine's start with them.
use Rattle.std.proofs.Common.{◌≡◌, ◌∙◌, ℕ, zero, suc, Some, None, List, [], ◌∷◌, map, get_or, replicate, refl, sym, ap}
use Rattle.xinu_base.specs.declared.processes.Process.{Process}
use Rattle.xinu_base.specs.declared.processes.State.TheVariants.{Free, Ready}
use Rattle.queue_table.proofs.Laws.{place_fresh}
use Rattle.queue_table.specs.Lists.{delays}
use Rattle.std.specs.List.{AllByRecursion}
use Rattle.xinu_model.specs.Boot.{first_semaphores, null_process, null_tables}
use Rattle.xinu_model.specs.Tables.{Semaphore, no_process, no_semaphore}
use Rattle.process_core.specs.Fits.{Fits}
use Rattle.process_core.specs.Starts.{first_beside, first_table, mark_of}
use Rattle.process_core.specs.Tables.{semaphore_of, semaphores_of, tables_of}

-- one entry is as good as another in a list of equal ones
all_alike : (n i : ℕ) (x : Process) → get_or (replicate n x) i x ≡ x
all_alike zero i x = refl
all_alike (suc n) zero x = refl
all_alike (suc n) (suc i) x = all_alike n i x

-- nobody is ready if there is but one process that runs
none_ready : (n p : ℕ) → (get_or (null_process ∷ replicate n no_process) p no_process).state ≡ Ready → ⊥
none_ready n zero h = cc
none_ready n (suc p) h = let e : Free ≡ Ready = sym (ap (λ (x : Process). x.state) (all_alike n p no_process)) ∙ h in cc

-- The process table at the start fits empty lists.
pub fits_start : Fits (replicate 130 []) first_table.processes
fits_start = record {
  size = refl;
  by_key = tt;
  placed = λ p q at. (let e : None ≡ Some q = sym (place_fresh 130 p) ∙ at in absurd (cc));
  ready = λ p h. absurd (none_ready 63 p h);
}

-- a semaphore without waiters is its mark with an empty list
marked : (x : Semaphore) → x.waiters ≡ [] → semaphore_of [] (mark_of x) ≡ x
marked x h = ap (λ w. record { owner = x.owner; tokens = x.tokens; waiters = w }) (sym h)

-- semaphores without waiters are their marks with empty lists
pub semaphores_marked : (n : ℕ) (l : List Semaphore) → AllByRecursion (λ (x : Semaphore). x.waiters ≡ []) l
    → semaphores_of (replicate n []) (map mark_of l) ≡ l
semaphores_marked n [] h = refl
semaphores_marked zero (x ∷ l) h = ap (λ y. y ∷ semaphores_of [] (map mark_of l)) (marked x h.0)
    ∙ ap (λ r. x ∷ r) (semaphores_marked zero l h.1)
semaphores_marked (suc n) (x ∷ l) h = ap (λ y. y ∷ semaphores_of (replicate n []) (map mark_of l)) (marked x h.0)
    ∙ ap (λ r. x ∷ r) (semaphores_marked n l h.1)

-- nobody waits on semaphores that aren't in use
none_wait : (n : ℕ) → AllByRecursion (λ (x : Semaphore). x.waiters ≡ []) (replicate n no_semaphore)
none_wait zero = tt
none_wait (suc n) = (refl, none_wait n)

-- nobody waits at the start
nobody_waits : AllByRecursion (λ (x : Semaphore). x.waiters ≡ []) first_semaphores
unfolding first_semaphores
nobody_waits = (refl, (refl, (refl, (refl, none_wait 124))))

-- New lists and the process table at the start are the machine's tables at the start.
pub tables_start : tables_of (replicate 130 []) first_table first_beside ≡ null_tables
unfolding tables_of delays
tables_start = ap (λ l. record null_tables { semaphores = l }) (semaphores_marked 128 first_semaphores nobody_waits)

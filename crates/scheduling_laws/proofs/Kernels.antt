-- The semaphores of the kernel's own parts: those of devices, of pools and of ports.
use Rattle.std.proofs.Common.{◌≡◌, ◌≢◌, ⊎_elim, ℕ, ◌<◌, ◌≤◌, true, List, length, Option, Some, None, set, refl, sym, ap, subst, ◌∙◌, arith}
use Rattle.std.proofs.lemmas.Bool.{cases_lt}
use Rattle.std.proofs.lemmas.List.{get_or_past}
use Rattle.xinu_model.specs.Machine.{CallState, Parts}
use Rattle.xinu_model.specs.Pools.Buffers.{BufferPool, no_pool, pool_at, with_free}
use Rattle.xinu_model.specs.Pools.Calls.{given_to}
use Rattle.xinu_model.specs.Ports.Queues.{MessagePort, PortQueue, port_at}
use Rattle.xinu_model.specs.Semaphores.Counts.{is_good, is_images}
use Rattle.xinu_model.specs.Sound.State.{IsSound}
use Rattle.xinu_model.specs.Machine.{Xinu}
use Rattle.table_laws.proofs.Frame.MoveTo.{same_written}
use Rattle.xinu_laws.proofs.Touches.Moves.{parts_signalled}
use Rattle.scheduling_laws.proofs.Moves.{Anyone}

-- The semaphore of each pool may be changed.
pub record HavePools (Touch : ℕ → Type 0) (all : List BufferPool) : Type 0 where
  pub pools : (i : ℕ) → Touch (pool_at all i).semaphore

-- The two semaphores of a port may be.
pub record HasQueue (Touch : ℕ → Type 0) (queue : PortQueue) : Type 0 where
  pub send : Touch queue.send
  pub receive : Touch queue.receive

-- Those of each port in use may be.
pub record HavePorts (Touch : ℕ → Type 0) (all : List MessagePort) : Type 0 where
  pub ports : (q : ℕ) (queue : PortQueue) → (port_at all q).queue ≡ Some queue → HasQueue Touch queue

-- Those of all parts of the kernel may be.
pub record HaveKernels (Touch : ℕ → Type 0) (parts : Parts) : Type 0 where
  pub devices : (sem : ℕ) → sem < 4 → Touch sem
  pub pools : HavePools Touch parts.pools
  pub ports : HavePorts Touch parts.ports

-- A pool that gets a buffer back keeps its semaphore.
pub pools_given : {Touch : ℕ → Type 0} (found : Option ℕ) (a : ℕ) (d : CallState) → HavePools Touch d.state.parts.pools
    → HavePools Touch (given_to found a d).state.parts.pools
pools_given None a d may = may
pools_given {Touch} (Some i) a d may =
    let pools = d.state.parts.pools in
    let pool = pool_at pools i in
    let e : CallState = record d { state = record d.state { parts = record d.state.parts { pools = set pools i (with_free a pool) } } } in
    subst (λ (p : Parts). HavePools Touch p.pools) (sym (parts_signalled pool.semaphore e))
    (record { pools = λ j. subst Touch (sym (same_written (λ (y : BufferPool). y.semaphore) pools i j (with_free a pool) no_pool refl)) (may.pools j) })

-- All may be, if all semaphores may.
pub all_kernels : (parts : Parts) → HaveKernels Anyone parts
all_kernels parts = record {
  devices = λ sem h. tt;
  pools = record { pools = λ i. tt };
  ports = record { ports = λ q queue e. record { send = tt; receive = tt } };
}

-- A process's semaphore isn't one of the kernel's.
pub other_kernels : (sem : ℕ) (s : Xinu) → IsSound s → is_good sem s.tables ≡ true → HaveKernels (λ r. r ≢ sem) s.parts
other_kernels sem s k good =
    let pools = s.parts.pools in
    let device : (r : ℕ) → r < 4 → r ≢ sem =
    λ r h e. let f = ap is_images (k.tables.inside.devices r h) in let g = ap (λ i. is_good i s.tables) e ∙ good in cc in
    record {
      devices = device;
      pools = record {
        pools = λ i. ⊎_elim
            (λ (h : i < length pools) e. let f = ap is_images (k.pools.each i h).owner in let g = ap (λ j. is_good j s.tables) e ∙ good in cc)
            (λ (h : length pools ≤ i). subst (λ (x : BufferPool). x.semaphore ≢ sem) (sym (get_or_past pools i no_pool h)) (device 0 (omega arith)))
            (cases_lt i (length pools));
      };
      ports = record {
        ports = λ q queue e. record {
          send = λ h. let f = ap is_images (k.ports.each q queue e).send_owner in let g = ap (λ j. is_good j s.tables) h ∙ good in cc;
          receive = λ h. let f = ap is_images (k.ports.each q queue e).receive_owner in let g = ap (λ j. is_good j s.tables) h ∙ good in cc;
        };
      };
    }

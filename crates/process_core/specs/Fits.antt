-- When lists and processes fit together.
use Rattle.std.specs.Prelude.{◌≡◌, ◌<◌, ℕ, List, length, Some}
use Rattle.queue_table.specs.Lists.{Entry, IsByKey, list_at, place}
use Rattle.xinu_base.specs.declared.processes.Process.{Process}
use Rattle.xinu_base.specs.declared.processes.State.{State}
use Rattle.xinu_base.specs.declared.processes.State.TheVariants.{Ready, Receiving, Sleeping, Suspended, Waiting, Timed}
use Rattle.process_core.specs.Tables.{process_in}

-- a process of this state may be in queue q
abbrev pub MayBeIn : ℕ → State → Type 0
MayBeIn q Ready = q ≡ 128
MayBeIn q Waiting = q < 128
MayBeIn q Sleeping = q ≡ 129
MayBeIn q Timed = q ≡ 129
MayBeIn q _ = ⊥

-- a process of this state waits for something, or is suspended
abbrev pub IsBlocked : State → Type 0
IsBlocked Receiving = Unit {0}
IsBlocked Sleeping = Unit {0}
IsBlocked Suspended = Unit {0}
IsBlocked Waiting = Unit {0}
IsBlocked Timed = Unit {0}
IsBlocked _ = ⊥

-- There are 64 processes. The ready list, queue 128, is kept by key and has just those that are ready; whoever is in a queue below it
-- is waiting, and whoever is in queue 129 is sleeping or timed.
pub record Fits (ls : List (List Entry)) (ps : List Process) : Type 0 where
  pub size : length ps ≡ 64
  pub by_key : IsByKey (list_at ls 128)
  pub placed : (p q : ℕ) → place ls p ≡ Some q → MayBeIn q (process_in ps p).state
  pub ready : (p : ℕ) → (process_in ps p).state ≡ Ready → place ls p ≡ Some 128

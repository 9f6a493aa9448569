-- What holds of the raw disk and of files, and of those who wait for them, inside an event and between two.
use Rattle.std.specs.Prelude.{◌≡◌, ℕ, Bool, true, false, Some, None}
use Rattle.xinu_base.specs.declared.processes.Rest.{Rest}
use Rattle.xinu_base.specs.declared.processes.Rest.TheVariants.{Disk}
use Rattle.xinu_model.specs.Files.Sound.{IsSoundWork}
use Rattle.xinu_model.specs.Files.Syscalls.{LF_SEM}
use Rattle.xinu_model.specs.Files.Work.{FileWork, callers_waiting}
use Rattle.xinu_model.specs.RawDisk.Calls.{RD_SEM}
use Rattle.xinu_model.specs.RawDisk.Requests.{RawDisk, requesters}
use Rattle.xinu_model.specs.RawDisk.Sound.{IsSoundRawDisk}
use Rattle.xinu_model.specs.Sound.Pools.{is_waiting}
use Rattle.xinu_model.specs.Tables.{Tables, process_at, state_at, semaphore_at}

-- whether a process waits on a semaphore, if what is left of its call is to answer the reply of a disk: it does exactly while it has none
abbrev pub HasReply : Bool → Rest → Type 0
HasReply waits (Disk None) = waits ≡ true
HasReply waits (Disk (Some reply)) = waits ≡ false
HasReply waits _ = Unit {0}

-- The disk by itself is sound. On its semaphore wait the living callers of its requests, in order, and it has no tokens. Who is in a call on a
-- disk has a reply as soon as it waits no longer.
pub record IsRawDisk (t : Tables) (d : RawDisk) : Type 0 where
  pub itself : IsSoundRawDisk d
  pub waiters : (semaphore_at t RD_SEM).waiters ≡ requesters d.requests
  pub tokens : (semaphore_at t RD_SEM).tokens ≡ 0
  pub replies : (p : ℕ) → HasReply (is_waiting (state_at t p)) (process_at t p).rest

-- The files and the calls on them are sound by themselves. On their semaphore wait the living callers, in order, and it has no tokens.
pub record IsFileDisk (t : Tables) (w : FileWork) : Type 0 where
  pub itself : IsSoundWork w
  pub waiters : (semaphore_at t LF_SEM).waiters ≡ callers_waiting w.calls
  pub tokens : (semaphore_at t LF_SEM).tokens ≡ 0

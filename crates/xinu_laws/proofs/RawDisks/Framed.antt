-- What leaves both disks alone keeps what holds of them.
use Rattle.std.proofs.Common.{◌≡◌, ℕ, suc, ◌<◌, Bool, true, false, ◌&&◌, Option, Some, None, refl, sym, ap, subst, ◌∙◌, arith}
use Rattle.xinu_base.specs.declared.processes.Rest.{Rest}
use Rattle.xinu_base.specs.declared.processes.Rest.TheVariants.{Disk}
use Rattle.xinu_base.specs.declared.semaphores.Owner.{Owner}
use Rattle.xinu_base.specs.declared.semaphores.Owner.TheVariants.{Device}
use Rattle.table_laws.specs.Frame.{Frame, StillWait, waits_at}
use Rattle.xinu_model.specs.Devices.State.{Devices}
use Rattle.xinu_model.specs.Names.Sound.{AreSoundNames}
use Rattle.xinu_model.specs.Sound.Console.{IsConsole}
use Rattle.xinu_model.specs.Sound.Devices.{AreDevices}
use Rattle.xinu_model.specs.Sound.Disks.{HasReply, IsRawDisk, IsFileDisk}
use Rattle.xinu_model.specs.Sound.Pools.{is_waiting}
use Rattle.xinu_model.specs.Sound.Tables.{count_in, FitsOwner, IsInside}
use Rattle.xinu_model.specs.Tables.{Tables, process_at, state_at, semaphore_at}
use Rattle.table_laws.proofs.Frame.Order.{filter_all, waiters_kept}
use Rattle.table_laws.proofs.Tables.Unblock.{waiter_waits}

-- What holds of the raw disk and of files, and of those who wait for them.
pub record AreDisks (t : Tables) (d : Devices) : Type 0 where
  pub raw : IsRawDisk t d.disk
  pub files : IsFileDisk t d.files

-- as a part of what holds of the devices
pub disks_in : {t : Tables} {d : Devices} → AreDevices t d → AreDisks t d
disks_in k = record { raw = k.disk; files = k.files }

pub with_disks : {t : Tables} {d : Devices} → IsConsole t d.console → AreSoundNames d.names → AreDisks t d → AreDevices t d
with_disks console names disks = record { console = console; names = names; disk = disks.raw; files = disks.files }

-- whether a semaphore of the kernel's is that of a disk
abbrev pub is_disk_number : ℕ → Bool
is_disk_number (suc (suc sem)) = true
is_disk_number _ = false

abbrev pub is_disks : ℕ → Option Owner → Bool
is_disks sem (Some Device) = is_disk_number sem
is_disks sem _ = false

-- whether what is left of a call is that of a call on a disk
abbrev pub asks_disk : Rest → Bool
asks_disk (Disk reply) = true
asks_disk _ = false

-- what has a reply if it waits no longer has it if it is as it was
reply_as_before : (left other : Rest) (waits waited : Bool) → (asks_disk left ≡ true → (left ≡ other) × (waits ≡ waited))
    → HasReply waited other → HasReply waits left
reply_as_before (Disk None) other waits waited f h = (f refl).1 ∙ subst (HasReply waited) (sym (f refl).0) h
reply_as_before (Disk (Some reply)) other waits waited f h = (f refl).1 ∙ subst (HasReply waited) (sym (f refl).0) h
reply_as_before _ other waits waited f h = tt

-- On the semaphore of a disk wait the same if it is left alone and all who wait for it go on waiting; and it has as many tokens.
module _ (t u : Tables) (k : ℕ) (few : suc (suc k) < 4) (was : IsInside t) (o : IsInside u) (framed : Frame is_disks asks_disk t u)
    (still : StillWait asks_disk t u) where
  is_mine : is_disks (suc (suc k)) (semaphore_at t (suc (suc k))).owner ≡ true
  is_mine = ap (is_disks (suc (suc k))) (was.devices (suc (suc k)) few)

  in_call : (v : Tables) → IsInside v → (left : Rest) → FitsOwner (suc (suc k)) (semaphore_at v (suc (suc k))).owner left
      → asks_disk left ≡ true
  in_call v inside left f =
      let e : left ≡ Disk None = subst (λ w. FitsOwner (suc (suc k)) w left) (inside.devices (suc (suc k)) few) f in ap asks_disk e

  disk_waiters : (semaphore_at u (suc (suc k))).waiters ≡ (semaphore_at t (suc (suc k))).waiters
  disk_waiters =
      let waits : (p : ℕ) → 0 < count_in p (semaphore_at t (suc (suc k))).waiters → waits_at asks_disk t p ≡ true =
      λ p h. ap (λ y. is_waiting y && asks_disk (process_at t p).rest) (waiter_waits t (suc (suc k)) p was h)
      ∙ in_call t was (process_at t p).rest (was.rests (suc (suc k)) p h) in
      waiters_kept t u (suc (suc k)) framed o is_mine (in_call u o)
      ∙ filter_all (waits_at asks_disk u) (semaphore_at t (suc (suc k))).waiters (λ p h. still.stay p (waits p h))

  disk_tokens : (semaphore_at u (suc (suc k))).tokens ≡ (semaphore_at t (suc (suc k))).tokens
  disk_tokens = (framed.kept (suc (suc k)) is_mine).1

-- What leaves the disks alone, and lets all wait who wait for them, keeps what holds of them.
pub disks_framed : (t u : Tables) (d : Devices) → IsInside t → IsInside u → Frame is_disks asks_disk t u → StillWait asks_disk t u
    → AreDisks t d → AreDisks u d
disks_framed t u d was o framed still k = record {
  raw = record {
    itself = k.raw.itself;
    waiters = disk_waiters t u 0 (omega arith) was o framed still ∙ k.raw.waiters;
    tokens = disk_tokens t u 0 (omega arith) was o framed still ∙ k.raw.tokens;
    replies = λ p. reply_as_before (process_at u p).rest (process_at t p).rest (is_waiting (state_at u p)) (is_waiting (state_at t p)) (framed.rests p) (k.raw.replies p);
  };
  files = record {
    itself = k.files.itself;
    waiters = disk_waiters t u 1 (omega arith) was o framed still ∙ k.files.waiters;
    tokens = disk_tokens t u 1 (omega arith) was o framed still ∙ k.files.tokens;
  };
}

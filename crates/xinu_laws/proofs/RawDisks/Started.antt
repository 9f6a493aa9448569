-- When the machine starts, what holds of the disks holds: nobody has asked anything of them.
use Rattle.std.proofs.Common.{◌≡◌, ℕ, zero, suc, ◌+◌, Bool, true, false, List, [], ◌∷◌, length, Option, Some, None, replicate, refl, sym, ap, subst, ◌∙◌, arith}
use Rattle.std.proofs.lemmas.List.{length-replicate}
use Rattle.std.specs.List.{AllByRecursion}
use Rattle.xinu_base.specs.declared.processes.Rest.{Rest}
use Rattle.xinu_base.specs.declared.processes.Rest.TheVariants.{Disk}
use Rattle.xinu_model.specs.Boot.{Loaded, first_overlap, first_semaphores, null_tables, loaded_machine, with_image, Boots, and_then, where_stack, all_made, all_started, unless_overlap, boot}
use Rattle.xinu_model.specs.Devices.State.{empty_blocks, first_devices}
use Rattle.xinu_model.specs.Footprints.{on_deaths}
use Rattle.xinu_model.specs.Heap.Cells.{Stack, take_stack}
use Rattle.xinu_model.specs.Machine.{Xinu}
use Rattle.xinu_model.specs.Process.Creation.{stack_size}
use Rattle.xinu_model.specs.RawDisk.Constants.{RD_BLKSIZ}
use Rattle.xinu_model.specs.Files.Sound.{IsSoundWork}
use Rattle.xinu_model.specs.Sound.Disks.{HasReply}
use Rattle.xinu_model.specs.Sound.Pools.{is_waiting}
use Rattle.xinu_model.specs.Sound.Tables.{count_in}
use Rattle.xinu_model.specs.Tables.{Semaphore, Tables, process_at, state_at, semaphore_at}
use Rattle.table_laws.specs.Frame.{Frame}
use Rattle.xinu_laws.specs.Touches.{Reach}
use Rattle.part_laws.proofs.FileSystems.Started.{sound_start}
use Rattle.table_laws.proofs.Lists.Counts.{none_counted}
use Rattle.xinu_laws.proofs.RawDisks.Framed.{AreDisks, is_disks, asks_disk}
use Rattle.table_laws.proofs.Tables.Starts.{boots_from}
use Rattle.xinu_laws.proofs.Touches.Boot.{HasStart, touches_start, start_unasked}

-- the processes that are made leave the devices as they are
made_next : (found : Option Stack) (i : ℕ) (image : Loaded) (images : List Loaded) (s x : Xinu)
    → ((y : Xinu) → all_made (i + 1) images y ≡ Boots x → x.parts.devices ≡ y.parts.devices)
    → and_then (where_stack found i image s) (λ y. all_made (i + 1) images y) ≡ Boots x → x.parts.devices ≡ s.parts.devices
made_next None i image images s x next h = cc
made_next (Some stack) i image images s x next h = next (with_image i image stack s) h

made_devices : (images : List Loaded) (i : ℕ) (s x : Xinu) → all_made i images s ≡ Boots x → x.parts.devices ≡ s.parts.devices
made_devices [] i s x e = let h : s ≡ x = cc in ap (λ (y : Xinu). y.parts.devices) (sym h)
made_devices (image ∷ images) i s x e =
    made_next (take_stack (stack_size image.stack) s.parts.heap) i image images s x (λ y h. made_devices images (i + 1) y x h) e

booted_devices : (overlap : Option ℕ) (images : List Loaded) (start : Xinu) → unless_overlap overlap images ≡ Boots start
    → start.parts.devices ≡ first_devices
booted_devices (Some i) images start e = cc
booted_devices None images start e =
    let b = boots_from (all_made 1 images (loaded_machine images)) (λ s. Boots (all_started images s)) start e in
    let h : all_started images b.0 ≡ start = cc in
    ap (λ (y : Xinu). y.parts.devices) (sym h) ∙ made_devices images 1 (loaded_machine images) b.0 b.1

-- The devices are as at the start.
pub start_devices : (images : List Loaded) (start : Xinu) → boot images ≡ Boots start → start.parts.devices ≡ first_devices
start_devices images start e = booted_devices (first_overlap 1 [] images) images start e

-- the start leaves the disks' semaphores and calls alone
abbrev beside_disk : Reach
beside_disk = record { mine = is_disks; asks = asks_disk; parts = on_deaths; clock = false }

start_reached : HasStart beside_disk
start_reached = record { nothing = refl; heap = refl; stacks = refl; disk = refl }

-- who is in no call on a disk has no reply to wait for
no_reply : (left : Rest) (waits : Bool) → asks_disk left ≡ false → HasReply waits left
no_reply (Disk reply) waits e = absurd (cc)
no_reply _ waits e = tt

-- each block is whole
blocks_whole : (n : ℕ) → AllByRecursion (λ (b : List ℕ). length b ≡ RD_BLKSIZ) (replicate n (replicate RD_BLKSIZ 0))
blocks_whole zero = tt
blocks_whole (suc n) = (length-replicate {A = ℕ} RD_BLKSIZ 0, blocks_whole n)

whole_blocks : AllByRecursion (λ (b : List ℕ). length b ≡ RD_BLKSIZ) empty_blocks
unfolding empty_blocks
whole_blocks = blocks_whole 64

-- nobody waits for a disk at first, and there is no token
pub record WaitsForNone (x : Semaphore) : Type 0 where
  pub waiters : x.waiters ≡ []
  pub tokens : x.tokens ≡ 0

first_raw : WaitsForNone (semaphore_at null_tables 2)
unfolding first_semaphores
first_raw = record { waiters = refl; tokens = refl }

first_files : WaitsForNone (semaphore_at null_tables 3)
unfolding first_semaphores
first_files = record { waiters = refl; tokens = refl }

raw_owned : is_disks 2 (semaphore_at null_tables 2).owner ≡ true
unfolding first_semaphores
raw_owned = refl

files_owned : is_disks 3 (semaphore_at null_tables 3).owner ≡ true
unfolding first_semaphores
files_owned = refl

-- it stays so while the machine starts
none_waits : (sem : ℕ) (t u : Tables) → Frame is_disks asks_disk t u → is_disks sem (semaphore_at t sem).owner ≡ true
    → WaitsForNone (semaphore_at t sem) → WaitsForNone (semaphore_at u sem)
none_waits sem t u framed owned w = record {
  waiters = none_counted (semaphore_at u sem).waiters
      (λ p h. let g = framed.waiters sem p owned h in let n : count_in p (semaphore_at t sem).waiters ≡ 0 = ap (count_in p) w.waiters in omega arith);
  tokens = (framed.kept sem owned).1 ∙ w.tokens;
}

-- no file is there, and none is called
first_work : IsSoundWork first_devices.files
first_work = record { system = sound_start 256 [] tt tt (omega arith) refl; calls = tt; callers = tt; first = (refl, refl) }

-- When the machine starts.
pub disks_start : (images : List Loaded) (start : Xinu) → boot images ≡ Boots start → AreDisks start.tables start.parts.devices
disks_start images start e =
    let t = touches_start start_reached images start e in
    let raw = none_waits 2 null_tables start.tables t.frame raw_owned first_raw in
    let files = none_waits 3 null_tables start.tables t.frame files_owned first_files in
    subst (AreDisks start.tables) (sym (start_devices images start e)) (record {
      raw = record {
        itself = record { blocks = whole_blocks; requests = tt; callers = tt };
        waiters = raw.waiters;
        tokens = raw.tokens;
        replies = λ p. no_reply (process_at start.tables p).rest (is_waiting (state_at start.tables p)) (start_unasked start_reached images start e p);
      };
      files = record { itself = first_work; waiters = files.waiters; tokens = files.tokens };
    })

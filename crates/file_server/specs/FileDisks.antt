-- What a disk with the file engine stands for.
use Rattle.std.specs.Prelude.{ℕ, ◌≡◌, List, Option, Some, None}
use Rattle.file_server.specs.DiskStates.{HeldCall, DiskState}
use Rattle.file_server.specs.Settled.{Follows}
use Rattle.file_server.specs.declared.file_disk.FileDisk.TheInside.{Inside}
use Rattle.local_files.specs.Bounds.{left}
use Rattle.local_files.specs.Hands.{system}
use Rattle.local_files.specs.Standing.{Stands, wanted, call_of, call_bytes, gathered, reply_in}
use Rattle.local_files.specs.declared.BlockWork.{BlockWork}
use Rattle.local_files.specs.declared.Files.{Files}

-- the call that waits for this work, over the disk as it was when the call began
abbrev pub held_for : Option BlockWork → Files → List ℕ → Option HeldCall
held_for None e base = None
held_for (Some w) e base = Some (record { call = call_of e.call (call_bytes e); bytes = call_bytes e; left = left e base })

-- what is seen of it
abbrev pub disk_state : Inside → DiskState
disk_state d = record {
  system = system d.files d.settled.items;
  hand = held_for (wanted d.files) d.files d.settled.items;
  given = gathered d.files;
  image = d.disk.items;
}

-- The engine stands for the disk as it was when the call in hand began together with the disk as it is, no answer waits to be taken, and
-- the blocks that were written since are remembered.
pub record IsFileDisk (d : Inside) : Type 0 where
  pub stands : Stands d.files d.settled.items d.disk.items
  pub taken : reply_in d.files.phase ≡ None
  pub follows : Follows d.written.items d.settled.items d.disk.items

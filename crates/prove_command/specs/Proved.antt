-- What is promised of images that are proved.
use Rattle.std.specs.Prelude.{◌≡◌, List, length}
use Rattle.part_laws.specs.GivenDisks.{AreSoundDisks}
use Rattle.program_logic.specs.Kept.{IsKept, times_given_back}
use Rattle.program_logic.specs.declared.outline.Lock.{Lock}
use Rattle.scheduling_laws.specs.Moments.{LeadTo, Moment}
use Rattle.xinu_model.specs.Boot.{Boots, Disks, Loaded, boot_on}
use Rattle.xinu_model.specs.Machine.{Xinu}

-- The images boot on any disks; and from there, on every schedule and at each moment, whenever nobody has the token the guarded word is what the
-- rule says of how often it was given back, and the process of each image is alive.
pub record IsProved (l : Lock) (images : List Loaded) : Type 0 where
  pub boots : (disks : Disks) → (start : Xinu) × (boot_on disks images ≡ Boots start)
  pub kept : (disks : Disks) (start now : Xinu) (ms : List Moment) → AreSoundDisks disks → boot_on disks images ≡ Boots start → LeadTo start ms now
      → IsKept l (length images) (times_given_back l.sem ms) now

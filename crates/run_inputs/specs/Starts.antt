-- How a run starts with its inputs.
use Rattle.std.specs.Prelude.{◌≡◌, ℕ, false, List, Some, Result, Ok, Err}
use Rattle.kernel_boot.specs.declared.initialize.BootFault.{BootFault}
use Rattle.kernel_boot.specs.declared.initialize.BootFault.TheVariants as fault
use Rattle.machine.specs.Printed.{Booted}
use Rattle.run_inputs.specs.InputFaults.{images_loaded}
use Rattle.xinu_model.specs.Boot.{Boots, Disks, Loaded, NoRoom, Overlaps, boot_on}
use Rattle.xinu_model.specs.Machine.{Xinu}
use Rattle.xinu_model.specs.Sound.State.{IsSound}

-- The images in these files boot on these disks in this state.
pub record StartsIn (disks : Disks) (files : List (List ℕ)) (start : Xinu) : Type 0 where
  pub images : List Loaded
  pub loaded : images_loaded files ≡ Some images
  pub boots : boot_on disks images ≡ Boots start

-- A machine is in the state in which the images in these files boot on these disks, which is sound, and took no event.
pub record IsBooted (disks : Disks) (files : List (List ℕ)) (m : Booted) : Type 0 where
  pub starts : StartsIn disks files m.state
  pub sound : IsSound m.state
  pub none : m.events ≡ 0
  pub goes_on : m.over ≡ false

-- The images in these files don't boot on these disks: an image overlaps an earlier one.
pub record OverlapsIn (disks : Disks) (files : List (List ℕ)) (image : ℕ) : Type 0 where
  pub images : List Loaded
  pub loaded : images_loaded files ≡ Some images
  pub overlaps : boot_on disks images ≡ Overlaps image

-- The images in these files don't boot on these disks: the stack of an image's process has no room.
pub record HasNoRoomIn (disks : Disks) (files : List (List ℕ)) (image : ℕ) : Type 0 where
  pub images : List Loaded
  pub loaded : images_loaded files ≡ Some images
  pub no_room : boot_on disks images ≡ NoRoom image

-- the images in these files don't boot on these disks, for this cause; or memory ran out
abbrev pub IsRefused : Disks → List (List ℕ) → BootFault → Type 0
IsRefused disks files (fault.Overlap i) = OverlapsIn disks files i
IsRefused disks files (fault.NoRoom i) = HasNoRoomIn disks files i
IsRefused disks files fault.NoMemory = Unit {0}

-- a machine is booted, or boot refuses
abbrev pub StartsAs : Disks → List (List ℕ) → Result Booted BootFault → Type 0
StartsAs disks files (Ok m) = IsBooted disks files m
StartsAs disks files (Err f) = IsRefused disks files f

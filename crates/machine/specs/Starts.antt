-- How a machine starts.
use Rattle.std.specs.Prelude.{◌≡◌, false, List, Result, Ok, Err}
use Rattle.kernel_boot.specs.declared.initialize.BootFault.{BootFault}
use Rattle.kernel_boot.specs.declared.initialize.BootFault.TheVariants as fault
use Rattle.machine.specs.Printed.{Booted}
use Rattle.xinu_model.specs.Boot.{Disks, Loaded, Boots, NoRoom, Overlaps, boot_on}

-- A machine is in the state in which the images boot on these disks, and took no event; a refusal other than out of memory is that of boot.
abbrev pub Starts : Disks → List Loaded → Result Booted BootFault → Type 0
Starts disks images (Ok m) = (boot_on disks images ≡ Boots m.state) × (m.events ≡ 0) × (m.over ≡ false)
Starts disks images (Err (fault.Overlap i)) = boot_on disks images ≡ Overlaps i
Starts disks images (Err (fault.NoRoom i)) = boot_on disks images ≡ NoRoom i
Starts disks images (Err fault.NoMemory) = Unit {0}

-- How a kernel starts.
use Rattle.kernel.specs.Values.{KernelValue}
use Rattle.kernel_boot.specs.declared.initialize.BootFault.TheVariants as fault
use Rattle.kernel_boot.specs.declared.initialize.BootFault.{BootFault}
use Rattle.kernel_state.specs.Results.{IsIdle}
use Rattle.std.specs.Prelude.{◌≡◌, List, Result, Ok, Err}
use Rattle.xinu_model.specs.Boot.{boot_on, Boots, Disks, Loaded, NoRoom, Overlaps}

-- A kernel is idle in the state in which the images boot on these disks; a refusal other than out of memory is that of boot.
abbrev pub Booted : Disks → List Loaded → Result KernelValue BootFault → Type 0
Booted disks images (Ok k) = (boot_on disks images ≡ Boots k.came.call.state) × IsIdle k.came
Booted disks images (Err (fault.Overlap i)) = boot_on disks images ≡ Overlaps i
Booted disks images (Err (fault.NoRoom i)) = boot_on disks images ≡ NoRoom i
Booted disks images (Err fault.NoMemory) = Unit {0}

-- What boot gives.
use Rattle.std.specs.Prelude.{◌≡◌, List, Result, Ok, Err}
use Rattle.kernel_boot.specs.declared.initialize.BootFault.{BootFault}
use Rattle.kernel_boot.specs.declared.initialize.BootFault.TheVariants as fault
use Rattle.kernel_state.specs.Results.{IsStart}
use Rattle.kernel_state.specs.Values.{KernelValue}
use Rattle.xinu_model.specs.Boot.{boot_on, Boots, Disks, Loaded, NoRoom, Overlaps}

-- Nothing was done yet in the state in which the images boot on these disks; a refusal other than out of memory is that of boot.
abbrev pub BootsAs : Disks → List Loaded → Result KernelValue BootFault → Type 0
BootsAs disks images (Ok k) = (boot_on disks images ≡ Boots k.call.state) × IsStart k.call
BootsAs disks images (Err (fault.Overlap i)) = boot_on disks images ≡ Overlaps i
BootsAs disks images (Err (fault.NoRoom i)) = boot_on disks images ≡ NoRoom i
BootsAs disks images (Err fault.NoMemory) = Unit {0}

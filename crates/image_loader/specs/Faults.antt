-- The numbers by which the faults of an image file are reported.
use Rattle.std.specs.Prelude.{ℕ}
use Rattle.image_loader.specs.declared.faults.ImageFault.{ImageFault}
use Rattle.image_loader.specs.declared.faults.ImageFault.TheVariants.{Short, Magic, Version, Length, Place, Entry, Priority}

abbrev pub fault_number : ImageFault → ℕ
fault_number Short = 1
fault_number Magic = 2
fault_number Version = 3
fault_number Length = 4
fault_number Place = 5
fault_number Entry = 6
fault_number Priority = 7

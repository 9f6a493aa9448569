-- The numbers by which the faults of an ELF file, and of any image file, are reported.
use Rattle.std.specs.Prelude.{ℕ}
use Rattle.elf_loader.specs.declared.faults.ElfFault.{ElfFault}
use Rattle.elf_loader.specs.declared.faults.ElfFault.TheVariants.{Short, Class, Kind, Headers, Dynamic, Segment, TooMany, Meet, Entry, Note}
use Rattle.elf_loader.specs.declared.faults.LoadFault.{LoadFault}
use Rattle.elf_loader.specs.declared.faults.LoadFault.TheVariants as load
use Rattle.image_loader.specs.Faults.{fault_number}

abbrev pub elf_fault_number : ElfFault → ℕ
elf_fault_number Short = 11
elf_fault_number Class = 12
elf_fault_number Kind = 13
elf_fault_number Headers = 14
elf_fault_number Dynamic = 15
elf_fault_number Segment = 16
elf_fault_number TooMany = 17
elf_fault_number Meet = 18
elf_fault_number Entry = 19
elf_fault_number Note = 20

abbrev pub load_fault_number : LoadFault → ℕ
load_fault_number (load.Image f) = fault_number f
load_fault_number (load.Elf f) = elf_fault_number f

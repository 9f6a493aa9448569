-- Image files of both kinds: ELF files by their first four bytes, and all others.
use Rattle.std.specs.Prelude.{ℕ, Bool, if◌then◌else◌, List, ◌∷◌, take, Option, option_map, codes, bytes_eq}
use Rattle.elf_loader.specs.declared.faults.LoadFault.{LoadFault}
use Rattle.elf_loader.specs.declared.faults.LoadFault.TheVariants as load
use Rattle.elf_loader.specs.ElfFiles.{elf_fault, elf_image}
use Rattle.image_loader.specs.ImageFiles.{first_fault, image_in}
use Rattle.xinu_model.specs.Boot.{Loaded}

-- The bytes begin with the letters of an ELF file.
abbrev pub is_elf : List ℕ → Bool
is_elf bytes = bytes_eq (take 4 bytes) (127 ∷ codes "ELF")

-- the fault of an image file of either kind; None if it loads
unfoldable pub load_fault : List ℕ → Option LoadFault
load_fault bytes = if is_elf bytes then option_map load.Elf (elf_fault bytes) else option_map load.Image (first_fault bytes)

-- what an image file of either kind loads; None if it has a fault
unfoldable pub loads : List ℕ → Option Loaded
loads bytes = if is_elf bytes then elf_image bytes else image_in bytes

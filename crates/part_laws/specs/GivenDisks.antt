-- Which disks the machine may be given.
use Rattle.std.specs.Prelude.{◌≡◌, ℕ, List, length}
use Rattle.std.specs.List.{AllByRecursion}
use Rattle.xinu_model.specs.Boot.{Disks}
use Rattle.xinu_model.specs.Files.Sound.{IsSoundFiles}
use Rattle.xinu_model.specs.Files.Systems.{closed_system}
use Rattle.xinu_model.specs.RawDisk.Constants.{RD_BLKSIZ}

-- The raw disk's blocks are whole, and the files are sound on their disk.
pub record AreSoundDisks (d : Disks) : Type 0 where
  pub blocks : AllByRecursion (λ (b : List ℕ). length b ≡ RD_BLKSIZ) d.blocks
  pub files : IsSoundFiles (closed_system d.size d.files)

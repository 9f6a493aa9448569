-- The laws of the disks that a machine is given.
use Rattle.std.proofs.Common.{◌≡◌, ℕ, ◌/◌, true, List, [], length, refl}
use Rattle.file_laws.proofs.Resting.{clean_holds}
use Rattle.file_laws.specs.StoredFiles.{stored_files}
use Rattle.given_disks.specs.Disks.{disks_of}
use Rattle.given_disks.specs.HeldFiles.{HoldsFiles}
use Rattle.given_disks.proofs.SoundFiles.{sound_files}
use Rattle.given_disks.proofs.WholeBlocks.{whole_blocks}
use Rattle.lfs_layout.specs.Images.{IsCleanImage, is_raw}
use Rattle.part_laws.specs.GivenDisks.{AreSoundDisks}
use Rattle.xinu_model.specs.Files.Rest.{is_at_rest}
use Rattle.xinu_model.specs.Files.Systems.{closed_system}
use Rattle.xinu_model.specs.Files.Work.{FileWork}

-- the disks on which the machine starts
pub sound_disks : (disk0 disk1 : List ℕ) → is_raw disk0 ≡ true → IsCleanImage disk1 → AreSoundDisks (disks_of disk0 disk1)
sound_disks disk0 disk1 raw clean = record { blocks = whole_blocks disk0; files = sound_files disk1 clean }

-- the files of a disk of which nothing is asked
pub held_files : (disk : List ℕ) → IsCleanImage disk
    → HoldsFiles disk (record { system = closed_system (length disk / 512) (stored_files disk); calls = []; turns = 0; bytes = [] })
held_files disk clean =
    let w : FileWork = record { system = closed_system (length disk / 512) (stored_files disk); calls = []; turns = 0; bytes = [] } in record {
      blocks = refl;
      at_rest = clean_holds disk (λ name. is_at_rest name w) clean;
      clean = λ calm. record { clean = clean; read = refl };
    }

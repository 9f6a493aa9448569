-- What a disk has of the files of the machine's state.
use Rattle.std.specs.Prelude.{ℕ, ◌≡◌, ◌/◌, false, List, length}
use Rattle.file_laws.specs.Holds.{Holds}
use Rattle.file_laws.specs.StoredFiles.{stored_files}
use Rattle.lfs_layout.specs.Images.{IsCleanImage}
use Rattle.xinu_model.specs.Files.Rest.{are_calls, is_at_rest}
use Rattle.xinu_model.specs.Files.Stored.{StoredFile}
use Rattle.xinu_model.specs.Files.Work.{FileWork}
use Rattle.xinu_model.specs.RawDisk.Constants.{RD_BLKSIZ}

-- A disk breaks no rule, and its files are these.
pub record IsCleanFor (disk : List ℕ) (files : List StoredFile) : Type 0 where
  pub clean : IsCleanImage disk
  pub read : stored_files disk ≡ files

-- The disk has as many blocks as the file system, and holds its files at rest. If no call on files is under way, it is clean for exactly its
-- files, also while files are open.
pub record HoldsFiles (disk : List ℕ) (w : FileWork) : Type 0 where
  pub blocks : length disk / RD_BLKSIZ ≡ w.system.blocks
  pub at_rest : Holds disk w.system.files (λ name. is_at_rest name w)
  pub clean : are_calls w.calls ≡ false → IsCleanFor disk w.system.files

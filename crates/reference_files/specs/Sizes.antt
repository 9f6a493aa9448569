-- What the counts of a file system are at most in each run, and how much room files take if one of them has another size.
use Rattle.std.specs.Prelude.{ℕ, ◌+◌, ◌-◌, ◌≤◌, if◌then◌else◌, List, length, min, nat_le, Bool, ◌&&◌, Option, Some, None}
use Rattle.xinu_model.specs.Files.Constants.{LF_NUM_DIR_ENT}
use Rattle.xinu_model.specs.Files.Room.{data_blocks, data_room, index_blocks, index_room}
use Rattle.xinu_model.specs.Files.Stored.{StoredFile, bytes_in, file_named, is_named}
use Rattle.xinu_model.specs.Files.Systems.{FileSystem, OpenFile, open_at, open_bytes}
use Rattle.xinu_model.specs.Sound.Tables.{total}

-- the most bytes of a file: a disk has at most 65542 blocks, of 512 bytes
abbrev pub most_bytes : ℕ
most_bytes = 33557504

-- what a device has open is at a position up to the end of its file
abbrev pub IsPlaced : FileSystem → Option OpenFile → Type 0
IsPlaced s None = Unit {0}
IsPlaced s (Some f) = f.position ≤ length (open_bytes f s)

-- There are as few files as the directory has places, none is greater than a disk can be, and each position is in its file.
pub record IsSmall (s : FileSystem) : Type 0 where
  pub few : length s.files ≤ LF_NUM_DIR_ENT
  pub sizes : (name : List ℕ) → length (bytes_in (file_named name s.files)) ≤ most_bytes
  pub places : (d : ℕ) → IsPlaced s (open_at s d)

-- the size of a file, if that of this name has another one
abbrev pub size_with : List ℕ → ℕ → StoredFile → ℕ
size_with name size f = if is_named name f then size else length f.bytes

-- how many blocks the files need then, by how many one of so many bytes needs
abbrev pub blocks_with : (ℕ → ℕ) → List ℕ → ℕ → List StoredFile → ℕ
blocks_with blocks name size files = total (λ (f : StoredFile). blocks (size_with name size f)) files

-- how long a file is after a write of n bytes at a position
abbrev pub written_size : ℕ → ℕ → ℕ → ℕ
written_size position n size = min position size + (n + (size - (position + n)))

-- whether the files fit then
abbrev pub is_room : List ℕ → ℕ → FileSystem → Bool
is_room name size s =
    nat_le (blocks_with data_blocks name size s.files) (data_room s.blocks)
    && nat_le (blocks_with index_blocks name size s.files) (index_room s.blocks)

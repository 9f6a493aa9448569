-- The blocks of the file that a call reads, changes or cuts, as it finds them on the disk.
use Rattle.std.specs.Prelude.{ℕ, ◌≡◌, ◌+◌, ◌/◌, ◌%◌, ◌<◌, ◌≤◌, List, [], length, drop, slice_index, slice_index_or}
use Rattle.lfs_format.specs.declared.Entry.{Entry}
use Rattle.lfs_format.specs.Indexes.{index_at}
use Rattle.lfs_check.specs.declared.fields.Header.{Header}
use Rattle.lfs_check.specs.Geometries.{index_count, first_data}
use Rattle.lfs_check.specs.Meets.{null}
use Rattle.lfs_check.specs.Rules.{block_in}
use Rattle.lfs_check.specs.Laid.{Places, index_for, numbers_at}
use Rattle.lfs_check.specs.Disks.{disk_geometry}
use Rattle.file_laws.specs.Middle.{IsMiddle}

-- index block j of a file is on the disk, and says that the file has these index blocks and data blocks
pub record IsIndexRead (n : ℕ) (disk chain blocks : List ℕ) (j : ℕ) : Type 0 where
  pub below : slice_index chain j < index_count (disk_geometry n)
  pub read : index_at (slice_index chain j % 7) (block_in disk (6 + slice_index chain j / 7)) ≡ index_for j chain blocks

-- the file of an entry is read off the disk by these index blocks and data blocks
pub record IsReadBy (n : ℕ) (disk : List ℕ) (entry : Entry) (chain blocks : List ℕ) : Type 0 where
  pub chain_long : length chain ≡ (entry.size + 8191) / 8192
  pub blocks_long : length blocks ≡ (entry.size + 511) / 512
  pub first : entry.first ≡ slice_index_or chain 0 null
  pub index : (j : ℕ) → j < length chain → IsIndexRead n disk chain blocks j
  pub block : (j : ℕ) → j < length blocks → (first_data (disk_geometry n) ≤ slice_index blocks j) × (slice_index blocks j < n)

-- a file that had these blocks is cut to nothing: the first j of its index blocks and the first c of its data blocks are free again, and
-- its other index blocks are on the disk as they were
pub record IsCut (n : ℕ) (base disk : List ℕ) (header : Header) (slot : ℕ) (entry : Entry) (p : Places) (chain blocks : List ℕ) (j c : ℕ)
    : Type 0 where
  pub middle : IsMiddle n base disk header slot entry p []
  pub held_index : p.held_index ≡ drop j chain
  pub held_data : p.held_data ≡ drop c blocks
  pub no_chain : numbers_at p.chains slot ≡ []
  pub no_blocks : numbers_at p.datas slot ≡ []
  pub index : (k : ℕ) → j ≤ k → k < length chain → IsIndexRead n disk chain blocks k

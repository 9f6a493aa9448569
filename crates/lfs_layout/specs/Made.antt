-- The image of version 2 that is made of files: each in turn takes the lowest index blocks and data blocks that are still free,
-- and the others form the free chains in the order of their numbers.
use Rattle.std.specs.Prelude.{ℕ, ◌≡◌, ◌<◌, ◌≤◌, slice_index_or, ◌+◌, ◌-◌, ◌*◌, cond, nat_eq, List, [], ◌∷◌, ◌++◌, drop, take, length, map, replicate}
use Rattle.std.specs.List.{flat_map}
use Rattle.byteorder.specs.Endian.{little_bytes}
use Rattle.lfs_format.specs.declared.Entry.{Entry}
use Rattle.lfs_format.specs.declared.Index.{Index}
use Rattle.lfs_format.specs.declared.Dir.{Dir}
use Rattle.lfs_format.specs.Indexes.{index_bytes}
use Rattle.lfs_format.specs.Directory.{dir_bytes}
use Rattle.lfs_check.specs.declared.geometry.Geometry.{Geometry}
use Rattle.lfs_check.specs.declared.fields.Header.{Header}
use Rattle.lfs_check.specs.Geometries.{index_count, index_disks, first_data}
use Rattle.lfs_check.specs.Laid.{index_for}
use Rattle.lfs_check.specs.Fields.{numbered_values, joined}
use Rattle.lfs_check.specs.Empty.{upwards, next_upwards}
use Rattle.lfs_check.specs.Built.{chain_head}
use Rattle.lfs_layout.specs.declared.files.NamedFile.{NamedFile}
use Rattle.lfs_layout.specs.Files.{File, blocks_for, total_for}

-- a disk of version 2
abbrev pub geometry_2 : ℕ → Geometry
geometry_2 n = record { dirs = 6; blocks = n }

-- how many index blocks and data blocks a file needs
abbrev pub indexes_needed : File → ℕ
indexes_needed f = blocks_for 8192 f

-- how many data blocks a file needs
abbrev pub data_needed : File → ℕ
data_needed f = blocks_for 512 f

-- the entries of files, of which the first takes index blocks from a on
abbrev pub entry_for : ℕ → File → Entry
entry_for a f = record { size = length f.bytes; first = chain_head a (a + indexes_needed f); name = f.name }

-- the entries of files, of which the first takes index blocks from a on
abbrev pub entries_for : ℕ → List File → List Entry
entries_for a [] = []
entries_for a (f ∷ files) = entry_for a f ∷ entries_for (a + indexes_needed f) files

-- an entry without a file
abbrev pub no_entry : Entry
no_entry = record { size = 0; first = 0; name = replicate 28 0 }

-- all 78 entries
abbrev pub all_entries : List File → List Entry
all_entries files = entries_for 0 files ++ replicate (78 - length files) no_entry

-- the first free index block and the first free data block
abbrev pub index_end : List File → ℕ
index_end files = 0 + total_for 8192 files

-- the first data block after those of files
abbrev pub data_end : Geometry → List File → ℕ
data_end g files = first_data g + total_for 512 files

-- the counts
abbrev pub header_for : Geometry → List File → Header
header_for g files = record {
  free_data = chain_head (data_end g files) g.blocks;
  free_index = chain_head (index_end files) (index_count g);
  files = length files;
}

-- directory block d: the counts are in the first
abbrev pub dir_for : Header → List Entry → ℕ → Dir
dir_for header entries d = record {
  free_data = cond (nat_eq d 0) header.free_data 0;
  free_index = cond (nat_eq d 0) header.free_index 0;
  files = cond (nat_eq d 0) header.files 0;
  entries = take 13 (drop (13 * d) entries);
}

-- the index blocks of files, of which the first takes index blocks from a on and data blocks from b on
abbrev pub file_index : ℕ → ℕ → File → ℕ → Index
file_index a b f j = index_for j (upwards a (indexes_needed f)) (upwards b (data_needed f))

-- the index blocks of files one after another
abbrev pub indexes_for : ℕ → ℕ → List File → List Index
indexes_for a b [] = []
indexes_for a b (f ∷ files) = numbered_values (file_index a b f) (indexes_needed f) ++ indexes_for (a + indexes_needed f) (b + data_needed f) files

-- a free index block names the one after it
abbrev pub free_index : Geometry → ℕ → Index
free_index g i = record { next = next_upwards (index_count g) i; offset = 0; blocks = replicate 16 0 }

-- all index blocks
abbrev pub all_indexes : Geometry → List File → List Index
all_indexes g files = indexes_for 0 (first_data g) files ++ map (free_index g) (upwards (index_end files) (index_count g - index_end files))

-- a disk block of seven index blocks
abbrev pub index_disk : List Index → ℕ → List ℕ
index_disk indexes d = flat_map index_bytes (take 7 (drop (7 * d) indexes)) ++ replicate 8 0

-- the data blocks of a file: its bytes, and zeros up to whole blocks
abbrev pub padded : File → List ℕ
padded f = f.bytes ++ replicate (512 * data_needed f - length f.bytes) 0

-- a free data block names the one after it
abbrev pub free_data : Geometry → ℕ → List ℕ
free_data g b = little_bytes 4 (next_upwards g.blocks b) ++ replicate 508 0

-- all data blocks
abbrev pub all_data : Geometry → List File → List ℕ
all_data g files = flat_map padded files ++ flat_map (free_data g) (upwards (data_end g files) (g.blocks - data_end g files))

-- the bytes of the directory blocks, of the blocks of index blocks and of the data blocks
abbrev pub dirs_bytes : Geometry → List File → List ℕ
dirs_bytes g files = joined (λ d. dir_bytes (dir_for (header_for g files) (all_entries files) d)) 6

-- the bytes of all disk blocks of index blocks
abbrev pub indexes_bytes : Geometry → List File → List ℕ
indexes_bytes g files = joined (index_disk (all_indexes g files)) (index_disks g)

-- the image of n blocks with these files
unfoldable pub image_with : ℕ → List File → List ℕ
image_with n files = dirs_bytes (geometry_2 n) files ++ (indexes_bytes (geometry_2 n) files ++ all_data (geometry_2 n) files)

-- a file without bytes, whose name is no name
abbrev pub no_file : File
no_file = record { name = []; bytes = [] }

-- files that have room on a disk of n blocks, each with a name of 28 bytes
pub record Room (n : ℕ) (files : List File) : Type 0 where
  pub low : 14 ≤ n
  pub high : n ≤ 65542
  pub data_room : total_for 512 files ≤ n - first_data (geometry_2 n)
  pub index_room : total_for 8192 files ≤ index_count (geometry_2 n)
  pub few : length files ≤ 78
  pub wide : (k : ℕ) → k < length files → length (slice_index_or files k no_file).name ≡ 28

-- a file of the program
abbrev pub file_of : NamedFile → File
file_of f = record { name = f.name; bytes = f.bytes.items }

-- the files of a list of the program
abbrev pub all_files : List NamedFile → List File
all_files files = map file_of files

-- The fields of an image, in both versions.
use Rattle.std.specs.Prelude.{ℕ, zero, suc, ◌+◌, ◌*◌, ◌/◌, ◌%◌, Bool, cond, ◌&&◌, nat_le, nat_eq, List, [], ◌∷◌, ◌++◌, drop, length, map, replicate}
use Rattle.lfs_format.specs.declared.Index.{Index}
use Rattle.lfs_format.specs.declared.Entry.{Entry}
use Rattle.lfs_format.specs.declared.Entry1.{Entry1}
use Rattle.lfs_format.specs.declared.Dir.{Dir}
use Rattle.lfs_format.specs.declared.Dir1.{Dir1}
use Rattle.lfs_format.specs.Words.{word_of}
use Rattle.lfs_format.specs.Indexes.{index_of}
use Rattle.lfs_format.specs.Directory.{dir_of, dir_1_of}
use Rattle.lfs_check.specs.Geometries.{is_version_1, index_count, index_block}
use Rattle.lfs_check.specs.Rules.{block_in}
use Rattle.lfs_check.specs.Laid.{Shape}
use Rattle.lfs_check.specs.declared.geometry.Geometry.{Geometry}
use Rattle.lfs_check.specs.declared.fields.Header.{Header}

-- an image has version 2 if it has whole blocks, at least eight, and the word at byte 492 is 2
abbrev pub is_version_2 : List ℕ → Bool
is_version_2 image = nat_eq (length image % 512) 0 && nat_le 4096 (length image) && nat_eq (word_of (drop 492 image)) 2

-- how many directory blocks it has
abbrev pub dirs_of : List ℕ → ℕ
dirs_of image = cond (is_version_2 image) 6 1

-- the geometry of an image
abbrev pub geometry_of : List ℕ → Geometry
geometry_of image = record { dirs = dirs_of image; blocks = length image / 512 }

-- one value more at each number
unfoldable pub numbered_values : {A : Type 0} → (ℕ → A) → ℕ → List A
numbered_values f zero = []
numbered_values f (suc n) = numbered_values f n ++ f n ∷ []

-- one list more at each number
unfoldable pub joined : {A : Type 0} → (ℕ → List A) → ℕ → List A
joined f zero = []
joined f (suc n) = joined f n ++ f n

-- an entry of version 1 with the wider name of version 2
abbrev pub widened : Entry1 → Entry
widened e = record { size = e.size; first = e.first; name = e.name ++ replicate 12 0 }

-- the counts of a directory block of version 1
abbrev pub header_1 : Dir1 → Header
header_1 dir = record { free_data = dir.free_data; free_index = dir.free_index; files = dir.files }

-- the counts of a directory block of version 2
abbrev pub header_2 : Dir → Header
header_2 dir = record { free_data = dir.free_data; free_index = dir.free_index; files = dir.files }

-- the counts of the directory: they are in its first block
abbrev pub directory_header : Geometry → List ℕ → Header
directory_header g image = cond (is_version_1 g) (header_1 (dir_1_of (block_in image 0))) (header_2 (dir_of (block_in image 0)))

-- the entries of the directory block of version 1, and of the six of version 2
abbrev pub entries_1 : List ℕ → List Entry
entries_1 image = map widened (dir_1_of (block_in image 0)).entries

-- the entries of the six directory blocks of version 2
abbrev pub entries_2 : List ℕ → List Entry
entries_2 image = joined (λ d. (dir_of (block_in image d)).entries) 6

-- the entries of the directory
abbrev pub directory_entries : Geometry → List ℕ → List Entry
directory_entries g image = cond (is_version_1 g) (entries_1 image) (entries_2 image)

-- the byte at which an index block begins
abbrev pub index_place : Geometry → ℕ → ℕ
index_place g i = 512 * index_block g i + 72 * (i % 7)

-- an index block as its bytes say
abbrev pub index_in_bytes : Geometry → List ℕ → ℕ → Index
index_in_bytes g image i = index_of (drop (index_place g i) image)

-- the first word of a block, which is the next of a free data block
abbrev pub link_in_bytes : List ℕ → ℕ → ℕ
link_in_bytes image n = word_of (drop (512 * n) image)

-- an image by its fields
abbrev pub fields_of : Geometry → List ℕ → Shape
fields_of g image = record {
  header = directory_header g image;
  entries = directory_entries g image;
  indexes = numbered_values (index_in_bytes g image) (index_count g);
  links = numbered_values (link_in_bytes image) g.blocks;
}

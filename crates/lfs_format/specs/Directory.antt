-- The directory blocks of both versions: entries and the words before them.
use Rattle.std.specs.Prelude.{ℕ, ◌≡◌, ◌^◌, ◌<◌, List, [], ◌∷◌, ◌++◌, drop, take, length, replicate, slice_index}
use Rattle.std.specs.List.{flat_map}
use Rattle.lfs_format.specs.Words.{words_of, word_bytes}
use Rattle.lfs_format.specs.Pieces.{pieces_of}
use Rattle.lfs_format.specs.declared.Entry.{Entry}
use Rattle.lfs_format.specs.declared.Entry1.{Entry1}
use Rattle.lfs_format.specs.declared.Dir.{Dir}
use Rattle.lfs_format.specs.declared.Dir1.{Dir1}

-- Version 2.

-- an entry of a size, a first index block and a name
abbrev pub entry_made : List ℕ → List ℕ → Entry
entry_made words name = record { size = slice_index words 0; first = slice_index words 1; name = name }

-- the entry that the bytes begin with
abbrev pub entry_of : List ℕ → Entry
entry_of bytes = entry_made (words_of 2 bytes) (take 28 (drop 8 bytes))

-- the 36 bytes of an entry
unfoldable pub entry_bytes : Entry → List ℕ
entry_bytes entry = word_bytes (entry.size ∷ entry.first ∷ []) ++ entry.name

-- a directory block of three words and its entries
abbrev pub dir_made : List ℕ → List Entry → Dir
dir_made words entries = record { free_data = slice_index words 0; free_index = slice_index words 1; files = slice_index words 2; entries = entries }

-- the directory block in 512 bytes
unfoldable pub dir_of : List ℕ → Dir
dir_of bytes = dir_made (words_of 3 bytes) (pieces_of entry_of 36 13 (drop 12 bytes))

-- the words before the entries
abbrev pub dir_words : Dir → List ℕ
dir_words dir = dir.free_data ∷ dir.free_index ∷ dir.files ∷ []

-- the bytes after the entries: zeros, the number of the version, zeros
unfoldable pub dir_ending : List ℕ
dir_ending = replicate 12 0 ++ (2 ∷ replicate 19 0)

-- the 512 bytes of a directory block
unfoldable pub dir_bytes : Dir → List ℕ
dir_bytes dir = word_bytes (dir_words dir) ++ flat_map entry_bytes dir.entries ++ dir_ending

-- a block that holds a directory block: it is read as one, begins with its words, and ends as each does
pub record IsDirBlock (dir : Dir) (block : List ℕ) : Type 0 where
  pub long : length block ≡ 512
  pub is : dir_of block ≡ dir
  pub begins : take 12 block ≡ word_bytes (dir_words dir)
  pub ends : drop 480 block ≡ dir_ending

-- an entry of zeros and no name
abbrev pub void_entry : Entry
void_entry = record { size = 0; first = 0; name = [] }

-- what the fields of an entry hold
pub record EntryFits (entry : Entry) : Type 0 where
  pub size : entry.size < 2 ^ 32
  pub first : entry.first < 2 ^ 32
  pub name : length entry.name ≡ 28

-- Version 1.

-- an entry of a size, a first index block and a name
abbrev pub entry_1_made : List ℕ → List ℕ → Entry1
entry_1_made words name = record { size = slice_index words 0; first = slice_index words 1; name = name }

-- the entry that the bytes begin with
abbrev pub entry_1_of : List ℕ → Entry1
entry_1_of bytes = entry_1_made (words_of 2 bytes) (take 16 (drop 8 bytes))

-- a directory of three words and its entries
abbrev pub dir_1_made : List ℕ → List Entry1 → Dir1
dir_1_made words entries = record { free_data = slice_index words 0; free_index = slice_index words 1; files = slice_index words 2; entries = entries }

-- the directory in 512 bytes
unfoldable pub dir_1_of : List ℕ → Dir1
dir_1_of bytes = dir_1_made (words_of 3 bytes) (pieces_of entry_1_of 24 20 (drop 12 bytes))

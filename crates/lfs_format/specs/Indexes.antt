-- An index block: its fields, its bytes and its place among the seven of a disk block.
use Rattle.std.specs.Prelude.{ℕ, ◌≡◌, ◌≢◌, ◌*◌, ◌<◌, List, ◌∷◌, drop, length, slice_index}
use Rattle.lfs_format.specs.Words.{words_of, word_bytes}
use Rattle.lfs_format.specs.declared.Index.{Index}

-- the index block of 18 words
abbrev pub index_of_words : List ℕ → Index
index_of_words words = record { next = slice_index words 0; offset = slice_index words 1; blocks = drop 2 words }

-- the index block that the bytes begin with
abbrev pub index_of : List ℕ → Index
index_of bytes = index_of_words (words_of 18 bytes)

-- the words of an index block
abbrev pub index_words : Index → List ℕ
index_words index = index.next ∷ index.offset ∷ index.blocks

-- the 72 bytes of an index block
abbrev pub index_bytes : Index → List ℕ
index_bytes index = word_bytes (index_words index)

-- the index block k of a disk block
abbrev pub index_at : ℕ → List ℕ → Index
index_at k block = index_of (drop (72 * k) block)

-- a disk block after index block k of it is written: the other six are as they were
pub record IsIndexPut (old : List ℕ) (k : ℕ) (index : Index) (block : List ℕ) : Type 0 where
  pub long : length block ≡ 512
  pub here : index_at k block ≡ index
  pub there : (m : ℕ) → m < 7 → m ≢ k → index_at m block ≡ index_at m old

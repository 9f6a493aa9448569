-- How files lie on a disk: which index and data blocks are whose.
use Rattle.std.specs.Prelude.{ℕ, suc, ◌≡◌, ◌+◌, ◌*◌, ◌/◌, ◌<◌, true, false, cond, not, ◌&&◌, nat_lt, List, [], ◌∷◌, ◌++◌, drop, take, length, slice_index, slice_index_or, slice_set, replicate}
use Rattle.lfs_format.specs.declared.Entry.{Entry}
use Rattle.lfs_check.specs.declared.fields.Header.{Header}
use Rattle.lfs_format.specs.declared.Index.{Index}
use Rattle.lfs_check.specs.Rules.{entry_is_used}
use Rattle.lfs_format.specs.Directory.{void_entry}
use Rattle.lfs_check.specs.Meets.{null, times_met}

-- a disk by its fields
pub record Shape : Type 0 where
  pub header : Header
  pub entries : List Entry
  pub indexes : List Index
  -- the first word of each block, which is the next of a free data block
  pub links : List ℕ

-- an index block that stands for one that isn't there
abbrev pub no_index : Index
no_index = record { next = 0; offset = 0; blocks = [] }

-- the index block of a number
abbrev pub index_in : Shape → ℕ → Index
index_in d i = slice_index_or d.indexes i no_index

-- the entry of a number
abbrev pub entry_in : Shape → ℕ → Entry
entry_in d e = slice_index_or d.entries e void_entry

-- a chain of numbers: it starts at the head, and each number's next is the one after it, or null
pub record IsChain (next : ℕ → ℕ) (head : ℕ) (chain : List ℕ) : Type 0 where
  pub starts : head ≡ slice_index_or chain 0 null
  pub goes_on : (j : ℕ) → j < length chain → next (slice_index chain j) ≡ slice_index_or chain (suc j) null

-- whose the blocks are
pub record Places : Type 0 where
  -- of the file in each entry: its index blocks and its data blocks, in order
  pub chains : List (List ℕ)
  pub datas : List (List ℕ)
  pub free_index : List ℕ
  pub free_data : List ℕ
  -- of the call in hand
  pub held_index : List ℕ
  pub held_data : List ℕ

-- the list of a number
abbrev pub numbers_at : List (List ℕ) → ℕ → List ℕ
numbers_at lists e = slice_index_or lists e []

-- how often a number is in the lists of all files
abbrev pub times_in : ℕ → List (List ℕ) → ℕ
times_in n [] = 0
times_in n (l ∷ lists) = times_met n l + times_in n lists

-- the index block j of a file
abbrev pub index_for : ℕ → List ℕ → List ℕ → Index
index_for j chain blocks = record {
  next = slice_index_or chain (suc j) null;
  offset = 8192 * j;
  blocks = take 16 (drop (16 * j) blocks ++ replicate 16 null);
}

-- a file of an entry lies in these index and data blocks
pub record FileLies (d : Shape) (entry : Entry) (chain : List ℕ) (blocks : List ℕ) : Type 0 where
  pub indexes : length chain ≡ (entry.size + 8191) / 8192
  pub datas : length blocks ≡ (entry.size + 511) / 512
  pub first : entry.first ≡ slice_index_or chain 0 null
  pub each : (j : ℕ) → j < length chain → index_in d (slice_index chain j) ≡ index_for j chain blocks

-- each index block below many, and each data block from low to high, has one owner
pub record Laid (many low high : ℕ) (d : Shape) (p : Places) : Type 0 where
  pub chains : length p.chains ≡ length d.entries
  pub datas : length p.datas ≡ length d.entries
  pub file : (e : ℕ) → e < length d.entries → entry_is_used (entry_in d e) ≡ true → FileLies d (entry_in d e) (numbers_at p.chains e) (numbers_at p.datas e)
  pub no_file : (e : ℕ) → e < length d.entries → entry_is_used (entry_in d e) ≡ false → (numbers_at p.chains e ≡ []) × (numbers_at p.datas e ≡ [])
  pub free_index : IsChain (λ i. (index_in d i).next) d.header.free_index p.free_index
  pub free_data : IsChain (λ b. slice_index d.links b) d.header.free_data p.free_data
  pub one_index : (i : ℕ) → times_in i p.chains + times_met i p.free_index + times_met i p.held_index ≡ cond (nat_lt i many) 1 0
  pub one_data : (b : ℕ) → times_in b p.datas + times_met b p.free_data + times_met b p.held_data ≡ cond (nat_lt b high && not (nat_lt b low)) 1 0

-- the steps of a call on the fields

-- the disk with other counts
abbrev pub with_header : Shape → Header → Shape
with_header d header = record d { header = header }

-- takes the first free data block
abbrev pub data_taken : Shape → Shape
data_taken d = with_header d (record d.header { free_data = slice_index d.links d.header.free_data })

-- writes a data block
abbrev pub data_put : Shape → ℕ → ℕ → Shape
data_put d b word = record d { links = slice_set d.links b word }

-- writes an index block
abbrev pub index_put : Shape → ℕ → Index → Shape
index_put d i index = record d { indexes = slice_set d.indexes i index }

-- puts the block that is held first before the free ones, once it names them
abbrev pub data_freed : Shape → ℕ → Shape
data_freed d b = with_header d (record d.header { free_data = b })

-- puts an entry in the directory
abbrev pub entry_put : Shape → ℕ → Entry → Shape
entry_put d e entry = record d { entries = slice_set d.entries e entry }

-- What is so while a call that puts bytes waits for a block.
use Rattle.std.specs.Prelude.{ℕ, ◌≡◌, ◌≢◌, ◌+◌, ◌-◌, ◌/◌, ◌%◌, ◌<◌, ◌≤◌, true, false, List, [], ◌∷◌, length, take, drop, replicate, Some, slice_index, ◌⊎◌}
use Rattle.lfs_format.specs.Indexes.{index_at, IsIndexPut}
use Rattle.lfs_check.specs.Meets.{null}
use Rattle.lfs_check.specs.Rules.{block_in}
use Rattle.lfs_check.specs.Laid.{Places, numbers_at, index_for}
use Rattle.lfs_check.specs.Disks.{entry_at, header_on}
use Rattle.xinu_model.specs.Files.Writing.{overwritten}
use Rattle.file_laws.specs.StoredFiles.{entry_bytes}
use Rattle.file_laws.specs.Middle.{IsMiddle}
use Rattle.local_files.specs.Steps.{device_at, device_of, at_byte, piece, is_truncate, with_piece}
use Rattle.local_files.specs.Wanted.{block_of_index}
use Rattle.local_files.specs.Puts.{at_end, target, fresh_index, linked_index, added_index}
use Rattle.local_files.specs.declared.OpenFile.{OpenFile}
use Rattle.local_files.specs.declared.FileCall.{FileCall}
use Rattle.local_files.specs.declared.FileCall.TheVariants.{Write, Putc}
use Rattle.local_files.specs.declared.Files.{Files}
use Rattle.local_files.specs.Hands.{put_bytes}

-- the bytes that a call puts are its own
abbrev pub IsPut : FileCall → List ℕ → Type 0
IsPut (Write d) bytes = Unit {0}
IsPut (Putc d b) bytes = bytes ≡ b ∷ []
IsPut _ bytes = ⊥

-- a call has put some of its bytes into a file that a device has open
pub record IsPutting (e : Files) (base disk : List ℕ) (p : Places) : Type 0 where
  pub call : IsPut e.call (put_bytes e)
  pub file : OpenFile
  pub open_is : device_at e (device_of e.call) ≡ Some file
  pub writes : file.write ≡ true
  pub slot : e.slot ≡ file.slot
  pub position : e.counters.position ≡ file.position
  pub most : e.counters.total ≤ 1048576
  pub few : e.counters.done ≤ e.counters.total
  pub some : 0 < e.counters.total
  pub files : e.header.files ≡ (header_on base).files
  pub middle : IsMiddle e.blocks base disk e.header e.slot e.entry p
      (overwritten e.counters.position (take e.counters.done (put_bytes e)) (entry_bytes base (entry_at base e.slot)))

-- it has come to an index block of the file
pub record IsAt (e : Files) (p : Places) : Type 0 where
  pub below : e.reached ≤ length (numbers_at p.chains e.slot)
  pub at : 0 < e.reached → e.at ≡ slice_index (numbers_at p.chains e.slot) (e.reached - 1)
  pub index : 0 < e.reached → e.index ≡ index_for (e.reached - 1) (numbers_at p.chains e.slot) (numbers_at p.datas e.slot)

-- it goes on with the bytes that are left
pub record IsReady (e : Files) (base disk : List ℕ) : Type 0 where
  pub places : Places
  pub putting : IsPutting e base disk places
  pub no_index : places.held_index ≡ []
  pub no_data : places.held_data ≡ []
  pub fresh : e.counters.done ≡ 0 → disk ≡ base
  pub cursor : IsAt e places
  pub near : 0 < e.reached → (e.reached ≤ target e + 1) × (target e ≤ e.reached)

-- it waits for an index block, after which so many come to that of the next bytes
pub record IsReach (e : Files) (rest at : ℕ) (base disk : List ℕ) : Type 0 where
  pub ready : IsReady e base disk
  pub left : e.counters.done < e.counters.total
  pub few : rest ≤ target e
  pub below : target e < length (numbers_at ready.places.chains e.slot)
  pub start : 0 < rest → e.reached ≡ 0
  pub here : at ≡ slice_index (numbers_at ready.places.chains e.slot) (target e - rest)

-- it waits for the data block of the next bytes
pub record IsPatch (e : Files) (b : ℕ) (base disk : List ℕ) : Type 0 where
  pub ready : IsReady e base disk
  pub left : e.counters.done < e.counters.total
  pub reached : e.reached ≡ target e + 1
  pub inside : at_end e ≡ false
  pub here : b ≡ slice_index (numbers_at ready.places.datas e.slot) (at_byte e / 512)

-- the data block is to be written with the bytes
pub record IsPatched (e : Files) (b : ℕ) (base disk : List ℕ) : Type 0 where
  pub patch : IsPatch e b base disk
  pub block : e.block ≡ with_piece (at_byte e % 512) (block_in disk b) e

-- the next bytes need a new data block, and an index block if they are the first of one
pub record IsTake (e : Files) (b : ℕ) (base disk : List ℕ) : Type 0 where
  pub ready : IsReady e base disk
  pub left : e.counters.done < e.counters.total
  pub ends : at_end e ≡ true
  pub reached : 0 < at_byte e → e.reached ≡ target e + 1
  pub head : e.header.free_data ≡ b
  pub some : b ≢ null
  pub index : at_byte e % 8192 ≡ 0 → e.header.free_index ≢ null

-- the data block is taken
pub record IsTaken (e : Files) (b : ℕ) (base disk : List ℕ) : Type 0 where
  pub places : Places
  pub putting : IsPutting e base disk places
  pub left : e.counters.done < e.counters.total
  pub no_index : places.held_index ≡ []
  pub held : places.held_data ≡ b ∷ []
  pub ends : at_end e ≡ true
  pub cursor : IsAt e places
  pub reached : 0 < at_byte e → e.reached ≡ target e + 1
  pub index : at_byte e % 8192 ≡ 0 → e.header.free_index ≢ null

-- it is to be written with the bytes
pub record IsTakeWrite (e : Files) (b : ℕ) (base disk : List ℕ) : Type 0 where
  pub taken : IsTaken e b base disk
  pub block : e.block ≡ with_piece 0 (replicate 512 0) e

-- it has the bytes
pub record IsFilled (e : Files) (b : ℕ) (base disk : List ℕ) : Type 0 where
  pub taken : IsTaken e b base disk
  pub filled : take (piece e) (block_in disk b) ≡ take (piece e) (drop e.counters.done e.buffer)

-- the last index block is to be written with its number
pub record IsAddWrite (e : Files) (b : ℕ) (base disk : List ℕ) : Type 0 where
  pub filled : IsFilled e b base disk
  pub room : at_byte e % 8192 ≢ 0
  pub put : IsIndexPut (block_in disk (block_of_index e.at)) (e.at % 7) (added_index b e) e.block

-- an index block is taken besides
pub record IsNew (e : Files) (b i : ℕ) (base disk : List ℕ) : Type 0 where
  pub places : Places
  pub putting : IsPutting e base disk places
  pub left : e.counters.done < e.counters.total
  pub held_index : places.held_index ≡ i ∷ []
  pub held_data : places.held_data ≡ b ∷ []
  pub ends : at_end e ≡ true
  pub cursor : IsAt e places
  pub reached : 0 < at_byte e → e.reached ≡ target e + 1
  pub whole : at_byte e % 8192 ≡ 0
  pub filled : take (piece e) (block_in disk b) ≡ take (piece e) (drop e.counters.done e.buffer)

-- it is to be written with the number
pub record IsNewWrite (e : Files) (b i : ℕ) (base disk : List ℕ) : Type 0 where
  pub new : IsNew e b i base disk
  pub put : IsIndexPut (block_in disk (block_of_index i)) (i % 7) (fresh_index b e) e.block

-- it has the number, and the last index block is to name it
pub record IsLink (e : Files) (b i : ℕ) (base disk : List ℕ) : Type 0 where
  pub new : IsNew e b i base disk
  pub some : 0 < at_byte e
  pub written : index_at (i % 7) (block_in disk (block_of_index i)) ≡ fresh_index b e

-- the last index block is to be written so
pub record IsLinkWrite (e : Files) (b i : ℕ) (base disk : List ℕ) : Type 0 where
  pub link : IsLink e b i base disk
  pub put : IsIndexPut (block_in disk (block_of_index e.at)) (e.at % 7)
      (linked_index i (index_at (e.at % 7) (block_in disk (block_of_index e.at)))) e.block

-- a call that puts bytes begins
pub record IsBegun (e : Files) (file : OpenFile) : Type 0 where
  pub call : IsPut e.call (put_bytes e)
  pub position : e.counters.position ≡ file.position
  pub most : e.counters.total ≤ 1048576
  pub some : 0 < e.counters.total
  pub none : e.counters.done ≡ 0
  pub not_reached : e.reached ≡ 0

-- the counts are to be read
pub record IsCounting (e : Files) (base disk : List ℕ) : Type 0 where
  pub same : disk ≡ base
  pub file : OpenFile
  pub open_is : device_at e (device_of e.call) ≡ Some file
  pub writes : file.write ≡ true
  pub slot : e.slot ≡ file.slot
  pub entry : e.entry ≡ file.entry
  pub begun : (is_truncate e.call ≡ true) ⊎ IsBegun e file

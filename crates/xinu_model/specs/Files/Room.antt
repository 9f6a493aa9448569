-- How much room files have on a disk. No block is named here.
use Rattle.std.specs.Prelude.{ℕ, ◌+◌, ◌-◌, ◌*◌, ◌/◌, nat_le, Bool, ◌&&◌, List, length}
use Rattle.xinu_model.specs.Files.Constants.{LF_BLKSIZ, LF_IDATA, LF_AREA_IB, LF_IBLOCKS}
use Rattle.xinu_model.specs.Files.Stored.{StoredFile}
use Rattle.xinu_model.specs.Sound.Tables.{total}

-- the data blocks and the index blocks of a file of this many bytes
abbrev pub data_blocks : ℕ → ℕ
data_blocks size = (size + (LF_BLKSIZ - 1)) / LF_BLKSIZ

abbrev pub index_blocks : ℕ → ℕ
index_blocks size = (size + (LF_IDATA - 1)) / LF_IDATA

-- the blocks of a disk of this many blocks that hold index blocks
abbrev pub index_area : ℕ → ℕ
index_area blocks = (blocks + 63) / 64

-- how many data blocks and how many index blocks it has
abbrev pub data_room : ℕ → ℕ
data_room blocks = blocks - (LF_AREA_IB + index_area blocks)

abbrev pub index_room : ℕ → ℕ
index_room blocks = LF_IBLOCKS * index_area blocks

-- the data blocks and the index blocks that files need
abbrev pub data_needed : List StoredFile → ℕ
data_needed files = total (λ (f : StoredFile). data_blocks (length f.bytes)) files

abbrev pub index_needed : List StoredFile → ℕ
index_needed files = total (λ (f : StoredFile). index_blocks (length f.bytes)) files

-- Whether files fit on a disk of this many blocks.
abbrev pub they_fit : ℕ → List StoredFile → Bool
they_fit blocks files = nat_le (data_needed files) (data_room blocks) && nat_le (index_needed files) (index_room blocks)

-- Which block is wanted for each purpose, and how the engine goes on to it.
use Rattle.std.specs.Prelude.{ℕ, ◌+◌, ◌/◌, nat_lt, if◌then◌else◌, List, negsuc}
use Rattle.local_files.specs.Steps.{answered}
use Rattle.local_files.specs.declared.BlockWork.{BlockWork}
use Rattle.local_files.specs.declared.BlockWork.TheVariants as work
use Rattle.local_files.specs.declared.Phase.TheVariants.{Wants}
use Rattle.local_files.specs.declared.Purpose.{Purpose}
use Rattle.local_files.specs.declared.Purpose.TheVariants.{Search, Walk, Fetch, Counts, Reach, PatchRead, PatchWrite, TakeRead, TakeWrite, AddRead, AddWrite, NewRead, NewWrite, LinkRead, LinkWrite, CutRead, CutWrite, FreeWrite, EntryRead, EntryWrite, HeaderRead, HeaderWrite}
use Rattle.local_files.specs.declared.Files.{Files}

-- the number of the block
abbrev pub block_of : BlockWork → ℕ
block_of (work.Read n) = n
block_of (work.Write n) = n

-- the disk block of an index block
abbrev pub block_of_index : ℕ → ℕ
block_of_index index = 6 + index / 7

-- The block that is wanted for a purpose.
abbrev pub block_for : Purpose → Files → BlockWork
block_for (Search block) e = work.Read block
block_for (Walk rest index) e = work.Read (block_of_index index)
block_for (Fetch block) e = work.Read block
block_for Counts e = work.Read 0
block_for (Reach rest index) e = work.Read (block_of_index index)
block_for (PatchRead block) e = work.Read block
block_for (PatchWrite block) e = work.Write block
block_for (TakeRead block) e = work.Read block
block_for (TakeWrite block) e = work.Write block
block_for (AddRead block) e = work.Read (block_of_index e.at)
block_for (AddWrite block) e = work.Write (block_of_index e.at)
block_for (NewRead block index) e = work.Read (block_of_index index)
block_for (NewWrite block index) e = work.Write (block_of_index index)
block_for (LinkRead block index) e = work.Read (block_of_index e.at)
block_for (LinkWrite block index) e = work.Write (block_of_index e.at)
block_for CutRead e = work.Read (block_of_index e.at)
block_for CutWrite e = work.Write (block_of_index e.at)
block_for (FreeWrite block) e = work.Write block
block_for EntryRead e = work.Read (e.slot / 13)
block_for EntryWrite e = work.Write (e.slot / 13)
block_for HeaderRead e = work.Read 0
block_for HeaderWrite e = work.Write 0

-- The engine goes on to the block that is wanted for a purpose, if the disk has such a block.
abbrev pub going_on : Purpose → Files → Files
going_on purpose e = if nat_lt (block_of (block_for purpose e)) e.blocks then record e { phase = Wants purpose } else answered (negsuc 0) e

-- A block is to be written for a purpose.
abbrev pub to_write : Purpose → List ℕ → Files → Files
to_write purpose block e = record e { block = block; phase = Wants purpose }

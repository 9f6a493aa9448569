-- How many completions a call has left at most.
use Rattle.std.specs.Prelude.{ℕ, ◌+◌, ◌-◌, ◌*◌, ◌/◌, if◌then◌else◌, List, []}
use Rattle.lfs_check.specs.Disks.{entry_at}
use Rattle.xinu_model.specs.Files.Room.{data_blocks, index_blocks}
use Rattle.xinu_model.specs.Files.Work.{size_for}
use Rattle.local_files.specs.Hands.{system}
use Rattle.local_files.specs.Steps.{is_truncate}
use Rattle.local_files.specs.Standing.{call_of}
use Rattle.local_files.specs.declared.Phase.{Phase}
use Rattle.local_files.specs.declared.Phase.TheVariants.{Wants}
use Rattle.local_files.specs.declared.Purpose.{Purpose}
use Rattle.local_files.specs.declared.Purpose.TheVariants.{Search, Walk, Fetch, Counts, Reach, PatchRead, PatchWrite, TakeRead, TakeWrite, AddRead, AddWrite, NewRead, NewWrite, LinkRead, LinkWrite, CutRead, CutWrite, FreeWrite, EntryRead, EntryWrite, HeaderRead, HeaderWrite}
use Rattle.local_files.specs.declared.Files.{Files}

-- how many data blocks of the file have bytes of the call that are left
abbrev pub blocks_left : Files → ℕ
blocks_left e = data_blocks (e.counters.position + e.counters.total) - (e.counters.position + e.counters.done) / 512

-- how many of its index blocks name them
abbrev pub indexes_left : Files → ℕ
indexes_left e = index_blocks (e.counters.position + e.counters.total) - (e.counters.position + e.counters.done) / 8192

-- a read: each of these is read once
abbrev pub read_left : Files → ℕ
read_left e = blocks_left e + indexes_left e

-- a write, after the data block in hand: at most seven for each that follows, and four for the directory
abbrev pub put_left : Files → ℕ
put_left e = 7 * (blocks_left e - 1) + 4

-- a file of this size is cut, and this many of its index blocks and data blocks are free: two for each other index block, one for each other
-- data block, and four for the directory
abbrev pub cut_left : ℕ → ℕ → ℕ → ℕ
cut_left size indexes datas = 2 * (index_blocks size - indexes) + (data_blocks size - datas) + 4

-- what is left while a block is wanted for a purpose
abbrev pub left_for : Purpose → Files → List ℕ → ℕ
left_for (Search d) e base = (6 - d) + cut_left (size_for (call_of e.call []) (system e base)) 0 0
left_for (Walk rest at) e base = rest + 1 + read_left e
left_for (Fetch b) e base = read_left e
left_for Counts e base =
    if is_truncate e.call then 1 + cut_left (entry_at base e.slot).size 0 0 else e.counters.position / 8192 + 8 + put_left e
left_for (Reach rest at) e base = rest + 7 + put_left e
left_for (PatchRead b) e base = 2 + put_left e
left_for (PatchWrite b) e base = 1 + put_left e
left_for (TakeRead b) e base = 6 + put_left e
left_for (TakeWrite b) e base = 5 + put_left e
left_for (AddRead b) e base = 2 + put_left e
left_for (AddWrite b) e base = 1 + put_left e
left_for (NewRead b i) e base = 4 + put_left e
left_for (NewWrite b i) e base = 3 + put_left e
left_for (LinkRead b i) e base = 2 + put_left e
left_for (LinkWrite b i) e base = 1 + put_left e
left_for CutRead e base = cut_left (entry_at base e.slot).size e.reached (16 * e.reached)
left_for CutWrite e base = 1 + cut_left (entry_at base e.slot).size (e.reached + 1) (16 * e.reached)
left_for (FreeWrite b) e base = cut_left (entry_at base e.slot).size e.reached (16 * (e.reached - 1) + e.freed)
left_for EntryRead e base = 4
left_for EntryWrite e base = 3
left_for HeaderRead e base = 2
left_for HeaderWrite e base = 1

-- what is left while the engine waits
abbrev pub left_in : Phase → Files → List ℕ → ℕ
left_in (Wants purpose) e base = left_for purpose e base
left_in _ e base = 0

-- How many completions the call in hand has left at most, over the disk as it was when the call began.
abbrev pub left : Files → List ℕ → ℕ
left e base = left_in e.phase e base

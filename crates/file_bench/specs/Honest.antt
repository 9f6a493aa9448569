-- Work of the file engine on a disk.
use Rattle.std.specs.Prelude.{ℕ, ◌+◌, ◌*◌, ◌≤◌, List, length}
use Rattle.local_files.specs.declared.BlockWork.{BlockWork}
use Rattle.local_files.specs.declared.BlockWork.TheVariants.{Read, Write}

-- The block that is to be read or written is on the disk.
abbrev pub IsWithin : BlockWork → List ℕ → Type 0
IsWithin (Read n) disk = 512 * n + 512 ≤ length disk
IsWithin (Write n) disk = 512 * n + 512 ≤ length disk

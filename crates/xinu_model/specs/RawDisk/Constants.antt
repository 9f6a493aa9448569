-- The constants of disks, by the names of the book where it has one (chapter 18, `rdisksys.h`).
use Rattle.std.specs.Prelude.{ℕ}

-- how many bytes a block has
abbrev pub RD_BLKSIZ : ℕ
RD_BLKSIZ = 512

-- the control function that tells how many blocks there are
abbrev pub RD_CTL_SIZE : ℕ
RD_CTL_SIZE = 1

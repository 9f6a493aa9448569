-- The constants of files, by the names of the book where it has one (chapter 19, `lfilesys.h`).
use Rattle.std.specs.Prelude.{ℕ}

-- the most bytes of a file's name
abbrev pub LF_NAME_LEN : ℕ
LF_NAME_LEN = 27

-- the most files
abbrev pub LF_NUM_DIR_ENT : ℕ
LF_NUM_DIR_ENT = 78

-- how many file devices there are
abbrev pub Nlfl : ℕ
Nlfl = 6

-- the first file device
abbrev pub LFILE0 : ℕ
LFILE0 = 4

-- how many bytes of a file a data block holds
abbrev pub LF_BLKSIZ : ℕ
LF_BLKSIZ = 512

-- how many bytes of a file the data blocks of an index block hold
abbrev pub LF_IDATA : ℕ
LF_IDATA = 8192

-- the first block of the disk that holds index blocks; those before it are the directory
abbrev pub LF_AREA_IB : ℕ
LF_AREA_IB = 6

-- how many index blocks a block of the disk holds
abbrev pub LF_IBLOCKS : ℕ
LF_IBLOCKS = 7

-- the control function of the file system that deletes a file
abbrev pub LF_CTL_DEL : ℕ
LF_CTL_DEL = 1

-- the control function of a file device that empties its file
abbrev pub LF_CTL_TRUNC : ℕ
LF_CTL_TRUNC = 1

-- the control function of a file device that tells the size of its file
abbrev pub LF_CTL_SIZE : ℕ
LF_CTL_SIZE = 2

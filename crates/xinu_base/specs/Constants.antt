-- The constants of the kernel, by the names that the book gives them.
use Rattle.std.specs.Prelude.{ℕ, ℤ, pos, negsuc}

-- how many processes there can be
abbrev pub NPROC : ℕ
NPROC = 64

-- how many semaphores there can be
abbrev pub NSEM : ℕ
NSEM = 128

-- how many ticks a process runs before the others have their turn
abbrev pub QUANTUM : ℕ
QUANTUM = 2

-- the fewest bytes of a stack
abbrev pub MINSTK : ℕ
MINSTK = 400

-- the address at which a process's first function returns
abbrev pub INITRET : ℕ
INITRET = 0xFFFFFFFC

-- the answer of a call that was carried out and has nothing else to tell
abbrev pub OK : ℤ
OK = pos 0

-- the answer of a call that was refused
abbrev pub SYSERR : ℤ
SYSERR = negsuc 0

-- the answer of a read at the end of a file
abbrev pub EOF : ℤ
EOF = negsuc 1

-- the answer of a call that waited in vain
abbrev pub TIMEOUT : ℤ
TIMEOUT = negsuc 2

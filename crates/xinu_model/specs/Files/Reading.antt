-- Reading a file, and its position and size (book, chapter 19, `lflread.c`, `lflgetc.c`, `lflseek.c`, `lflcontrol.c`).
use Rattle.std.specs.Prelude.{ℕ, ◌+◌, ◌==◌, nat_le, nat_lt, not, if◌then◌else◌, List, [], ◌∷◌, length, take, drop, ℤ, pos, negsuc}
use Rattle.xinu_base.specs.Constants.{OK, EOF}
use Rattle.xinu_model.specs.Files.Systems.{OpenFile, FileSystem, FileEffect, open_bytes, moved, replies, refused_effect}

-- the bytes from the position on, at most n
abbrev pub bytes_ahead : ℕ → OpenFile → FileSystem → List ℕ
bytes_ahead n f s = take n (drop f.position (open_bytes f s))

-- these bytes are read
abbrev pub taken : List ℕ → ℕ → OpenFile → FileSystem → FileEffect
taken bytes d f s = record { system = moved d f (f.position + length bytes) s; reply = pos (length bytes); bytes = bytes }

-- `read`: as many of n bytes as there are; the end of the file is told only to who asks for bytes.
abbrev pub read_file : ℕ → ℕ → OpenFile → FileSystem → FileEffect
read_file d n f s =
    if not f.may_read then refused_effect s
    else (if n == 0 then replies OK s
    else (if nat_le (length (open_bytes f s)) f.position then replies EOF s
    else taken (bytes_ahead n f s) d f s))

-- the first of these bytes
abbrev pub first_byte : List ℕ → ℕ → OpenFile → FileSystem → FileEffect
first_byte [] d f s = replies EOF s
first_byte (b ∷ bytes) d f s = replies (pos b) (moved d f (f.position + 1) s)

-- `getc`: one byte.
abbrev pub getc_file : ℕ → OpenFile → FileSystem → FileEffect
getc_file d f s = if not f.may_read then refused_effect s else first_byte (bytes_ahead 1 f s) d f s

-- `seek`: a position up to the end.
abbrev pub seek_file : ℕ → ℤ → OpenFile → FileSystem → FileEffect
seek_file d (negsuc n) f s = refused_effect s
seek_file d (pos n) f s = if nat_lt (length (open_bytes f s)) n then refused_effect s else replies OK (moved d f n s)

-- A file device's `control` that tells the size.
abbrev pub size_of_file : OpenFile → FileSystem → FileEffect
size_of_file f s = replies (pos (length (open_bytes f s))) s

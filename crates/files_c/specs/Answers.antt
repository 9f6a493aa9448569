-- What files answer to calls, one after another.
use Rattle.std.specs.Prelude.{ℕ, ◌+◌, ◌-◌, ◌/◌, ◌%◌, ◌==◌, nat_le, nat_lt, ◌&&◌, Bool, if◌then◌else◌, List, [], ◌∷◌, ◌++◌, length, min, take, drop, ℤ, pos}
use Rattle.files_c.specs.Spans.{is_span, span}
use Rattle.files_c.specs.declared.calls.FilesCall.{FilesCall}
use Rattle.lfs_layout.specs.Files.{is_text}
use Rattle.xinu_base.specs.Constants.{SYSERR}
use Rattle.xinu_base.specs.declared.files.OpenMode.{OpenMode}
use Rattle.xinu_model.specs.Files.Calls.{FileCall, Open, Delete, Close, Read, Write, Getc, Putc, Seek, Truncate, Size, file_effect}
use Rattle.xinu_model.specs.Files.Systems.{FileEffect, FileSystem, closed_system}

-- The files and the open devices, and the bytes in which names and contents lie.
pub record Held : Type 0 where
  pub system : FileSystem
  pub bytes : List ℕ

-- An answer, and what is held after it.
pub record Answered : Type 0 where
  pub answer : ℤ
  pub held : Held

-- a call that is refused
abbrev pub refused : Held → Answered
refused h = record { answer = SYSERR; held = h }

-- the mode of a number: 1 for reading, 2 for writing, 4 for an old file alone, 8 for a new one alone
abbrev pub mode_of : ℕ → OpenMode
mode_of n = record {
  read = n % 2 == 1;
  write = n / 2 % 2 == 1;
  only_old = n / 4 % 2 == 1;
  only_new = n / 8 % 2 == 1;
}

-- bytes with others in their place, from a place on
abbrev pub patched : List ℕ → ℕ → List ℕ → List ℕ
patched bytes at given = take at bytes ++ (given ++ drop (at + length given) bytes)

-- a call has its effect: the reply is the answer
abbrev pub replied : FileEffect → List ℕ → Answered
replied e bytes = record { answer = e.reply; held = record { system = e.system; bytes = bytes } }

-- whether a name lies where a call says
abbrev pub has_name : FilesCall → List ℕ → Bool
has_name c bytes = is_span bytes c.at c.count && is_text (span bytes c.at c.count)

-- a call on a file by its name
abbrev pub named : FileCall → FilesCall → Held → Answered
named call c h =
    if has_name c h.bytes then replied (file_effect call [] h.system) h.bytes
    else refused h

-- whether there is a device of a number; they are counted from 4
abbrev pub is_device : ℕ → Bool
is_device n = nat_le 4 n && nat_lt n 10

-- the call on a device of a kind that takes no bytes
abbrev pub device_call : ℕ → ℕ → ℕ → FileCall
device_call kind d n =
    if kind == 2 then Close d
    else if kind == 5 then Getc d
    else if kind == 6 then Putc d (n % 256)
    else if kind == 7 then Seek d (pos (min n 2147483647))
    else if kind == 8 then Truncate d
    else Size d

-- a call on a device
abbrev pub on_device : FilesCall → Held → Answered
on_device c h =
    if is_device c.number then replied (file_effect (device_call c.kind (c.number - 4) c.count) [] h.system) h.bytes else refused h

-- whether bytes can be read or written: there is the device, and there are the bytes, and no more than a mebibyte
abbrev pub can_move : FilesCall → List ℕ → Bool
can_move c bytes = is_device c.number && (is_span bytes c.at c.count && nat_le c.count 1048576)

-- a read: the bytes that it gives are put where the call says
abbrev pub reads : FilesCall → Held → Answered
reads c h =
    let e = file_effect (Read (c.number - 4) c.count) [] h.system in
    if can_move c h.bytes then replied e (patched h.bytes c.at e.bytes) else refused h

-- a write of the bytes that are where the call says
abbrev pub writes : FilesCall → Held → Answered
writes c h =
    let given = span h.bytes c.at c.count in
    if can_move c h.bytes then replied (file_effect (Write (c.number - 4) (length given)) given h.system) h.bytes else refused h

-- a call of any other kind: one on a device that takes no bytes, if there is such a kind
abbrev pub others : FilesCall → Held → Answered
others c h = if nat_lt 9 c.kind then refused h else on_device c h

-- the answer to a call
abbrev pub answered : Held → FilesCall → Answered
answered h c =
    if c.kind == 0 then named (Open (span h.bytes c.at c.count) (mode_of c.number)) c h
    else if c.kind == 1 then named (Delete (span h.bytes c.at c.count)) c h
    else if c.kind == 3 then reads c h
    else if c.kind == 4 then writes c h
    else others c h

-- the answers to calls, one after another
abbrev pub answers_of : Held → List FilesCall → List ℤ
answers_of h [] = []
answers_of h (c ∷ calls) = (answered h c).answer ∷ answers_of (answered h c).held calls

-- the bytes after the calls
abbrev pub bytes_after : Held → List FilesCall → List ℕ
bytes_after h [] = h.bytes
bytes_after h (c ∷ calls) = bytes_after (answered h c).held calls

-- an empty disk of so many blocks, and bytes
abbrev pub start : ℕ → List ℕ → Held
start blocks bytes = record { system = closed_system blocks []; bytes = bytes }

-- whether there is a disk of so many blocks
abbrev pub is_size : ℕ → Bool
is_size blocks = nat_le 14 blocks && nat_le blocks 65542

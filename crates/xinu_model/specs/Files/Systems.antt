-- The file system: its files and its open devices. Devices are counted from the first file device.
use Rattle.std.specs.Prelude.{ℕ, suc, Bool, false, List, [], ◌∷◌, slice_set, slice_index_or, replicate, Option, Some, None, bytes_eq, ℤ}
use Rattle.std.specs.List.{list_any}
use Rattle.xinu_base.specs.Constants.{SYSERR}
use Rattle.xinu_model.specs.Files.Constants.{Nlfl}
use Rattle.xinu_model.specs.Files.Stored.{StoredFile, file_named, bytes_in}

-- What a device has open: the name of its file, the position in it, and whether it may be read and written.
pub record OpenFile : Type 0 where
  pub name : List ℕ
  pub position : ℕ
  pub may_read : Bool
  pub may_write : Bool

-- The number of blocks of the disk, the files in the order of their names, and what each device has open.
pub record FileSystem : Type 0 where
  pub blocks : ℕ
  pub files : List StoredFile
  pub devices : List (Option OpenFile)

-- the file system of a disk of this many blocks with these files, before anything is opened
abbrev pub closed_system : ℕ → List StoredFile → FileSystem
closed_system blocks files = record { blocks = blocks; files = files; devices = replicate Nlfl None }

-- what a device has open
abbrev pub open_at : FileSystem → ℕ → Option OpenFile
open_at s d = slice_index_or s.devices d None

-- whether a device has the file of a name open
abbrev pub has_open : List ℕ → Option OpenFile → Bool
has_open name None = false
has_open name (Some f) = bytes_eq f.name name

-- whether the file of a name is open
abbrev pub is_open : List ℕ → FileSystem → Bool
is_open name s = list_any (has_open name) s.devices

-- the lowest device that has nothing open
abbrev pub free_device : List (Option OpenFile) → ℕ
free_device [] = 0
free_device (None ∷ devices) = 0
free_device (Some f ∷ devices) = suc (free_device devices)

-- the bytes of the file that a device has open
abbrev pub open_bytes : OpenFile → FileSystem → List ℕ
open_bytes f s = bytes_in (file_named f.name s.files)

-- a device has this open
abbrev pub with_device : ℕ → Option OpenFile → FileSystem → FileSystem
with_device d x s = record s { devices = slice_set s.devices d x }

-- a device at another position
abbrev pub moved : ℕ → OpenFile → ℕ → FileSystem → FileSystem
moved d f position s = with_device d (Some (record f { position = position })) s

-- What a call on files leaves: the file system, its reply, and the bytes that go to RAM.
pub record FileEffect : Type 0 where
  pub system : FileSystem
  pub reply : ℤ
  pub bytes : List ℕ

-- the reply of a call that gives no bytes
abbrev pub replies : ℤ → FileSystem → FileEffect
replies reply s = record { system = s; reply = reply; bytes = [] }

-- the call is refused, and changes nothing
abbrev pub refused_effect : FileSystem → FileEffect
refused_effect s = replies SYSERR s

-- a call on a device is refused if that has nothing open
abbrev pub on_open : Option OpenFile → (OpenFile → FileEffect) → FileSystem → FileEffect
on_open None effect s = refused_effect s
on_open (Some f) effect s = effect f

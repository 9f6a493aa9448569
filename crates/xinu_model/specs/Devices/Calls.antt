-- The calls on devices: each goes to the device that its first argument names, if that offers it (book, chapter 14). Calls on the
-- file system and on files are judged by their arguments as they are made, and by the files as they take effect.
use Rattle.std.specs.Prelude.{ℕ, ◌-◌, ◌%◌, if◌then◌else◌, List, [], ◌∷◌, Option, Some, None, ℤ, pos}
use Rattle.xinu_base.specs.Constants.{OK}
use Rattle.xinu_base.specs.declared.devices.Kind.{Kind}
use Rattle.xinu_base.specs.declared.devices.Kind.TheVariants as kind
use Rattle.xinu_base.specs.declared.devices.Op.{Op}
use Rattle.xinu_base.specs.declared.devices.Op.TheVariants as op
use Rattle.xinu_model.specs.Console.Putting.{console_putc, console_write}
use Rattle.xinu_model.specs.Console.Signals.{console_control}
use Rattle.xinu_model.specs.Console.Taking.{console_getc, console_read}
use Rattle.xinu_model.specs.Devices.Table.{DISK0, kind_of, offers}
use Rattle.xinu_model.specs.Devices.Texts.{text_at}
use Rattle.xinu_model.specs.Files.Calls.{FileCall, Close, Getc, Putc, Seek}
use Rattle.xinu_model.specs.Files.Constants.{LFILE0}
use Rattle.xinu_model.specs.Files.Issue.{open_call, system_control_call, file_control_call, read_call, write_call}
use Rattle.xinu_model.specs.Files.Syscalls.{asks_files}
use Rattle.xinu_model.specs.Footprints.{on_files, on_console_or_files, on_devices, on_names}
use Rattle.xinu_model.specs.Machine.{Xinu, CallResult, refused}
use Rattle.xinu_model.specs.Names.Calls.{mount, names_of}
use Rattle.xinu_model.specs.Names.Mapping.{MappedName, map_name}
use Rattle.xinu_model.specs.RawDisk.Calls.{disk_read, disk_write, disk_control}
use Rattle.xinu_model.specs.Rows.{Status, CallRow, row}
use Rattle.xinu_model.specs.Semaphores.Calls.{answers}
use Rattle.xinu_model.specs.Words.{signed}

-- A call by what the device is, which has to offer it; refused if there is no device.
abbrev pub on_kind : Op → Option Kind → (Kind → Xinu → CallResult) → Xinu → CallResult
on_kind call None does s = refused s
on_kind call (Some k) does s = if offers k call then does k s else refused s

-- a call on the device of a number
abbrev pub on_device : Op → ℕ → (Kind → Xinu → CallResult) → Xinu → CallResult
on_device call dev does s = on_kind call (kind_of dev) does s

-- `open` of a device that isn't the name space, with the texts of a name and a mode
abbrev pub open_direct : List ℕ → List ℕ → Kind → Xinu → CallResult
open_direct name mode kind.Console s = answers OK s
open_direct name mode kind.RawDisk s = answers (pos DISK0) s
open_direct name mode kind.FileSystem s = asks_files (open_call name mode) 0 s
open_direct name mode _ s = refused s

-- `open` of what a name is mapped to, if it is mapped
abbrev pub open_mapped : Option MappedName → List ℕ → Xinu → CallResult
open_mapped None mode s = refused s
open_mapped (Some m) mode s = on_device op.Open m.device (open_direct m.name mode) s

-- `open` by what the device is; the name space opens what the name is mapped to
abbrev pub open_as : Kind → List ℕ → List ℕ → Xinu → CallResult
open_as kind.NameSpace name mode s = open_mapped (map_name (names_of s) name) mode s
open_as k name mode s = open_direct name mode k s

-- the same, if both texts are there
abbrev pub open_with : Kind → Option (List ℕ) → Option (List ℕ) → Xinu → CallResult
open_with k None mode s = refused s
open_with k (Some name) None s = refused s
open_with k (Some name) (Some mode) s = open_as k name mode s

abbrev pub open_texts : ℕ → ℕ → Kind → Xinu → CallResult
open_texts name mode k s = open_with k (text_at name s.memory) (text_at mode s.memory) s

-- Call 36: a device is opened, with the texts at two addresses as a name and a mode; both have to be there, whatever the device is.
abbrev pub device_open : ℕ → ℕ → ℕ → Xinu → CallResult
device_open dev name mode s = on_device op.Open dev (open_texts name mode) s

-- which of the file devices has a number
abbrev pub file_number : ℕ → ℕ
file_number dev = dev - LFILE0

-- `close` by what the device is
abbrev pub close_as : ℕ → Kind → Xinu → CallResult
close_as dev kind.Console s = answers OK s
close_as dev kind.RawDisk s = answers OK s
close_as dev kind.File s = asks_files (Some (Close (file_number dev))) 0 s
close_as dev _ s = refused s

-- call 37: a device is closed
abbrev pub device_close : ℕ → Xinu → CallResult
device_close dev s = on_device op.Close dev (close_as dev) s

-- `read` by what the device is, to an address; the last argument is a signed number of bytes, of the raw disk the number of a block
abbrev pub read_as : ℕ → ℕ → ℕ → Kind → Xinu → CallResult
read_as dev at n kind.Console s = console_read at (signed n) s
read_as dev at n kind.RawDisk s = disk_read at n s
read_as dev at n kind.File s = asks_files (read_call (file_number dev) at (signed n)) at s
read_as dev at n _ s = refused s

-- call 38: a device is read
abbrev pub device_read : ℕ → ℕ → ℕ → Xinu → CallResult
device_read dev at n s = on_device op.Read dev (read_as dev at n) s

-- `write` by what the device is, from an address; the last argument is as that of `read`
abbrev pub write_as : ℕ → ℕ → ℕ → Kind → Xinu → CallResult
write_as dev at n kind.Console s = console_write at (signed n) s
write_as dev at n kind.RawDisk s = disk_write at n s
write_as dev at n kind.File s = asks_files (write_call (file_number dev) at (signed n)) at s
write_as dev at n _ s = refused s

-- call 39: a device is written
abbrev pub device_write : ℕ → ℕ → ℕ → Xinu → CallResult
device_write dev at n s = on_device op.Write dev (write_as dev at n) s

-- `getc` by what the device is
abbrev pub getc_as : ℕ → Kind → Xinu → CallResult
getc_as dev kind.Console s = console_getc s
getc_as dev kind.File s = asks_files (Some (Getc (file_number dev))) 0 s
getc_as dev _ s = refused s

-- call 40: a character is read from a device
abbrev pub device_getc : ℕ → Xinu → CallResult
device_getc dev s = on_device op.Getc dev (getc_as dev) s

-- `putc` by what the device is
abbrev pub putc_as : ℕ → ℕ → Kind → Xinu → CallResult
putc_as dev b kind.Console s = console_putc b s
putc_as dev b kind.File s = asks_files (Some (Putc (file_number dev) b)) 0 s
putc_as dev b _ s = refused s

-- call 41: a character is written to a device
abbrev pub device_putc : ℕ → ℕ → Xinu → CallResult
device_putc dev b s = on_device op.Putc dev (putc_as dev b) s

-- `seek` by what the device is
abbrev pub seek_as : ℕ → ℤ → Kind → Xinu → CallResult
seek_as dev n kind.File s = asks_files (Some (Seek (file_number dev) n)) 0 s
seek_as dev n _ s = refused s

-- call 42: a device has another position
abbrev pub device_seek : ℕ → ℤ → Xinu → CallResult
device_seek dev n s = on_device op.Seek dev (seek_as dev n) s

-- `control` of the file system, if the text at its argument is there
abbrev pub named_control : ℕ → Option (List ℕ) → Option FileCall
named_control f None = None
named_control f (Some name) = system_control_call f name

-- `control` by what the device is, with a function and its argument
abbrev pub control_as : ℕ → ℕ → ℕ → Kind → Xinu → CallResult
control_as dev f x kind.Console s = console_control f s
control_as dev f x kind.RawDisk s = disk_control f s
control_as dev f x kind.FileSystem s = asks_files (named_control f (text_at x s.memory)) 0 s
control_as dev f x kind.File s = asks_files (file_control_call (file_number dev) f) 0 s
control_as dev f x _ s = refused s

-- call 43: a control function of a device
abbrev pub device_control : ℕ → ℕ → ℕ → Xinu → CallResult
device_control dev f x s = on_device op.Control dev (control_as dev f x) s

-- the calls on devices; a character is the lowest byte of its word
abbrev pub device_calls : List CallRow
device_calls =
    row 36 on_files Status (λ a s. device_open (a 0) (a 1) (a 2) s) ∷
    row 37 on_files Status (λ a s. device_close (a 0) s) ∷
    row 38 on_devices Status (λ a s. device_read (a 0) (a 1) (a 2) s) ∷
    row 39 on_devices Status (λ a s. device_write (a 0) (a 1) (a 2) s) ∷
    row 40 on_console_or_files Status (λ a s. device_getc (a 0) s) ∷
    row 41 on_console_or_files Status (λ a s. device_putc (a 0) (a 1 % 256) s) ∷
    row 42 on_files Status (λ a s. device_seek (a 0) (signed (a 1)) s) ∷
    row 43 on_console_or_files Status (λ a s. device_control (a 0) (a 1) (a 2) s) ∷
    row 44 on_names Status (λ a s. mount (a 0) (a 1) (a 2) s) ∷
    []

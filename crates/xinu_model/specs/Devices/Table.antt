-- The table of devices: what each is, and which calls it offers (book, chapter 14, `devtab`).
use Rattle.std.specs.Prelude.{ℕ, Bool, true, false, List, [], ◌∷◌, slice_get, Option}
use Rattle.xinu_base.specs.declared.devices.Kind.{Kind}
use Rattle.xinu_base.specs.declared.devices.Kind.TheVariants as kind
use Rattle.xinu_base.specs.declared.devices.Op.{Op}
use Rattle.xinu_base.specs.declared.devices.Op.TheVariants as op

-- the numbers of the console, the raw disk and the file system
abbrev pub CONSOLE : ℕ
CONSOLE = 0

abbrev pub DISK0 : ℕ
DISK0 = 2

abbrev pub LFILESYS : ℕ
LFILESYS = 3

-- the devices by their numbers
abbrev pub devtab : List Kind
devtab =
    kind.Console ∷ kind.NameSpace ∷ kind.RawDisk ∷ kind.FileSystem ∷ kind.File ∷ kind.File ∷ kind.File ∷ kind.File ∷ kind.File ∷ kind.File ∷ []

-- what the device of a number is, if there is one
abbrev pub kind_of : ℕ → Option Kind
kind_of dev = slice_get devtab dev

-- which calls a device of each kind offers
abbrev pub console_offers : Op → Bool
console_offers op.Seek = false
console_offers _ = true

abbrev pub name_space_offers : Op → Bool
name_space_offers op.Open = true
name_space_offers _ = false

abbrev pub raw_disk_offers : Op → Bool
raw_disk_offers op.Getc = false
raw_disk_offers op.Putc = false
raw_disk_offers op.Seek = false
raw_disk_offers _ = true

abbrev pub file_system_offers : Op → Bool
file_system_offers op.Open = true
file_system_offers op.Control = true
file_system_offers _ = false

abbrev pub file_offers : Op → Bool
file_offers op.Open = false
file_offers _ = true

-- Whether a device of a kind offers a call.
abbrev pub offers : Kind → Op → Bool
offers kind.Console call = console_offers call
offers kind.NameSpace call = name_space_offers call
offers kind.RawDisk call = raw_disk_offers call
offers kind.FileSystem call = file_system_offers call
offers kind.File call = file_offers call

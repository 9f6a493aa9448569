-- Why the calls on devices are refused (book, chapters 14, 15, 18 and 19). Calls on files are judged again as they take effect.
use Rattle.std.specs.Prelude.{ℕ, zero, suc, ◌==◌, Bool, false, not, ◌&&◌, List, [], ◌∷◌, ◌++◌, Option, None, Some, is_some, ℤ, pos, negsuc}
use Rattle.std.specs.List.{list_any}
use Rattle.refusal_reasons.specs.Causes.{cause, CauseRow, row, is_negative}
use Rattle.refusal_reasons.specs.declared.reasons.Cause.{Cause}
use Rattle.refusal_reasons.specs.Files.{name_causes}
use Rattle.refusal_reasons.specs.Names.{direct_causes, has_no_text, mount_causes, name_space_causes, text_or_none}
use Rattle.refusal_reasons.specs.declared.reasons.Reason.TheVariants.{NoDevice, NotOffered, NoFunction, NegativeBytes, OutsideRam, NoDiskBlock, NoName, NoMode}
use Rattle.xinu_base.specs.declared.devices.Kind.{Kind}
use Rattle.xinu_base.specs.declared.devices.Kind.TheVariants as kind
use Rattle.xinu_base.specs.declared.devices.Op.{Op}
use Rattle.xinu_base.specs.declared.devices.Op.TheVariants as op
use Rattle.xinu_model.specs.Console.Taking.{TY_ISEM, console_of, is_cooked}
use Rattle.xinu_model.specs.Devices.Table.{kind_of, offers}
use Rattle.xinu_model.specs.Files.Constants.{LF_CTL_DEL, LF_CTL_TRUNC, LF_CTL_SIZE}
use Rattle.xinu_model.specs.Machine.{Xinu}
use Rattle.xinu_model.specs.Memory.{in_ram}
use Rattle.xinu_model.specs.Names.Calls.{names_of}
use Rattle.xinu_model.specs.Names.Mounting.{NameRow}
use Rattle.xinu_model.specs.RawDisk.Calls.{disk_of}
use Rattle.xinu_model.specs.RawDisk.Constants.{RD_BLKSIZ, RD_CTL_SIZE}
use Rattle.xinu_model.specs.RawDisk.Requests.{has_block}
use Rattle.xinu_model.specs.Tables.{semaphore_at}
use Rattle.xinu_model.specs.Words.{signed}

-- whether a device offers a call
abbrev pub does_offer : Op → Option Kind → Bool
does_offer call None = false
does_offer call (Some k) = offers k call

-- what a kind of device asks for, if there is a device
abbrev pub by_kind : Option Kind → (Kind → List Cause) → List Cause
by_kind None each = []
by_kind (Some k) each = each k

-- there is no device, or it doesn't offer a call
abbrev pub switch_causes : Op → ℕ → List Cause
switch_causes call dev = cause NoDevice (not (is_some (kind_of dev))) ∷ cause NotOffered (not (does_offer call (kind_of dev))) ∷ []

-- a call on a device: there has to be one, it has to offer the call, and then each kind asks for something of its own
abbrev pub device_calls : Op → ℕ → (Kind → List Cause) → List Cause
device_calls call dev each = switch_causes call dev ++ by_kind (kind_of dev) each

-- `open` with the texts at two addresses
abbrev pub open_by : Kind → List NameRow → List ℕ → List ℕ → List Cause
open_by kind.NameSpace rows name mode = name_space_causes rows name mode
open_by k rows name mode = direct_causes (Some k) name mode

abbrev pub open_causes : ℕ → ℕ → Xinu → Kind → List Cause
open_causes name mode s k = cause NoName (has_no_text name s) ∷ cause NoMode (has_no_text mode s) ∷ open_by k (names_of s) (text_or_none name s) (text_or_none mode s)

-- whether so many bytes from an address on leave RAM
abbrev pub leaves_ram : ℕ → ℤ → Bool
leaves_ram at (negsuc n) = false
leaves_ram at (pos n) = not (in_ram at n)

-- The same of a read of the console. In cooked mode one of no bytes answers 0 wherever it is; else 0 stands for as many bytes as there are tokens.
abbrev pub read_leaves_ram : ℕ → ℤ → Xinu → Bool
read_leaves_ram at (negsuc n) s = false
read_leaves_ram at (pos zero) s = not (is_cooked (console_of s).mode) && not (in_ram at (semaphore_at s.tables TY_ISEM).tokens)
read_leaves_ram at (pos (suc n)) s = not (in_ram at (suc n))

-- a transfer of bytes between a file and an address
abbrev pub transfer_causes : ℕ → ℤ → List Cause
transfer_causes at n = cause NegativeBytes (is_negative n) ∷ cause OutsideRam (leaves_ram at n) ∷ []

-- a transfer of a block of the raw disk
abbrev pub block_causes : ℕ → ℕ → Xinu → List Cause
block_causes at block s = cause OutsideRam (not (in_ram at RD_BLKSIZ)) ∷ cause NoDiskBlock (not (has_block block (disk_of s))) ∷ []

-- `read`
abbrev pub read_causes : ℕ → ℕ → Xinu → Kind → List Cause
read_causes at n s kind.Console = cause NegativeBytes (is_negative (signed n)) ∷ cause OutsideRam (read_leaves_ram at (signed n) s) ∷ []
read_causes at n s kind.RawDisk = block_causes at n s
read_causes at n s kind.File = transfer_causes at (signed n)
read_causes at n s _ = []

-- `write`
abbrev pub write_causes : ℕ → ℕ → Xinu → Kind → List Cause
write_causes at n s kind.Console = transfer_causes at (signed n)
write_causes at n s kind.RawDisk = block_causes at n s
write_causes at n s kind.File = transfer_causes at (signed n)
write_causes at n s _ = []

-- whether a number is one of these
abbrev pub is_one_of : ℕ → List ℕ → Bool
is_one_of n numbers = list_any (λ k. n == k) numbers

-- `control`: a function, and the address of a name
abbrev pub control_causes : ℕ → ℕ → Xinu → Kind → List Cause
control_causes f x s kind.Console = cause NoFunction (not (is_one_of f (1 ∷ 2 ∷ 3 ∷ 4 ∷ 5 ∷ 6 ∷ []))) ∷ []
control_causes f x s kind.RawDisk = cause NoFunction (not (f == RD_CTL_SIZE)) ∷ []
control_causes f x s kind.FileSystem =
    cause NoFunction (not (f == LF_CTL_DEL)) ∷ cause NoName (has_no_text x s) ∷ name_causes (text_or_none x s)
control_causes f x s kind.File = cause NoFunction (not (is_one_of f (LF_CTL_TRUNC ∷ LF_CTL_SIZE ∷ []))) ∷ []
control_causes f x s _ = []

-- the calls on devices
abbrev pub device_causes : List CauseRow
device_causes =
    row 36 (λ a s. device_calls op.Open (a 0) (open_causes (a 1) (a 2) s)) ∷
    row 37 (λ a s. switch_causes op.Close (a 0)) ∷
    row 38 (λ a s. device_calls op.Read (a 0) (read_causes (a 1) (a 2) s)) ∷
    row 39 (λ a s. device_calls op.Write (a 0) (write_causes (a 1) (a 2) s)) ∷
    row 40 (λ a s. switch_causes op.Getc (a 0)) ∷
    row 41 (λ a s. switch_causes op.Putc (a 0)) ∷
    row 42 (λ a s. switch_causes op.Seek (a 0)) ∷
    row 43 (λ a s. device_calls op.Control (a 0) (control_causes (a 1) (a 2) s)) ∷
    row 44 (λ a s. mount_causes (a 0) (a 1) (a 2) s) ∷
    []

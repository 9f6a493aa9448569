-- A call on a device keeps what the call on its kind keeps.
use Rattle.std.proofs.Common.{◌≡◌, ◌≢◌, ℕ, ◌==◌, Bool, true, false, cond, List, length, Option, Some, None, refl, ap, ◌∙◌, ℤ, pos}
use Rattle.std.proofs.lemmas.Bool.{cond_both}
use Rattle.xinu_base.specs.Constants.{OK}
use Rattle.xinu_base.specs.declared.devices.Kind.{Kind}
use Rattle.xinu_base.specs.declared.devices.Kind.TheVariants as kind
use Rattle.xinu_base.specs.declared.devices.Op.{Op}
use Rattle.xinu_base.specs.declared.devices.Op.TheVariants as op
use Rattle.xinu_laws.specs.Touches.{reach, Touches}
use Rattle.xinu_model.specs.Devices.Calls.{on_kind, on_device, open_direct, open_mapped, open_with, open_texts, device_open, file_number, close_as, device_close, read_as, device_read, write_as, device_write, getc_as, device_getc, putc_as, device_putc, seek_as, device_seek, named_control, control_as, device_control}
use Rattle.xinu_model.specs.Devices.Table.{kind_of, offers}
use Rattle.xinu_model.specs.Devices.Texts.{text_at}
use Rattle.xinu_model.specs.Console.Putting.{console_putc, console_write}
use Rattle.xinu_model.specs.Console.Signals.{console_control}
use Rattle.xinu_model.specs.Console.Taking.{console_getc, console_read}
use Rattle.xinu_model.specs.Files.Calls.{FileCall, Close, Getc, Putc, Seek}
use Rattle.xinu_model.specs.Files.Issue.{open_call, file_control_call, read_call, write_call}
use Rattle.xinu_model.specs.Files.Sound.{IsFileCall, InRam}
use Rattle.xinu_model.specs.Files.Syscalls.{asks_files}
use Rattle.xinu_model.specs.Footprints.{Footprint, on_console, on_disk, on_files, on_console_or_files, on_devices}
use Rattle.xinu_model.specs.Machine.{Xinu, CallResult, refused}
use Rattle.xinu_model.specs.Names.Calls.{names_of}
use Rattle.xinu_model.specs.Names.Mapping.{MappedName, map_name}
use Rattle.xinu_model.specs.Semaphores.Calls.{answers}
use Rattle.table_laws.specs.Preserve.{IsPreserved}
use Rattle.xinu_model.specs.Devices.Table.{DISK0}
use Rattle.xinu_model.specs.RawDisk.Calls.{disk_of, disk_read, disk_write, disk_control}
use Rattle.xinu_model.specs.RawDisk.Constants.{RD_CTL_SIZE}
use Rattle.xinu_model.specs.Sound.State.{IsSound}
use Rattle.xinu_model.specs.Sound.Tables.{IsInside}
use Rattle.xinu_model.specs.Words.{signed}
use Rattle.xinu_laws.proofs.RawDisks.Kept.{KeepsDisks, disk_read_keeps, disk_write_keeps, disk_control_keeps}
use Rattle.xinu_laws.proofs.RawDisks.Moves.{HasDisks}
use Rattle.xinu_laws.proofs.FileSyscalls.Asked.{IsAsked, open_asked, control_asked, file_control_asked, read_asked, write_asked, asks_touches, asks_keeps}
use Rattle.xinu_laws.proofs.Touches.Kept.{keeps_console, keeps_disks, touches_below}
use Rattle.xinu_laws.proofs.Consoles.Kept.{Holds, HasConsole, HasSize, KeepsConsole, sound_holds, answers_keeps, refused_keeps}
use Rattle.xinu_laws.proofs.Consoles.Put.{putc_keeps, write_keeps}
use Rattle.xinu_laws.proofs.Consoles.Signalled.{console_control_keeps}
use Rattle.xinu_laws.proofs.Consoles.Taken.{getc_keeps, read_keeps}
use Rattle.xinu_laws.proofs.Touches.{StaysIn, touches_refl}

-- What holds of a refusal and of the call on each kind of device holds of the call on a device.
pub on_device_holds : (P : CallResult → Type 0) (call : Op) (dev : ℕ) (does : Kind → Xinu → CallResult) (s : Xinu) → P (refused s)
    → ((k : Kind) → P (does k s)) → P (on_device call dev does s)
on_device_holds P call dev does s none each = by_kind (kind_of dev)
  where
    by_kind : (found : Option Kind) → P (on_kind call found does s)
    by_kind None = none
    by_kind (Some k) = cond_both (offers k call) (does k s) (refused s) P (λ _. each k) (λ _. none)

-- What holds of the calls on files that their arguments say holds of each of these.
abbrev pub OfFiles : (CallResult → Type 0) → Xinu → Type 0
OfFiles P s = (found : Option FileCall) (at : ℕ) → IsAsked found at → P (asks_files found at s)

-- What holds of a refusal and of the calls on each kind of device holds of `open`, whatever the name is mapped to,
pub device_open_holds : (P : CallResult → Type 0) (dev name mode : ℕ) (s : Xinu) → P (refused s) → P (answers OK s)
    → P (answers (pos DISK0) s) → OfFiles P s → P (device_open dev name mode s)
device_open_holds P dev name mode s none opened disk files =
    on_device_holds P op.Open dev (open_texts name mode) s none (λ k. with_texts k (text_at name s.memory) (text_at mode s.memory))
  where
    direct : (n m : List ℕ) (k : Kind) → P (open_direct n m k s)
    direct n m kind.Console = opened
    direct n m kind.NameSpace = none
    direct n m kind.RawDisk = disk
    direct n m kind.FileSystem = files (open_call n m) 0 (open_asked n m)
    direct n m kind.File = none

    mapped : (found : Option MappedName) (m : List ℕ) → P (open_mapped found m s)
    mapped None m = none
    mapped (Some x) m = on_device_holds P op.Open x.device (open_direct x.name m) s none (direct x.name m)

    with_texts : (k : Kind) (n m : Option (List ℕ)) → P (open_with k n m s)
    with_texts k None m = none
    with_texts k (Some n) None = none
    with_texts kind.Console (Some n) (Some m) = opened
    with_texts kind.NameSpace (Some n) (Some m) = mapped (map_name (names_of s) n) m
    with_texts kind.RawDisk (Some n) (Some m) = disk
    with_texts kind.FileSystem (Some n) (Some m) = files (open_call n m) 0 (open_asked n m)
    with_texts kind.File (Some n) (Some m) = none

-- a call on a file device that has no address
plain : {call : FileCall} → IsFileCall call → InRam call 0 → IsAsked (Some call) 0
plain call range = record { call_of = call; range = range }

-- and of `close`,
pub device_close_holds : (P : CallResult → Type 0) (dev : ℕ) (s : Xinu) → P (refused s) → P (answers OK s) → OfFiles P s
    → P (device_close dev s)
device_close_holds P dev s none closed files = on_device_holds P op.Close dev (close_as dev) s none each
  where
    each : (k : Kind) → P (close_as dev k s)
    each kind.Console = closed
    each kind.NameSpace = none
    each kind.RawDisk = closed
    each kind.FileSystem = none
    each kind.File = files (Some (Close (file_number dev))) 0 (plain tt tt)

-- and of `seek`,
pub device_seek_holds : (P : CallResult → Type 0) (dev : ℕ) (n : ℤ) (s : Xinu) → P (refused s) → OfFiles P s → P (device_seek dev n s)
device_seek_holds P dev n s none files = on_device_holds P op.Seek dev (seek_as dev n) s none each
  where
    each : (k : Kind) → P (seek_as dev n k s)
    each kind.Console = none
    each kind.NameSpace = none
    each kind.RawDisk = none
    each kind.FileSystem = none
    each kind.File = files (Some (Seek (file_number dev) n)) 0 (plain tt tt)

-- and of the others.
pub device_read_holds : (P : CallResult → Type 0) (dev at n : ℕ) (s : Xinu) → P (refused s) → P (console_read at (signed n) s)
    → P (disk_read at n s) → OfFiles P s → P (device_read dev at n s)
device_read_holds P dev at n s none console disk files = on_device_holds P op.Read dev (read_as dev at n) s none each
  where
    each : (k : Kind) → P (read_as dev at n k s)
    each kind.Console = console
    each kind.NameSpace = none
    each kind.RawDisk = disk
    each kind.FileSystem = none
    each kind.File = files (read_call (file_number dev) at (signed n)) at (read_asked (file_number dev) at (signed n))

pub device_write_holds : (P : CallResult → Type 0) (dev at n : ℕ) (s : Xinu) → P (refused s) → P (console_write at (signed n) s)
    → P (disk_write at n s) → OfFiles P s → P (device_write dev at n s)
device_write_holds P dev at n s none console disk files = on_device_holds P op.Write dev (write_as dev at n) s none each
  where
    each : (k : Kind) → P (write_as dev at n k s)
    each kind.Console = console
    each kind.NameSpace = none
    each kind.RawDisk = disk
    each kind.FileSystem = none
    each kind.File = files (write_call (file_number dev) at (signed n)) at (write_asked (file_number dev) at (signed n))

pub device_getc_holds : (P : CallResult → Type 0) (dev : ℕ) (s : Xinu) → P (refused s) → P (console_getc s) → OfFiles P s
    → P (device_getc dev s)
device_getc_holds P dev s none console files = on_device_holds P op.Getc dev (getc_as dev) s none each
  where
    each : (k : Kind) → P (getc_as dev k s)
    each kind.Console = console
    each kind.NameSpace = none
    each kind.RawDisk = none
    each kind.FileSystem = none
    each kind.File = files (Some (Getc (file_number dev))) 0 (plain tt tt)

pub device_putc_holds : (P : CallResult → Type 0) (dev b : ℕ) (s : Xinu) → P (refused s) → P (console_putc b s) → OfFiles P s
    → P (device_putc dev b s)
device_putc_holds P dev b s none console files = on_device_holds P op.Putc dev (putc_as dev b) s none each
  where
    each : (k : Kind) → P (putc_as dev b k s)
    each kind.Console = console
    each kind.NameSpace = none
    each kind.RawDisk = none
    each kind.FileSystem = none
    each kind.File = files (Some (Putc (file_number dev) b)) 0 (plain tt tt)

pub device_control_holds : (P : CallResult → Type 0) (dev f x : ℕ) (s : Xinu) → P (refused s) → P (console_control f s)
    → P (disk_control f s) → OfFiles P s → P (device_control dev f x s)
device_control_holds P dev f x s none console disk files = on_device_holds P op.Control dev (control_as dev f x) s none each
  where
    each : (k : Kind) → P (control_as dev f x k s)
    each kind.Console = console
    each kind.NameSpace = none
    each kind.RawDisk = disk
    each kind.FileSystem = files (named_control f (text_at x s.memory)) 0 (control_asked f (text_at x s.memory))
    each kind.File = files (file_control_call (file_number dev) f) 0 (file_control_asked (file_number dev) f)

-- What a call on a device keeps: it touches the console, the raw disk, files and RAM alone, keeps what holds of the devices, and leaves RAM its
-- size.
pub record KeepsDevice (s : Xinu) (h : CallResult) : Type 0 where
  pub preserved : HasDisks s → s.tables.current ≢ 0 → IsPreserved h
  pub touches : Touches (reach on_devices) s h.call.state
  pub console : IsInside h.call.state.tables → HasConsole s → HasConsole h.call.state
  pub disks : IsInside s.tables → IsInside h.call.state.tables → HasDisks s → HasDisks h.call.state
  pub ram : HasConsole s → HasSize s → HasSize h.call.state

-- a call on the console is such a call, and so is one on a disk
of_console : (s : Xinu) (h : CallResult) → KeepsConsole (HasConsole s) s h → KeepsDevice s h
of_console s h k = record {
  preserved = λ _ n. k.preserved n;
  touches = touches_below (record { heap = λ e. e; stacks = λ e. e; ranges = λ e. e; pools = λ e. e; ports = λ e. e; console = λ e. e; names = λ e. e; disk = λ e. refl; files = λ e. refl; ram = λ e. e }) k.touches;
  console = λ _ c. k.console c;
  disks = λ was o d. keeps_disks refl refl k.touches was o d;
  ram = k.ram;
}

of_disk : (s : Xinu) (h : CallResult) → KeepsDisks on_disk s h → KeepsDevice s h
of_disk s h k = record {
  preserved = k.preserved;
  touches = touches_below (record { heap = λ e. e; stacks = λ e. e; ranges = λ e. e; pools = λ e. e; ports = λ e. e; console = λ e. refl; names = λ e. e; disk = λ e. e; files = λ e. refl; ram = λ e. refl }) k.touches;
  console = λ o c. keeps_console refl k.touches o c;
  disks = λ _ _ d. k.disks d;
  ram = λ _ z. ap (λ (l : List ℕ). length l) (k.touches.ram refl) ∙ z;
}

of_files : (s : Xinu) → Holds s → OfFiles (KeepsDevice s) s
of_files s c found at asked =
    let k = asks_keeps found at s c asked in
    record {
      preserved = k.preserved;
      touches = touches_below (record { heap = λ e. e; stacks = λ e. e; ranges = λ e. e; pools = λ e. e; ports = λ e. e; console = λ e. refl; names = λ e. e; disk = λ e. refl; files = λ e. e; ram = λ e. refl }) k.touches;
      console = λ o h. keeps_console refl k.touches o h;
      disks = λ _ _ d. k.disks d;
      ram = λ _ z. ap (λ (l : List ℕ). length l) (k.touches.ram refl) ∙ z;
    }

-- a call that keeps what holds of all
abbrev pub Keeps : (Xinu → CallResult) → Type 0
Keeps effect = (s : Xinu) → Holds s → KeepsDevice s (effect s)

-- Calls 36 to 43.
pub device_open_keeps : (dev name mode : ℕ) → Keeps (device_open dev name mode)
device_open_keeps dev name mode s c =
    device_open_holds (KeepsDevice s) dev name mode s (of_console s _ (refused_keeps s c)) (of_console s _ (answers_keeps OK s c))
    (of_console s _ (answers_keeps (pos DISK0) s c)) (of_files s c)

pub device_close_keeps : (dev : ℕ) → Keeps (device_close dev)
device_close_keeps dev s c =
    device_close_holds (KeepsDevice s) dev s (of_console s _ (refused_keeps s c)) (of_console s _ (answers_keeps OK s c)) (of_files s c)

pub device_read_keeps : (dev at n : ℕ) → Keeps (device_read dev at n)
device_read_keeps dev at n s c =
    device_read_holds (KeepsDevice s) dev at n s (of_console s _ (refused_keeps s c)) (of_console s _ (read_keeps at (signed n) s c))
    (of_disk s _ (disk_read_keeps at n s c)) (of_files s c)

pub device_write_keeps : (dev at n : ℕ) → Keeps (device_write dev at n)
device_write_keeps dev at n s c =
    device_write_holds (KeepsDevice s) dev at n s (of_console s _ (refused_keeps s c)) (of_console s _ (write_keeps at (signed n) s c))
    (of_disk s _ (disk_write_keeps at n s c)) (of_files s c)

pub device_getc_keeps : (dev : ℕ) → Keeps (device_getc dev)
device_getc_keeps dev s c =
    device_getc_holds (KeepsDevice s) dev s (of_console s _ (refused_keeps s c)) (of_console s _ (getc_keeps s c)) (of_files s c)

pub device_putc_keeps : (dev b : ℕ) → Keeps (device_putc dev b)
device_putc_keeps dev b s c =
    device_putc_holds (KeepsDevice s) dev b s (of_console s _ (refused_keeps s c)) (of_console s _ (putc_keeps b s c)) (of_files s c)

pub device_seek_keeps : (dev : ℕ) (n : ℤ) → Keeps (device_seek dev n)
device_seek_keeps dev n s c = device_seek_holds (KeepsDevice s) dev n s (of_console s _ (refused_keeps s c)) (of_files s c)

pub device_control_keeps : (dev f x : ℕ) → Keeps (device_control dev f x)
device_control_keeps dev f x s c =
    device_control_holds (KeepsDevice s) dev f x s (of_console s _ (refused_keeps s c)) (of_console s _ (console_control_keeps f s c))
    (of_disk s _ (disk_control_keeps f s c)) (of_files s c)

-- What each of them touches: those that don't ask for the raw disk leave it alone.
module _ (f : Footprint) (s : Xinu) where
  -- what a call touches
  abbrev Within : CallResult → Type 0
  Within h = Touches (reach f) s h.call.state

  files_within : f.files ≡ true → IsSound s → OfFiles Within s
  files_within may k found at asked = asks_touches may found at s (sound_holds s k)

pub device_open_touches : (dev name mode : ℕ) → StaysIn on_files (device_open dev name mode)
device_open_touches dev name mode s k =
    device_open_holds (Within on_files s) dev name mode s (touches_refl s) (touches_refl s) (touches_refl s)
    (files_within on_files s refl k)

pub device_close_touches : (dev : ℕ) → StaysIn on_files (device_close dev)
device_close_touches dev s k =
    device_close_holds (Within on_files s) dev s (touches_refl s) (touches_refl s) (files_within on_files s refl k)

pub device_seek_touches : (dev : ℕ) (n : ℤ) → StaysIn on_files (device_seek dev n)
device_seek_touches dev n s k = device_seek_holds (Within on_files s) dev n s (touches_refl s) (files_within on_files s refl k)

-- what touches the console alone touches the console and files at most
wider : {s u : Xinu} → Touches (reach on_console) s u → Touches (reach on_console_or_files) s u
wider t =
    touches_below
    (record { heap = λ e. e; stacks = λ e. e; ranges = λ e. e; pools = λ e. e; ports = λ e. e; console = λ e. e; names = λ e. e; disk = λ e. e; files = λ e. refl; ram = λ e. e }) t

pub device_getc_touches : (dev : ℕ) → StaysIn on_console_or_files (device_getc dev)
device_getc_touches dev s k =
    device_getc_holds (Within on_console_or_files s) dev s (touches_refl s) (wider (getc_keeps s (sound_holds s k)).touches)
    (files_within on_console_or_files s refl k)

pub device_putc_touches : (dev b : ℕ) → StaysIn on_console_or_files (device_putc dev b)
device_putc_touches dev b s k =
    device_putc_holds (Within on_console_or_files s) dev b s (touches_refl s) (wider (putc_keeps b s (sound_holds s k)).touches)
    (files_within on_console_or_files s refl k)

pub device_control_touches : (dev f x : ℕ) → StaysIn on_console_or_files (device_control dev f x)
device_control_touches dev f x s k =
    device_control_holds (Within on_console_or_files s) dev f x s (touches_refl s)
    (wider (console_control_keeps f s (sound_holds s k)).touches)
    (by_function (f == RD_CTL_SIZE)) (files_within on_console_or_files s refl k)
  where
    by_function : (b : Bool) → Within on_console_or_files s (cond b (answers (pos (length (disk_of s).blocks)) s) (refused s))
    by_function true = touches_refl s
    by_function false = touches_refl s

pub keeps_touch : {effect : Xinu → CallResult} → Keeps effect → StaysIn on_devices effect
keeps_touch keeps s k = (keeps s (sound_holds s k)).touches

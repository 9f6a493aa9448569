-- The calls of the programs on devices: after each they still run.
use Rattle.std.proofs.Common.{ℕ, zero, suc, ◌+◌, ◌-◌, Bool, true, false, List, [], ◌∷◌, Option, Some, None, refl, ℤ, pos, negsuc}
use Rattle.std.specs.Prelude.{slice_index}
use Rattle.std.specs.List.{AllByRecursion}
use Rattle.std.proofs.lemmas.Bool.{cond_both}
use Rattle.soak_laws.specs.Four.{MayBeLeft}
use Rattle.soak_laws.specs.Running.{BringsNothing, AreRunning, KeepRunning, IsQuiet}
use Rattle.soak_laws.proofs.Lists.{all_append}
use Rattle.soak_laws.proofs.Waits.{answered, awaited, blocked_on, either, goes_on_kept, refused_on}
use Rattle.xinu_base.specs.Constants.{OK}
use Rattle.xinu_base.specs.declared.devices.Kind.{Kind}
use Rattle.xinu_base.specs.declared.devices.Kind.TheVariants as kind
use Rattle.xinu_base.specs.declared.devices.Op.{Op}
use Rattle.xinu_base.specs.declared.devices.Op.TheVariants as op
use Rattle.xinu_base.specs.declared.files.OpenMode.{OpenMode}
use Rattle.xinu_base.specs.declared.processes.Rest.{Rest}
use Rattle.xinu_base.specs.declared.processes.Rest.TheVariants as rest
use Rattle.xinu_base.specs.declared.processes.Span.{Span}
use Rattle.xinu_base.specs.declared.processes.State.TheVariants.{Waiting}
use Rattle.xinu_model.specs.Console.Constants.{TY_NEWLINE, TY_RETURN}
use Rattle.xinu_model.specs.Console.Putting.{TY_OSEM, console_putc, console_write, go_on_putc, go_on_write, needs_return, put, put_byte, writes}
use Rattle.xinu_model.specs.Console.State.{Console}
use Rattle.xinu_model.specs.Console.Taking.{console_of, span, with_console}
use Rattle.xinu_model.specs.Devices.Calls.{device_open, device_putc, device_write, file_number, on_kind, open_as, open_direct, open_mapped, open_texts, open_with, putc_as, write_as}
use Rattle.xinu_model.specs.Devices.Table.{DISK0, kind_of, offers}
use Rattle.xinu_model.specs.Devices.Texts.{text_at}
use Rattle.xinu_model.specs.Files.Calls.{FileCall, Putc, Write}
use Rattle.xinu_model.specs.Files.Issue.{open_call, open_in, write_call}
use Rattle.xinu_model.specs.Files.Modes.{mode_of}
use Rattle.xinu_model.specs.Files.Stored.{is_file_name}
use Rattle.xinu_model.specs.Files.Syscalls.{LF_SEM, asks_files, files_of, request_for, with_files}
use Rattle.xinu_model.specs.Files.Work.{FileRequest, FileWork, enqueued, queued_after}
use Rattle.xinu_model.specs.Machine.{CallResult, Xinu, refused}
use Rattle.xinu_model.specs.Memory.{bytes_from, in_ram}
use Rattle.xinu_model.specs.Messages.{held}
use Rattle.xinu_model.specs.Names.Calls.{names_of}
use Rattle.xinu_model.specs.Names.Mapping.{MappedName, map_name}
use Rattle.xinu_model.specs.RawDisk.Calls.{RD_SEM, disk_of, disk_write, go_on_disk, may_request, request_of, with_disk}
use Rattle.xinu_model.specs.RawDisk.Constants.{RD_BLKSIZ}
use Rattle.xinu_model.specs.RawDisk.Requests.{RawDisk, requested}
use Rattle.xinu_model.specs.Semaphores.Calls.{answers}
use Rattle.xinu_model.specs.Tables.{InSemaphore}
use Rattle.xinu_model.specs.Words.{signed}

-- ---- the console

-- another console
pub other_console : {words : ℕ → List ℕ} (c : Console) (s : Xinu) → AreRunning words s → AreRunning words (with_console c s)
other_console c s k = record { tables = k.tables; harts = k.harts; loaded = k.loaded; pools = k.pools; calls = k.calls }

-- a byte is put
put_on : {words : ℕ → List ℕ} (b : ℕ) (left : Rest) (then_ : Xinu → CallResult) (s : Xinu) → AreRunning words s → MayBeLeft left
    → ((u : Xinu) → AreRunning words u → KeepRunning words (then_ u)) → KeepRunning words (put_byte b left then_ s)
put_on b left then_ s k may go =
    either (needs_return b (console_of s).mode) _ _
    (λ _. awaited TY_OSEM left (λ x. then_ (put TY_NEWLINE x)) (put TY_RETURN s) (other_console _ s k) may (λ u m. go (put TY_NEWLINE u) (other_console _ u m)))
    (λ _. go (put b s) (other_console _ s k))

console_putc_on : {words : ℕ → List ℕ} (b : ℕ) (s : Xinu) → AreRunning words s → KeepRunning words (console_putc b s)
console_putc_on b s k =
    awaited TY_OSEM (rest.TtyPut b false) (put_byte b (rest.TtyPut b true) (answers OK)) s k tt
    (λ u m. put_on b (rest.TtyPut b true) (answers OK) u m tt (λ v n. answered _ OK n))

pub go_on_putc_on : {words : ℕ → List ℕ} (b : ℕ) (returned : Bool) (s : Xinu) → AreRunning words s → KeepRunning words (go_on_putc b returned s)
go_on_putc_on b true s k = answered _ OK (other_console _ _ (goes_on_kept (held s) s k))
go_on_putc_on b false s k = put_on b (rest.TtyPut b true) (answers OK) _ (goes_on_kept (held s) s k) tt (λ v n. answered _ OK n)

writes_on : {words : ℕ → List ℕ} (left a done : ℕ) (s : Xinu) → AreRunning words s → KeepRunning words (writes left a done s)
writes_on zero a done s k = answered _ (pos done) k
writes_on (suc left) a done s k =
    let part = span a done (done + suc left) in
    awaited TY_OSEM (rest.TtyWrite part false) (λ x. put_byte (slice_index x.memory (a + done)) (rest.TtyWrite part true) (writes left a (suc done)) x) s k tt
    (λ u m. put_on (slice_index u.memory (a + done)) (rest.TtyWrite part true) (writes left a (suc done)) u m tt (λ v n. writes_on left a (suc done) v n))

pub go_on_write_on : {words : ℕ → List ℕ} (part : Span) (returned : Bool) (s : Xinu) → AreRunning words s → KeepRunning words (go_on_write part returned s)
go_on_write_on part true s k = writes_on (part.want - suc part.done) part.at (suc part.done) _ (other_console _ _ (goes_on_kept (held s) s k))
go_on_write_on part false s k =
    put_on (slice_index s.memory (part.at + part.done)) (rest.TtyWrite part true) (writes (part.want - suc part.done) part.at (suc part.done)) _
    (goes_on_kept (held s) s k) tt (λ v n. writes_on (part.want - suc part.done) part.at (suc part.done) v n)

console_write_on : {words : ℕ → List ℕ} (a : ℕ) (n : ℤ) (s : Xinu) → AreRunning words s → KeepRunning words (console_write a n s)
console_write_on a (negsuc n) s k = refused_on s k
console_write_on a (pos n) s k = either (in_ram a n) _ (refused s) (λ _. writes_on n a 0 s k) (λ _. refused_on s k)

-- ---- the raw disk

other_disk : {words : ℕ → List ℕ} (d : RawDisk) (s : Xinu) → AreRunning words s → AreRunning words (with_disk d s)
other_disk d s k = record { tables = k.tables; harts = k.harts; loaded = k.loaded; pools = k.pools; calls = k.calls }

disk_write_on : {words : ℕ → List ℕ} (a block : ℕ) (s : Xinu) → AreRunning words s → KeepRunning words (disk_write a block s)
disk_write_on a block s k =
    either (may_request a block s) _ (refused s)
    (λ _. blocked_on Waiting (rest.Disk None) (InSemaphore RD_SEM) _
    (other_disk (requested (request_of (Some (bytes_from s.memory a RD_BLKSIZ)) a block s) (disk_of s)) s k) refl tt)
    (λ _. refused_on s k)

pub go_on_disk_on : {words : ℕ → List ℕ} (reply : Option ℤ) (s : Xinu) → AreRunning words s → KeepRunning words (go_on_disk reply s)
go_on_disk_on None s k = record { running = k; calm = refl }
go_on_disk_on (Some reply) s k = answered _ reply (goes_on_kept (held s) s k)

-- ---- files

-- the files with quiet calls under way
pub other_files : {words : ℕ → List ℕ} (w : FileWork) (s : Xinu) → AreRunning words s → AllByRecursion IsQuiet w.calls → AreRunning words (with_files w s)
other_files w s k all = record { tables = k.tables; harts = k.harts; loaded = k.loaded; pools = k.pools; calls = all }

-- a call goes after the others
pub enqueued_quiet : (calls : List FileRequest) (a : FileRequest) (memory : List ℕ) (w : FileWork) → AllByRecursion IsQuiet calls → IsQuiet a
    → AllByRecursion IsQuiet (queued_after calls a memory w).calls
enqueued_quiet [] a memory w all one = (one, tt)
enqueued_quiet (b ∷ calls) a memory w all one = all_append IsQuiet (b ∷ calls) (a ∷ []) all (one, tt)

-- what is asked of files, if anything is, brings nothing to RAM
abbrev MayAsk : Option FileCall → Type 0
MayAsk None = Unit {0}
MayAsk (Some call) = BringsNothing call

asked : {words : ℕ → List ℕ} (call : Option FileCall) (a : ℕ) (s : Xinu) → AreRunning words s → MayAsk call → KeepRunning words (asks_files call a s)
asked None a s k may = refused_on s k
asked (Some call) a s k may =
    let r = request_for call a s in
    blocked_on Waiting (rest.Disk None) (InSemaphore LF_SEM) _
    (other_files (enqueued r s.memory (files_of s)) s k
    (enqueued_quiet (files_of s).calls r s.memory (files_of s) k.calls (record { caller = k.tables.current; call = may }))) refl tt

open_may : (name mode : List ℕ) → MayAsk (open_call name mode)
open_may name mode = cond_both (is_file_name name) (open_in name (mode_of mode)) None MayAsk (λ _. by_mode (mode_of mode)) (λ _. tt)
  where
    by_mode : (m : Option OpenMode) → MayAsk (open_in name m)
    by_mode None = tt
    by_mode (Some m) = tt

write_may : (d a : ℕ) (n : ℤ) → MayAsk (write_call d a n)
write_may d a (negsuc n) = tt
write_may d a (pos n) = cond_both (in_ram a n) (Some (Write d n)) None MayAsk (λ _. tt) (λ _. tt)

-- ---- the calls

-- a call on a device, by what it is
on_kind_on : {words : ℕ → List ℕ} (call : Op) (k : Option Kind) (does : Kind → Xinu → CallResult) (s : Xinu) → AreRunning words s
    → ((x : Kind) → KeepRunning words (does x s)) → KeepRunning words (on_kind call k does s)
on_kind_on call None does s m each = refused_on s m
on_kind_on call (Some x) does s m each = either (offers x call) (does x s) (refused s) (λ _. each x) (λ _. refused_on s m)

direct : {words : ℕ → List ℕ} (name mode : List ℕ) (k : Kind) (s : Xinu) → AreRunning words s → KeepRunning words (open_direct name mode k s)
direct name mode kind.Console s m = answered _ OK m
direct name mode kind.NameSpace s m = refused_on s m
direct name mode kind.RawDisk s m = answered _ (pos DISK0) m
direct name mode kind.FileSystem s m = asked (open_call name mode) 0 s m (open_may name mode)
direct name mode kind.File s m = refused_on s m

mapped : {words : ℕ → List ℕ} (found : Option MappedName) (mode : List ℕ) (s : Xinu) → AreRunning words s → KeepRunning words (open_mapped found mode s)
mapped None mode s m = refused_on s m
mapped (Some x) mode s m = on_kind_on op.Open (kind_of x.device) (open_direct x.name mode) s m (λ k. direct x.name mode k s m)

opened_as : {words : ℕ → List ℕ} (k : Kind) (name mode : List ℕ) (s : Xinu) → AreRunning words s → KeepRunning words (open_as k name mode s)
opened_as kind.Console name mode s m = direct name mode kind.Console s m
opened_as kind.NameSpace name mode s m = mapped (map_name (names_of s) name) mode s m
opened_as kind.RawDisk name mode s m = direct name mode kind.RawDisk s m
opened_as kind.FileSystem name mode s m = direct name mode kind.FileSystem s m
opened_as kind.File name mode s m = direct name mode kind.File s m

opened_with : {words : ℕ → List ℕ} (k : Kind) (name mode : Option (List ℕ)) (s : Xinu) → AreRunning words s → KeepRunning words (open_with k name mode s)
opened_with k None mode s m = refused_on s m
opened_with k (Some name) None s m = refused_on s m
opened_with k (Some name) (Some mode) s m = opened_as k name mode s m

pub device_open_on : {words : ℕ → List ℕ} (dev name mode : ℕ) (s : Xinu) → AreRunning words s → KeepRunning words (device_open dev name mode s)
device_open_on dev name mode s m =
    on_kind_on op.Open (kind_of dev) (open_texts name mode) s m (λ k. opened_with k (text_at name s.memory) (text_at mode s.memory) s m)

written_as : {words : ℕ → List ℕ} (dev a n : ℕ) (k : Kind) (s : Xinu) → AreRunning words s → KeepRunning words (write_as dev a n k s)
written_as dev a n kind.Console s m = console_write_on a (signed n) s m
written_as dev a n kind.NameSpace s m = refused_on s m
written_as dev a n kind.RawDisk s m = disk_write_on a n s m
written_as dev a n kind.FileSystem s m = refused_on s m
written_as dev a n kind.File s m = asked (write_call (file_number dev) a (signed n)) a s m (write_may (file_number dev) a (signed n))

pub device_write_on : {words : ℕ → List ℕ} (dev a n : ℕ) (s : Xinu) → AreRunning words s → KeepRunning words (device_write dev a n s)
device_write_on dev a n s m = on_kind_on op.Write (kind_of dev) (write_as dev a n) s m (λ k. written_as dev a n k s m)

put_as : {words : ℕ → List ℕ} (dev b : ℕ) (k : Kind) (s : Xinu) → AreRunning words s → KeepRunning words (putc_as dev b k s)
put_as dev b kind.Console s m = console_putc_on b s m
put_as dev b kind.NameSpace s m = refused_on s m
put_as dev b kind.RawDisk s m = refused_on s m
put_as dev b kind.FileSystem s m = refused_on s m
put_as dev b kind.File s m = asked (Some (Putc (file_number dev) b)) 0 s m tt

pub device_putc_on : {words : ℕ → List ℕ} (dev b : ℕ) (s : Xinu) → AreRunning words s → KeepRunning words (device_putc dev b s)
device_putc_on dev b s m = on_kind_on op.Putc (kind_of dev) (putc_as dev b) s m (λ k. put_as dev b k s m)

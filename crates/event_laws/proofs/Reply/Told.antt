-- An answer of -1 of a call on a device tells that it was refused.
use Rattle.std.proofs.Common.{◌≡◌, ℕ, zero, suc, ◌+◌, ◌==◌, cond, Bool, true, false, ◌&&◌, List, [], ◌∷◌, length, Option, Some, None, ℤ, pos, negsuc}
use Rattle.std.specs.Prelude.{slice_index}
use Rattle.std.proofs.lemmas.Bool.{cond_both}
use Rattle.xinu_base.specs.Constants.{OK, SYSERR, EOF}
use Rattle.xinu_base.specs.declared.console.Item.{Item}
use Rattle.xinu_base.specs.declared.processes.Rest.{Rest}
use Rattle.xinu_base.specs.declared.processes.Rest.TheVariants.{TtyGet, TtyPut, TtyRead, TtyWrite}
use Rattle.xinu_model.specs.Console.Constants.{TY_NEWLINE, TY_RETURN}
use Rattle.xinu_model.specs.Console.Controls.{controlled}
use Rattle.xinu_model.specs.Console.Putting.{TY_OSEM, put, needs_return, put_byte, console_putc, writes, console_write}
use Rattle.xinu_model.specs.Console.Rows.{Committed}
use Rattle.xinu_model.specs.Console.Signals.{TC_ICHARS, control_with, console_control}
use Rattle.xinu_model.specs.Console.State.{byte_of}
use Rattle.xinu_model.specs.Console.Taking.{TY_ISEM, console_of, is_cooked, is_end, with_committed, take_char, take_next, console_getc, span, stored, ends_line, count_at_end, read_item, read_next, reads, read_range, console_read}
use Rattle.xinu_model.specs.Devices.Calls.{device_open, device_close, device_read, device_write, device_getc, device_putc, device_seek, device_control}
use Rattle.xinu_model.specs.Machine.{Xinu, Returns, CallResult, refused}
use Rattle.xinu_model.specs.Memory.{in_ram}
use Rattle.xinu_model.specs.Semaphores.Calls.{answers}
use Rattle.xinu_model.specs.Semaphores.Waiting.{take_token, await}
use Rattle.xinu_model.specs.Tables.{semaphore_at}
use Rattle.xinu_model.specs.Memory.{bytes_from}
use Rattle.xinu_model.specs.RawDisk.Calls.{disk_of, awaits_disk, may_request, disk_read, disk_write, disk_control}
use Rattle.xinu_model.specs.RawDisk.Constants.{RD_BLKSIZ, RD_CTL_SIZE}
use Rattle.xinu_model.specs.Words.{signed}
use Rattle.xinu_laws.proofs.Devices.Kept.{OfFiles, device_open_holds, device_close_holds, device_read_holds, device_write_holds, device_getc_holds, device_putc_holds, device_seek_holds, device_control_holds}
use Rattle.xinu_laws.proofs.Refusals.{TellsRefusal, refusal_tells}

-- a call that never answers -1
abbrev NeverRefuses : CallResult → Type 0
NeverRefuses result = result.answer ≡ Returns SYSERR → ⊥

-- one that waits for a token, or goes on with it
await_never : (sem : ℕ) (left : Rest) (then_ : Xinu → CallResult) (s : Xinu) → ((u : Xinu) → NeverRefuses (then_ u))
    → NeverRefuses (await sem left then_ s)
await_never sem left then_ s go = by_tokens (semaphore_at s.tables sem).tokens
  where
    by_tokens : (tokens : ℕ) → NeverRefuses (take_token tokens sem left then_ s)
    by_tokens zero = λ e. absurd (cc)
    by_tokens (suc n) = go _

-- the answers of a call that takes an item
char_never : (b : Bool) (n : ℕ) (s : Xinu) → NeverRefuses (answers (cond b EOF (pos n)) s)
char_never true n s e = absurd (cc)
char_never false n s e = absurd (cc)

take_char_never : (items : List Item) (s : Xinu) → NeverRefuses (take_char items s)
take_char_never [] s = λ e. absurd (cc)
take_char_never (x ∷ items) s = char_never (is_cooked (console_of s).mode && is_end x) (byte_of x) (with_committed items s)

getc_never : (s : Xinu) → NeverRefuses (console_getc s)
getc_never s = await_never TY_ISEM TtyGet take_next s (λ u. take_char_never (console_of u).committed u)

-- and of one that reads
count_never : (done : ℕ) (s : Xinu) → NeverRefuses (answers (count_at_end done) s)
count_never zero s e = absurd (cc)
count_never (suc done) s e = absurd (cc)

read_item_never : (items : List Item) (at done : ℕ) (then_ : Xinu → CallResult) (s : Xinu) → ((u : Xinu) → NeverRefuses (then_ u))
    → NeverRefuses (read_item items at done then_ s)
read_item_never [] at done then_ s go = λ e. absurd (cc)
read_item_never (x ∷ items) at done then_ s go =
    let mode = (console_of s).mode in
    let u = with_committed items s in
    let v = stored x at done u in
    cond_both _ _ _ NeverRefuses (λ _. count_never done u)
    (λ _. cond_both (ends_line mode x) (answers (pos (suc done)) v) (then_ v) NeverRefuses (λ _ e. absurd (cc)) (λ _. go v))

reads_never : (left at done : ℕ) (s : Xinu) → NeverRefuses (reads left at done s)
reads_never zero at done s = λ e. absurd (cc)
reads_never (suc left) at done s =
    await_never TY_ISEM (TtyRead (span at done (done + suc left))) (read_next at done (reads left at (suc done))) s
    (λ u. read_item_never (console_of u).committed at done (reads left at (suc done)) u (reads_never left at (suc done)))

-- what never answers -1 tells of its refusals
never_tells : (s : Xinu) (result : CallResult) → NeverRefuses result → TellsRefusal s result
never_tells s result never e = absurd (never e)

read_range_tells : (at n : ℕ) (s : Xinu) → TellsRefusal s (read_range at n s)
read_range_tells at n s =
    cond_both (in_ram at n) (reads n at 0 s) (refused s) (TellsRefusal s) (λ _. never_tells s (reads n at 0 s) (reads_never n at 0 s))
    (λ _. refusal_tells s)

read_tells : (at : ℕ) (n : ℤ) (s : Xinu) → TellsRefusal s (console_read at n s)
read_tells at (negsuc n) s = refusal_tells s
read_tells at (pos zero) s =
    cond_both (is_cooked (console_of s).mode) (answers OK s) (read_range at (semaphore_at s.tables TY_ISEM).tokens s) (TellsRefusal s)
    (λ _ e. absurd (cc)) (λ _. read_range_tells at (semaphore_at s.tables TY_ISEM).tokens s)
read_tells at (pos (suc n)) s = read_range_tells at (suc n) s

-- the calls that put bytes
put_byte_never : (b : ℕ) (left : Rest) (then_ : Xinu → CallResult) (s : Xinu) → ((u : Xinu) → NeverRefuses (then_ u))
    → NeverRefuses (put_byte b left then_ s)
put_byte_never b left then_ s go =
    cond_both (needs_return b (console_of s).mode) (await TY_OSEM left (λ x. then_ (put TY_NEWLINE x)) (put TY_RETURN s))
    (then_ (put b s)) NeverRefuses
    (λ _. await_never TY_OSEM left (λ x. then_ (put TY_NEWLINE x)) (put TY_RETURN s) (λ u. go (put TY_NEWLINE u))) (λ _. go (put b s))

putc_never : (b : ℕ) (s : Xinu) → NeverRefuses (console_putc b s)
putc_never b s =
    await_never TY_OSEM (TtyPut b false) (put_byte b (TtyPut b true) (answers OK)) s
    (λ u. put_byte_never b (TtyPut b true) (answers OK) u (λ v e. absurd (cc)))

writes_never : (left at done : ℕ) (s : Xinu) → NeverRefuses (writes left at done s)
writes_never zero at done s = λ e. absurd (cc)
writes_never (suc left) at done s =
    let part = span at done (done + suc left) in
    await_never TY_OSEM (TtyWrite part false)
    (λ x. put_byte (slice_index x.memory (at + done)) (TtyWrite part true) (writes left at (suc done)) x) s
    (λ u. put_byte_never (slice_index u.memory (at + done)) (TtyWrite part true) (writes left at (suc done)) u
    (writes_never left at (suc done)))

write_tells : (at : ℕ) (n : ℤ) (s : Xinu) → TellsRefusal s (console_write at n s)
write_tells at (negsuc n) s = refusal_tells s
write_tells at (pos n) s =
    cond_both (in_ram at n) (writes n at 0 s) (refused s) (TellsRefusal s) (λ _. never_tells s (writes n at 0 s) (writes_never n at 0 s))
    (λ _. refusal_tells s)

control_tells : (found : Option Committed) (s : Xinu) → TellsRefusal s (control_with found s)
control_tells None s = refusal_tells s
control_tells (Some m) s = λ e. absurd (cc)

console_control_tells : (f : ℕ) (s : Xinu) → TellsRefusal s (console_control f s)
console_control_tells f s =
    cond_both (f == TC_ICHARS) (answers (pos (semaphore_at s.tables TY_ISEM).tokens) s) (control_with (controlled f (console_of s)) s)
    (TellsRefusal s)
    (λ _ e. absurd (cc)) (λ _. control_tells (controlled f (console_of s)) s)

-- the calls on the raw disk
disk_read_tells : (at block : ℕ) (s : Xinu) → TellsRefusal s (disk_read at block s)
disk_read_tells at block s =
    cond_both (may_request at block s) (awaits_disk None at block s) (refused s) (TellsRefusal s)
    (λ _ e. absurd (cc)) (λ _. refusal_tells s)

disk_write_tells : (at block : ℕ) (s : Xinu) → TellsRefusal s (disk_write at block s)
disk_write_tells at block s =
    cond_both (may_request at block s) (awaits_disk (Some (bytes_from s.memory at RD_BLKSIZ)) at block s) (refused s) (TellsRefusal s)
    (λ _ e. absurd (cc)) (λ _. refusal_tells s)

disk_control_tells : (f : ℕ) (s : Xinu) → TellsRefusal s (disk_control f s)
disk_control_tells f s =
    cond_both (f == RD_CTL_SIZE) (answers (pos (length (disk_of s).blocks)) s) (refused s) (TellsRefusal s)
    (λ _ e. absurd (cc)) (λ _. refusal_tells s)

-- a call on files
files_tell : (s : Xinu) → OfFiles (TellsRefusal s) s
files_tell s None at asked = refusal_tells s
files_tell s (Some call) at asked = λ e. absurd (cc)

-- Calls 36 to 43.
pub device_open_tells : (dev name mode : ℕ) (s : Xinu) → TellsRefusal s (device_open dev name mode s)
device_open_tells dev name mode s =
    device_open_holds (TellsRefusal s) dev name mode s (refusal_tells s) (λ e. absurd (cc)) (λ e. absurd (cc)) (files_tell s)

pub device_close_tells : (dev : ℕ) (s : Xinu) → TellsRefusal s (device_close dev s)
device_close_tells dev s = device_close_holds (TellsRefusal s) dev s (refusal_tells s) (λ e. absurd (cc)) (files_tell s)

pub device_read_tells : (dev at n : ℕ) (s : Xinu) → TellsRefusal s (device_read dev at n s)
device_read_tells dev at n s =
    device_read_holds (TellsRefusal s) dev at n s (refusal_tells s) (read_tells at (signed n) s) (disk_read_tells at n s) (files_tell s)

pub device_write_tells : (dev at n : ℕ) (s : Xinu) → TellsRefusal s (device_write dev at n s)
device_write_tells dev at n s =
    device_write_holds (TellsRefusal s) dev at n s (refusal_tells s) (write_tells at (signed n) s) (disk_write_tells at n s) (files_tell s)

pub device_getc_tells : (dev : ℕ) (s : Xinu) → TellsRefusal s (device_getc dev s)
device_getc_tells dev s =
    device_getc_holds (TellsRefusal s) dev s (refusal_tells s) (never_tells s (console_getc s) (getc_never s)) (files_tell s)

pub device_putc_tells : (dev b : ℕ) (s : Xinu) → TellsRefusal s (device_putc dev b s)
device_putc_tells dev b s =
    device_putc_holds (TellsRefusal s) dev b s (refusal_tells s) (never_tells s (console_putc b s) (putc_never b s)) (files_tell s)

pub device_seek_tells : (dev : ℕ) (n : ℤ) (s : Xinu) → TellsRefusal s (device_seek dev n s)
device_seek_tells dev n s = device_seek_holds (TellsRefusal s) dev n s (refusal_tells s) (files_tell s)

pub device_control_tells : (dev f x : ℕ) (s : Xinu) → TellsRefusal s (device_control dev f x s)
device_control_tells dev f x s =
    device_control_holds (TellsRefusal s) dev f x s (refusal_tells s) (console_control_tells f s) (disk_control_tells f s) (files_tell s)

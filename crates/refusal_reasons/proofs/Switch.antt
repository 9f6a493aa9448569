-- Each call on a device answers -1 if and only if one of its causes holds.
use Rattle.std.proofs.Common.{◌∙◌, ◌≡◌, ◌≢◌, ℕ, zero, suc, ◌==◌, Bool, true, false, not, cond, ◌&&◌, ◌||◌, List, [], ◌∷◌, length, refl, ap, Option, Some, None, ℤ, pos, negsuc, ◌++◌}
use Rattle.std.specs.Prelude.{is_some, nat_le, nat_lt, unwrap_or}
use Rattle.std.specs.List.{list_all}
use Rattle.event_laws.proofs.Reply.Continued.{Never, put_byte_never, reads_never, take_char_never, writes_never}
use Rattle.refusal_reasons.specs.Causes.{cause, is_negative, answers_minus_one, first_reason}
use Rattle.refusal_reasons.specs.declared.reasons.Cause.{Cause}
use Rattle.refusal_reasons.specs.Devices.{device_calls, switch_causes, does_offer, by_kind, open_by, open_causes, read_leaves_ram, transfer_causes, block_causes, read_causes, write_causes, control_causes}
use Rattle.refusal_reasons.specs.Files.{name_causes, mode_causes, file_causes}
use Rattle.refusal_reasons.specs.Names.{is_opened, direct_causes, mapped_causes, name_space_causes, mount_causes}
use Rattle.refusal_reasons.specs.declared.reasons.Reason.TheVariants as reason
use Rattle.refusal_reasons.proofs.Combined.{Tells, tells, refused_unless, refused_unless_both, status_if}
use Rattle.xinu_base.specs.declared.devices.Kind.{Kind}
use Rattle.xinu_base.specs.declared.devices.Kind.TheVariants as kind
use Rattle.xinu_base.specs.declared.devices.Op.{Op}
use Rattle.xinu_base.specs.declared.devices.Op.TheVariants as op
use Rattle.xinu_base.specs.declared.files.OpenMode.{OpenMode}
use Rattle.xinu_base.specs.declared.processes.Rest.{Rest}
use Rattle.xinu_base.specs.declared.processes.Rest.TheVariants as rest
use Rattle.xinu_model.specs.Console.Putting.{TY_OSEM, put_byte, writes, console_write}
use Rattle.xinu_model.specs.Console.Rows.{Committed}
use Rattle.xinu_model.specs.Console.Signals.{control_with, console_control}
use Rattle.xinu_model.specs.Console.Taking.{TY_ISEM, console_of, is_cooked, take_next, reads, read_range, console_read}
use Rattle.xinu_model.specs.Devices.Calls.{on_kind, on_device, open_direct, open_mapped, open_with, open_texts, device_open, file_number, close_as, device_close, read_as, device_read, write_as, device_write, getc_as, device_getc, putc_as, device_putc, seek_as, device_seek, named_control, control_as, device_control}
use Rattle.xinu_model.specs.Devices.Table.{kind_of, offers}
use Rattle.xinu_model.specs.Devices.Texts.{text_at}
use Rattle.xinu_model.specs.Files.Calls.{FileCall, Read, Write, Delete, Truncate, Size}
use Rattle.xinu_model.specs.Files.Constants.{LF_NAME_LEN, LF_CTL_DEL, LF_CTL_TRUNC, LF_CTL_SIZE}
use Rattle.xinu_model.specs.Files.Issue.{open_in, open_call, read_call, write_call}
use Rattle.xinu_model.specs.Files.Modes.{LF_MODE_O, LF_MODE_N, is_mode_letter, has_letter, are_apart}
use Rattle.xinu_model.specs.Files.Stored.{is_file_name}
use Rattle.xinu_model.specs.Files.Syscalls.{asks_files}
use Rattle.xinu_model.specs.Machine.{Xinu, Answer, Returns, Waits, Gone, Panics, Silent, CallResult, start, refused}
use Rattle.xinu_model.specs.Memory.{bytes_from, in_ram}
use Rattle.xinu_model.specs.Names.Calls.{names_of, mount, mount_rows, mount_texts}
use Rattle.xinu_model.specs.Names.Constants.{NNAMES, NM_PRELEN, NM_REPLLEN}
use Rattle.xinu_model.specs.Names.Mapping.{MappedName, map_name}
use Rattle.xinu_model.specs.Names.Mounting.{NameRow}
use Rattle.xinu_model.specs.RawDisk.Calls.{awaits_disk, disk_of}
use Rattle.xinu_model.specs.RawDisk.Constants.{RD_BLKSIZ, RD_CTL_SIZE}
use Rattle.xinu_model.specs.RawDisk.Requests.{has_block}
use Rattle.xinu_model.specs.Semaphores.Calls.{answers}
use Rattle.xinu_model.specs.Semaphores.Waiting.{take_token, await}
use Rattle.xinu_model.specs.Tables.{semaphore_at}
use Rattle.xinu_model.specs.Words.{signed}

-- what never answers -1 has no reason
pub never_told : (x : CallResult) → Never 0 x → Tells [] x
never_told x never = tells (by_answer x.answer never)
  where
    by_answer : (answer : Answer) → (answer ≡ Returns (negsuc 0) → ⊥) → answers_minus_one answer ≡ false
    by_answer (Returns (pos n)) f = refl
    by_answer (Returns (negsuc zero)) f = absurd (f refl)
    by_answer (Returns (negsuc (suc n))) f = refl
    by_answer Waits f = refl
    by_answer Gone f = refl
    by_answer Panics f = refl
    by_answer Silent f = refl

-- one who waits for a token, or goes on with it
token_told : (sem : ℕ) (left : Rest) (then_ : Xinu → CallResult) (s : Xinu) → ((u : Xinu) → Tells [] (then_ u))
    → Tells [] (await sem left then_ s)
token_told sem left then_ s go = by_tokens (semaphore_at s.tables sem).tokens
  where
    by_tokens : (tokens : ℕ) → Tells [] (take_token tokens sem left then_ s)
    by_tokens zero = tells refl
    by_tokens (suc n) = go _

-- -1 isn't the answer at the end of the input
pub not_end : zero ≢ suc zero
not_end e = absurd (cc)

-- A call on a device: there has to be one that offers the call.
device_told : (call : Op) (dev : ℕ) (does : Kind → Xinu → CallResult) (each : Kind → List Cause) (s : Xinu)
    → ((k : Kind) → offers k call ≡ true → Tells (each k) (does k s)) → Tells (device_calls call dev each) (on_device call dev does s)
device_told call dev does each s told = by_found (kind_of dev)
  where
    by_found : (found : Option Kind)
        → Tells (cause reason.NoDevice (not (is_some found)) ∷ cause reason.NotOffered (not (does_offer call found)) ∷ by_kind found each) (on_kind call found does s)
    by_found None = tells refl
    by_found (Some k) = tells (refused_unless reason.NotOffered (offers k call) (each k) s (does k s) (told k)).told

-- a call for which no kind asks for anything of its own
offered_told : (call : Op) (dev : ℕ) (x : CallResult) → Tells (device_calls call dev (λ k. [])) x → Tells (switch_causes call dev) x
offered_told call dev x k = tells (k.told ∙ ap (λ l. is_some (first_reason (switch_causes call dev ++ l))) (nothing (kind_of dev)))
  where
    nothing : (found : Option Kind) → by_kind found (λ k. []) ≡ []
    nothing None = refl
    nothing (Some k) = refl

-- a name, if its three parts hold, before the causes of what is asked then
named_told : (a b c : Bool) (causes : List Cause) (found : Option FileCall) (s : Xinu) → Tells causes (asks_files found 0 s)
    → Tells (cause reason.EmptyName (not a) ∷ cause reason.NameTooLong (not b) ∷ cause reason.ZeroInName (not c) ∷ causes)
    (asks_files (cond (a && (b && c)) found None) 0 s)
named_told false b c causes found s k = tells refl
named_told true false c causes found s k = tells refl
named_told true true false causes found s k = tells refl
named_told true true true causes found s k = tells k.told

-- a mode, if its three parts hold
mode_told : (a b c : Bool) (name : List ℕ) (mode : OpenMode) (s : Xinu)
    → Tells (cause reason.NoModeLetter (not a) ∷ cause reason.LetterTwice (not b) ∷ cause reason.OldAndNew c ∷ [])
    (asks_files (open_in name (cond ((a && b) && not c) (Some mode) None)) 0 s)
mode_told false b c name mode s = tells refl
mode_told true false c name mode s = tells refl
mode_told true true true name mode s = tells refl
mode_told true true false name mode s = tells refl

-- `open` of a file
file_told : (name mode : List ℕ) (s : Xinu) → Tells (file_causes name mode) (asks_files (open_call name mode) 0 s)
file_told name mode s =
    named_told (nat_lt 0 (length name)) (nat_le (length name) LF_NAME_LEN) (list_all (λ b. not (b == 0)) name) (mode_causes mode) _ s
    (mode_told (list_all is_mode_letter mode) (are_apart mode) (has_letter LF_MODE_O mode && has_letter LF_MODE_N mode) name _ s)

-- `open` of what a name is mapped to
opened_told : (found : Option Kind) (name mode : List ℕ) (s : Xinu)
    → Tells (cause reason.NotOpened (not (is_opened found)) ∷ direct_causes found name mode) (on_kind op.Open found (open_direct name mode) s)
opened_told None name mode s = tells refl
opened_told (Some kind.Console) name mode s = tells refl
opened_told (Some kind.NameSpace) name mode s = tells refl
opened_told (Some kind.RawDisk) name mode s = tells refl
opened_told (Some kind.FileSystem) name mode s = tells (file_told name mode s).told
opened_told (Some kind.File) name mode s = tells refl

mapped_told : (found : Option MappedName) (mode : List ℕ) (s : Xinu)
    → Tells (cause reason.NotMapped (not (is_some found)) ∷ mapped_causes found mode) (open_mapped found mode s)
mapped_told None mode s = tells refl
mapped_told (Some m) mode s = tells (opened_told (kind_of m.device) m.name mode s).told

name_told : (name mode : List ℕ) (s : Xinu)
    → Tells (name_space_causes (names_of s) name mode) (open_mapped (map_name (names_of s) name) mode s)
name_told name mode s = mapped_told (map_name (names_of s) name) mode s

-- call 36
pub open_told : (dev name mode : ℕ) (s : Xinu) → Tells (device_calls op.Open dev (open_causes name mode s)) (device_open dev name mode s)
open_told dev name mode s =
    device_told op.Open dev (open_texts name mode) (open_causes name mode s) s (λ k e. by_texts k e (text_at name s.memory) (text_at mode s.memory))
  where
    by_texts : (k : Kind) → offers k op.Open ≡ true → (n m : Option (List ℕ))
        → Tells (cause reason.NoName (not (is_some n)) ∷ cause reason.NoMode (not (is_some m)) ∷ open_by k (names_of s) (unwrap_or n []) (unwrap_or m [])) (open_with k n m s)
    by_texts k e None m = tells refl
    by_texts k e (Some n) None = tells refl
    by_texts kind.Console e (Some n) (Some m) = tells refl
    by_texts kind.NameSpace e (Some n) (Some m) = tells (name_told n m s).told
    by_texts kind.RawDisk e (Some n) (Some m) = tells refl
    by_texts kind.FileSystem e (Some n) (Some m) = tells (file_told n m s).told
    by_texts kind.File e (Some n) (Some m) = absurd (cc)

-- call 37
pub close_told : (dev : ℕ) (s : Xinu) → Tells (switch_causes op.Close dev) (device_close dev s)
close_told dev s = offered_told op.Close dev (device_close dev s) (device_told op.Close dev (close_as dev) (λ k. []) s each)
  where
    each : (k : Kind) → offers k op.Close ≡ true → Tells [] (close_as dev k s)
    each kind.Console e = tells refl
    each kind.NameSpace e = absurd (cc)
    each kind.RawDisk e = tells refl
    each kind.FileSystem e = absurd (cc)
    each kind.File e = tells refl

-- a read of the console to a range
range_told : (at n : ℕ) (s : Xinu) → Tells (cause reason.OutsideRam (not (in_ram at n)) ∷ []) (read_range at n s)
range_told at n s = refused_unless reason.OutsideRam (in_ram at n) [] s (reads n at 0 s) (λ _. never_told (reads n at 0 s) (reads_never 0 not_end n at 0 s))

console_read_told : (at : ℕ) (n : ℤ) (s : Xinu)
    → Tells (cause reason.NegativeBytes (is_negative n) ∷ cause reason.OutsideRam (read_leaves_ram at n s) ∷ []) (console_read at n s)
console_read_told at (negsuc n) s = tells refl
console_read_told at (pos zero) s = by_mode (is_cooked (console_of s).mode) (range_told at (semaphore_at s.tables TY_ISEM).tokens s)
  where
    by_mode : (b : Bool) → Tells (cause reason.OutsideRam (not (in_ram at (semaphore_at s.tables TY_ISEM).tokens)) ∷ []) (read_range at (semaphore_at s.tables TY_ISEM).tokens s)
        → Tells (cause reason.NegativeBytes false ∷ cause reason.OutsideRam (not b && not (in_ram at (semaphore_at s.tables TY_ISEM).tokens)) ∷ [])
        (cond b (answers (pos 0) s) (read_range at (semaphore_at s.tables TY_ISEM).tokens s))
    by_mode true k = tells refl
    by_mode false k = tells k.told
console_read_told at (pos (suc n)) s = tells (range_told at (suc n) s).told

-- a transfer of a block of the raw disk
block_told : (at block : ℕ) (written : Option (List ℕ)) (s : Xinu)
    → Tells (block_causes at block s) (cond (in_ram at RD_BLKSIZ && has_block block (disk_of s)) (awaits_disk written at block s) (refused s))
block_told at block written s =
    refused_unless_both reason.OutsideRam reason.NoDiskBlock (in_ram at RD_BLKSIZ) (has_block block (disk_of s)) [] s (awaits_disk written at block s)
    (λ _ _. tells refl)

-- a transfer of bytes of a file
transfer_told : (call : FileCall) (b : Bool) (at : ℕ) (s : Xinu)
    → Tells (cause reason.NegativeBytes false ∷ cause reason.OutsideRam (not b) ∷ []) (asks_files (cond b (Some call) None) at s)
transfer_told call true at s = tells refl
transfer_told call false at s = tells refl

file_read_told : (d at : ℕ) (n : ℤ) (s : Xinu) → Tells (transfer_causes at n) (asks_files (read_call d at n) at s)
file_read_told d at (negsuc n) s = tells refl
file_read_told d at (pos n) s = transfer_told (Read d n) (in_ram at n) at s

file_write_told : (d at : ℕ) (n : ℤ) (s : Xinu) → Tells (transfer_causes at n) (asks_files (write_call d at n) at s)
file_write_told d at (negsuc n) s = tells refl
file_write_told d at (pos n) s = transfer_told (Write d n) (in_ram at n) at s

-- call 38
pub read_told : (dev at n : ℕ) (s : Xinu) → Tells (device_calls op.Read dev (read_causes at n s)) (device_read dev at n s)
read_told dev at n s = device_told op.Read dev (read_as dev at n) (read_causes at n s) s each
  where
    each : (k : Kind) → offers k op.Read ≡ true → Tells (read_causes at n s k) (read_as dev at n k s)
    each kind.Console e = console_read_told at (signed n) s
    each kind.NameSpace e = absurd (cc)
    each kind.RawDisk e = block_told at n None s
    each kind.FileSystem e = absurd (cc)
    each kind.File e = file_read_told (file_number dev) at (signed n) s

-- call 39
console_write_told : (at : ℕ) (n : ℤ) (s : Xinu) → Tells (transfer_causes at n) (console_write at n s)
console_write_told at (negsuc n) s = tells refl
console_write_told at (pos n) s =
    tells (refused_unless reason.OutsideRam (in_ram at n) [] s (writes n at 0 s) (λ _. never_told (writes n at 0 s) (writes_never 0 n at 0 s))).told

pub write_told : (dev at n : ℕ) (s : Xinu) → Tells (device_calls op.Write dev (write_causes at n s)) (device_write dev at n s)
write_told dev at n s = device_told op.Write dev (write_as dev at n) (write_causes at n s) s each
  where
    each : (k : Kind) → offers k op.Write ≡ true → Tells (write_causes at n s k) (write_as dev at n k s)
    each kind.Console e = console_write_told at (signed n) s
    each kind.NameSpace e = absurd (cc)
    each kind.RawDisk e = block_told at n (Some (bytes_from s.memory at RD_BLKSIZ)) s
    each kind.FileSystem e = absurd (cc)
    each kind.File e = file_write_told (file_number dev) at (signed n) s

-- call 40
pub getc_told : (dev : ℕ) (s : Xinu) → Tells (switch_causes op.Getc dev) (device_getc dev s)
getc_told dev s = offered_told op.Getc dev (device_getc dev s) (device_told op.Getc dev (getc_as dev) (λ k. []) s each)
  where
    each : (k : Kind) → offers k op.Getc ≡ true → Tells [] (getc_as dev k s)
    each kind.Console e = token_told TY_ISEM rest.TtyGet take_next s (λ u. never_told (take_next u) (take_char_never 0 not_end (console_of u).committed u))
    each kind.NameSpace e = absurd (cc)
    each kind.RawDisk e = absurd (cc)
    each kind.FileSystem e = absurd (cc)
    each kind.File e = tells refl

-- call 41
pub putc_told : (dev b : ℕ) (s : Xinu) → Tells (switch_causes op.Putc dev) (device_putc dev b s)
putc_told dev b s = offered_told op.Putc dev (device_putc dev b s) (device_told op.Putc dev (putc_as dev b) (λ k. []) s each)
  where
    each : (k : Kind) → offers k op.Putc ≡ true → Tells [] (putc_as dev b k s)
    each kind.Console e =
        token_told TY_OSEM (rest.TtyPut b false) (put_byte b (rest.TtyPut b true) (answers (pos 0))) s
        (λ u. never_told (put_byte b (rest.TtyPut b true) (answers (pos 0)) u) (put_byte_never 0 b (rest.TtyPut b true) (answers (pos 0)) u (λ v f. absurd (cc))))
    each kind.NameSpace e = absurd (cc)
    each kind.RawDisk e = absurd (cc)
    each kind.FileSystem e = absurd (cc)
    each kind.File e = tells refl

-- call 42
pub seek_told : (dev : ℕ) (n : ℤ) (s : Xinu) → Tells (switch_causes op.Seek dev) (device_seek dev n s)
seek_told dev n s = offered_told op.Seek dev (device_seek dev n s) (device_told op.Seek dev (seek_as dev n) (λ k. []) s each)
  where
    each : (k : Kind) → offers k op.Seek ≡ true → Tells [] (seek_as dev n k s)
    each kind.Console e = absurd (cc)
    each kind.NameSpace e = absurd (cc)
    each kind.RawDisk e = absurd (cc)
    each kind.FileSystem e = absurd (cc)
    each kind.File e = tells refl

-- the functions of the console
console_control_told : (f : ℕ) (s : Xinu) → Tells (control_causes f 0 s kind.Console) (console_control f s)
console_control_told f s = by_tests (f == 1) (f == 2) (f == 3) (f == 4) (f == 5) (f == 6) _ _ _ _ _ _
  where
    by_tests : (a b c d e g : Bool) (x y z u v : Committed) (n : ℕ)
        → Tells (cause reason.NoFunction (not (a || (b || (c || (d || (e || (g || false))))))) ∷ [])
        (cond d (answers (pos n) s) (control_with (cond a (Some x) (cond b (Some y) (cond c (Some z) (cond e (Some u) (cond g (Some v) None))))) s))
    by_tests true b c true e g x y z u v n = tells refl
    by_tests true b c false e g x y z u v n = tells refl
    by_tests false true c true e g x y z u v n = tells refl
    by_tests false true c false e g x y z u v n = tells refl
    by_tests false false true true e g x y z u v n = tells refl
    by_tests false false true false e g x y z u v n = tells refl
    by_tests false false false true e g x y z u v n = tells refl
    by_tests false false false false true g x y z u v n = tells refl
    by_tests false false false false false true x y z u v n = tells refl
    by_tests false false false false false false x y z u v n = tells refl

-- the deletion of the file of a name, if the function is that
abbrev deletion : Bool → Option (List ℕ) → Option FileCall
deletion known None = None
deletion known (Some name) = cond known (cond (is_file_name name) (Some (Delete name)) None) None

deletion_told : (known : Bool) (text : Option (List ℕ)) (s : Xinu)
    → Tells (cause reason.NoFunction (not known) ∷ cause reason.NoName (not (is_some text)) ∷ name_causes (unwrap_or text []))
    (asks_files (deletion known text) 0 s)
deletion_told true None s = tells refl
deletion_told false None s = tells refl
deletion_told false (Some name) s = tells refl
deletion_told true (Some name) s =
    tells (named_told (nat_lt 0 (length name)) (nat_le (length name) LF_NAME_LEN) (list_all (λ b. not (b == 0)) name) [] (Some (Delete name)) s (tells refl)).told

-- call 43
pub control_told : (dev f x : ℕ) (s : Xinu) → Tells (device_calls op.Control dev (control_causes f x s)) (device_control dev f x s)
control_told dev f x s = device_told op.Control dev (control_as dev f x) (control_causes f x s) s each
  where
    by_functions : (a b : Bool) (c d : FileCall)
        → Tells (cause reason.NoFunction (not (a || (b || false))) ∷ []) (asks_files (cond a (Some c) (cond b (Some d) None)) 0 s)
    by_functions true b c d = tells refl
    by_functions false true c d = tells refl
    by_functions false false c d = tells refl

    by_text : (text : Option (List ℕ))
        → Tells (cause reason.NoFunction (not (f == LF_CTL_DEL)) ∷ cause reason.NoName (not (is_some text)) ∷ name_causes (unwrap_or text []))
        (asks_files (named_control f text) 0 s)
    by_text None = deletion_told (f == LF_CTL_DEL) None s
    by_text (Some name) = deletion_told (f == LF_CTL_DEL) (Some name) s

    each : (k : Kind) → offers k op.Control ≡ true → Tells (control_causes f x s k) (control_as dev f x k s)
    each kind.Console e = console_control_told f s
    each kind.NameSpace e = absurd (cc)
    each kind.RawDisk e = status_if reason.NoFunction (f == RD_CTL_SIZE) _ (start s) s
    each kind.FileSystem e = by_text (text_at x s.memory)
    each kind.File e = by_functions (f == LF_CTL_TRUNC) (f == LF_CTL_SIZE) (Truncate (file_number dev)) (Size (file_number dev))

-- call 44
pub mount_told : (prefix replacement dev : ℕ) (s : Xinu) → Tells (mount_causes prefix replacement dev s) (mount prefix replacement dev s)
mount_told prefix replacement dev s =
    refused_unless reason.NoDevice (is_some (kind_of dev)) _ s _ (λ _. by_texts (text_at prefix s.memory) (text_at replacement s.memory))
  where
    by_tests : (a b c : Bool) (rows : List NameRow)
        → Tells (cause reason.PrefixTooLong (not b) ∷ cause reason.ReplacementTooLong (not c) ∷ cause reason.NoFreeRow (not a) ∷ [])
        (mount_rows (cond (a && (b && c)) (Some rows) None) s)
    by_tests true true true rows = tells refl
    by_tests true true false rows = tells refl
    by_tests true false c rows = tells refl
    by_tests false true true rows = tells refl
    by_tests false true false rows = tells refl
    by_tests false false c rows = tells refl

    by_texts : (p r : Option (List ℕ))
        → Tells (cause reason.NoPrefixText (not (is_some p)) ∷ cause reason.NoReplacementText (not (is_some r)) ∷ cause reason.PrefixTooLong (not (nat_le (length (unwrap_or p [])) NM_PRELEN)) ∷ cause reason.ReplacementTooLong (not (nat_le (length (unwrap_or r [])) NM_REPLLEN)) ∷ cause reason.NoFreeRow (not (nat_lt (length (names_of s)) NNAMES)) ∷ [])
        (mount_texts p r dev s)
    by_texts None r = tells refl
    by_texts (Some p) None = tells refl
    by_texts (Some p) (Some r) = tells (by_tests (nat_lt (length (names_of s)) NNAMES) (nat_le (length p) NM_PRELEN) (nat_le (length r) NM_REPLLEN) _).told

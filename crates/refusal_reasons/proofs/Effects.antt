-- A call on files replies -1 as it takes effect if and only if one of its causes holds.
use Rattle.std.proofs.Common.{◌≡◌, ◌∙◌, ◌↔◌, ℕ, zero, suc, ◌==◌, Bool, true, false, not, cond, ◌&&◌, ◌||◌, List, [], ◌∷◌, length, take, refl, sym, ap, Option, Some, None, IsSome, ℤ, pos, negsuc}
use Rattle.std.specs.Prelude.{is_some, nat_le, nat_lt}
use Rattle.refusal_reasons.specs.Causes.{cause, first_reason, is_minus_one, is_negative}
use Rattle.refusal_reasons.specs.Later.{completion_reason, effect_causes, effect_reason, has_no_place, has_no_room, is_beyond, may_read, may_write}
use Rattle.refusal_reasons.specs.declared.reasons.Cause.{Cause}
use Rattle.refusal_reasons.specs.declared.reasons.Reason.{Reason}
use Rattle.refusal_reasons.specs.declared.reasons.Reason.TheVariants as why
use Rattle.xinu_base.specs.Constants.{OK, SYSERR, EOF}
use Rattle.xinu_base.specs.declared.files.OpenMode.{OpenMode}
use Rattle.xinu_model.specs.Files.Calls.{FileCall, Open, Delete, Close, Read, Write, Getc, Putc, Seek, Truncate, Size, file_effect}
use Rattle.xinu_model.specs.Files.Constants.{LF_NUM_DIR_ENT, Nlfl}
use Rattle.xinu_model.specs.Files.Opening.{open_stored, opened, with_created}
use Rattle.xinu_model.specs.Files.Reading.{bytes_ahead, first_byte, seek_file, taken}
use Rattle.xinu_model.specs.Files.Stored.{StoredFile, file_named}
use Rattle.xinu_model.specs.Files.Systems.{OpenFile, FileSystem, FileEffect, free_device, is_open, on_open, open_at, open_bytes, refused_effect, replies}
use Rattle.xinu_model.specs.Files.Writing.{fitting, have_room, put_bytes}
use Rattle.xinu_model.specs.RawDisk.Completions.{served, transferred}
use Rattle.xinu_model.specs.RawDisk.Requests.{RawDisk, Request}

-- the reply is -1 if and only if one of these causes holds
pub record Says (causes : List Cause) (e : FileEffect) : Type 0 where
  pub said : is_minus_one e.reply ≡ is_some (first_reason causes)

says : {causes : List Cause} {e : FileEffect} → is_minus_one e.reply ≡ is_some (first_reason causes) → Says causes e
says h = record { said = h }

-- a call that is refused if a test holds
refused_if : (r : Reason) (b : Bool) (s : FileSystem) (e : FileEffect) → is_minus_one e.reply ≡ false → Says (cause r b ∷ []) (cond b (refused_effect s) e)
refused_if r true s e k = says refl
refused_if r false s e k = says k

-- and one that is if one of two holds
refused_if_either : (r q : Reason) (a b : Bool) (s : FileSystem) (e : FileEffect) → is_minus_one e.reply ≡ false
    → Says (cause r a ∷ cause q b ∷ []) (cond (a || b) (refused_effect s) e)
refused_if_either r q true b s e k = says refl
refused_if_either r q false true s e k = says refl
refused_if_either r q false false s e k = says k

-- `open`
opened_said : (found : Option StoredFile) (a b many : Bool) (mode : OpenMode) (name : List ℕ) (s : FileSystem) → nat_le LF_NUM_DIR_ENT (length s.files) ≡ many
    → Says (cause why.FileIsOpen a ∷ cause why.SixOpen b ∷ cause why.FileExists (is_some found && mode.only_new) ∷ cause why.NoFile (not (is_some found) && mode.only_old) ∷ cause why.TooManyFiles (not (is_some found) && many) ∷ [])
    (cond (a || b) (refused_effect s) (open_stored found name mode s))
opened_said found true b many mode name s e = says refl
opened_said found false true many mode name s e = says refl
opened_said (Some f) false false many mode name s e = says (refused_if why.FileExists mode.only_new s (opened name mode s) refl).said
opened_said None false false many mode name s e =
    says (ap (λ t. is_minus_one (cond (mode.only_old || t) (refused_effect s) (opened name mode (with_created name s))).reply) e
    ∙ (refused_if_either why.NoFile why.TooManyFiles mode.only_old many s (opened name mode (with_created name s)) refl).said)

-- a call on a device that has something open
on_open_said : (found : Option OpenFile) (effect : OpenFile → FileEffect) (causes : Option OpenFile → List Cause) (s : FileSystem)
    → ((f : OpenFile) → Says (causes (Some f)) (effect f)) → Says (cause why.NotOpen (not (is_some found)) ∷ causes found) (on_open found effect s)
on_open_said None effect causes s k = says refl
on_open_said (Some f) effect causes s k = says (k f).said

-- `read`
never_said : (a b : Bool) (x y z : FileEffect) → is_minus_one x.reply ≡ false → is_minus_one y.reply ≡ false → is_minus_one z.reply ≡ false
    → is_minus_one (cond a x (cond b y z)).reply ≡ false
never_said true b x y z k l m = k
never_said false true x y z k l m = l
never_said false false x y z k l m = m

-- `getc`
byte_said : (bytes : List ℕ) (d : ℕ) (f : OpenFile) (s : FileSystem) → is_minus_one (first_byte bytes d f s).reply ≡ false
byte_said [] d f s = refl
byte_said (b ∷ bytes) d f s = refl

-- `seek`
sought_said : (d : ℕ) (n : ℤ) (f : OpenFile) (s : FileSystem)
    → Says (cause why.NegativePosition (is_negative n) ∷ cause why.BeyondEnd (is_beyond n (Some f) s) ∷ []) (seek_file d n f s)
sought_said d (negsuc n) f s = says refl
sought_said d (pos n) f s = says (refused_if why.BeyondEnd (nat_lt (length (open_bytes f s)) n) s _ refl).said

-- Each call on files.
pub effects_said : (call : FileCall) (bytes : List ℕ) (s : FileSystem) → Says (effect_causes call bytes s) (file_effect call bytes s)
effects_said (Open name mode) bytes s =
    opened_said (file_named name s.files) (is_open name s) (nat_le Nlfl (free_device s.devices)) (nat_le LF_NUM_DIR_ENT (length s.files)) mode name s refl
effects_said (Delete name) bytes s =
    refused_if_either why.FileIsOpen why.NoFile (is_open name s) (not (is_some (file_named name s.files))) s _ refl
effects_said (Close d) bytes s = on_open_said (open_at s d) _ (λ o. []) s (λ f. says refl)
effects_said (Read d n) bytes s =
    on_open_said (open_at s d) _ (λ o. cause why.NotReadable (not (may_read o)) ∷ []) s
    (λ f. refused_if why.NotReadable (not f.may_read) s _ (never_said (n == 0) (nat_le (length (open_bytes f s)) f.position) (replies OK s) (replies EOF s) (taken (bytes_ahead n f s) d f s) refl refl refl))
effects_said (Write d n) bytes s =
    on_open_said (open_at s d) _ (λ o. cause why.NotWritable (not (may_write o)) ∷ cause why.NoRoom (has_no_room bytes o s) ∷ []) s
    (λ f. refused_if_either why.NotWritable why.NoRoom (not f.may_write) (nat_lt 0 (length bytes) && (fitting f bytes s == 0)) s
    (replies (pos (fitting f bytes s)) (put_bytes (take (fitting f bytes s) bytes) d f s)) refl)
effects_said (Getc d) bytes s =
    on_open_said (open_at s d) _ (λ o. cause why.NotReadable (not (may_read o)) ∷ []) s
    (λ f. refused_if why.NotReadable (not f.may_read) s _ (byte_said (bytes_ahead 1 f s) d f s))
effects_said (Putc d b) bytes s =
    on_open_said (open_at s d) _ (λ o. cause why.NotWritable (not (may_write o)) ∷ cause why.NoRoom (has_no_place b o s) ∷ []) s
    (λ f. refused_if_either why.NotWritable why.NoRoom (not f.may_write) (not (have_room f (b ∷ []) s)) s (replies OK (put_bytes (b ∷ []) d f s)) refl)
effects_said (Seek d n) bytes s =
    on_open_said (open_at s d) _ (λ o. cause why.NegativePosition (is_negative n) ∷ cause why.BeyondEnd (is_beyond n o s) ∷ []) s (λ f. sought_said d n f s)
effects_said (Truncate d) bytes s =
    on_open_said (open_at s d) _ (λ o. cause why.NotWritable (not (may_write o)) ∷ []) s
    (λ f. refused_if why.NotWritable (not f.may_write) s _ refl)
effects_said (Size d) bytes s = on_open_said (open_at s d) _ (λ o. []) s (λ f. says refl)

-- a number is -1 if its test says so
is_syserr : (z : ℤ) → is_minus_one z ≡ true → z ≡ SYSERR
is_syserr (pos n) e = absurd (cc)
is_syserr (negsuc zero) e = refl
is_syserr (negsuc (suc n)) e = absurd (cc)

pub refused_effects : (call : FileCall) (bytes : List ℕ) (s : FileSystem) → ((file_effect call bytes s).reply ≡ SYSERR ↔ IsSome (effect_reason call bytes s))
refused_effects call bytes s =
    let said = (effects_said call bytes s).said in
    (λ e. sym said ∙ ap is_minus_one e, λ e. is_syserr (file_effect call bytes s).reply (said ∙ e))

-- a completion of the raw disk
completed_said : (good : Bool) (r : Request) (d : RawDisk) → is_minus_one (served good r d).reply ≡ is_some (completion_reason good)
completed_said true r d = by_written r.written
  where
    by_written : (written : Option (List ℕ)) → is_minus_one (transferred written r d).reply ≡ false
    by_written None = refl
    by_written (Some bytes) = refl
completed_said false r d = refl

pub refused_requests : (good : Bool) (r : Request) (d : RawDisk) → ((served good r d).reply ≡ SYSERR ↔ IsSome (completion_reason good))
refused_requests good r d =
    let said = completed_said good r d in
    (λ e. sym said ∙ ap is_minus_one e, λ e. is_syserr (served good r d).reply (said ∙ e))

-- A refused call changes nothing, and no call changes the files that it isn't about.
use Rattle.std.proofs.Common.{◌≡◌, ◌≢◌, ℕ, ◌+◌, ◌==◌, Bool, false, not, ◌&&◌, ◌||◌, List, [], ◌∷◌, length, take, get_or, set, get_or-set_other, bytes_eq, Option, Some, None, is_some, ℤ, pos, negsuc, refl, sym, ap, ◌∙◌}
use Rattle.std.specs.Prelude.{nat_le, nat_lt}
use Rattle.std.proofs.lemmas.Bool.{cond_both}
use Rattle.xinu_base.specs.Constants.{OK, SYSERR, EOF}
use Rattle.xinu_base.specs.declared.files.OpenMode.{OpenMode}
use Rattle.part_laws.proofs.FileSystems.Stored.{named_beside, named_without, other_stored, other_without}
use Rattle.part_laws.specs.FileEffects.{is_about, device_of}
use Rattle.xinu_model.specs.Files.Calls.{FileCall, Open, Delete, Close, Read, Write, Getc, Putc, Seek, Truncate, Size, file_effect}
use Rattle.xinu_model.specs.Files.Constants.{LF_NUM_DIR_ENT, Nlfl}
use Rattle.xinu_model.specs.Files.Opening.{opening, opened, with_created, open_stored, open_file, close_file, delete_file}
use Rattle.xinu_model.specs.Files.Reading.{bytes_ahead, taken, read_file, first_byte, getc_file, seek_file, size_of_file}
use Rattle.xinu_model.specs.Files.Stored.{StoredFile, empty_file, file_named, without_file, with_contents}
use Rattle.xinu_model.specs.Files.Systems.{OpenFile, FileSystem, FileEffect, open_at, has_open, is_open, free_device, open_bytes, moved, replies, refused_effect, on_open}
use Rattle.xinu_model.specs.Files.Writing.{overwritten, have_room, fitting, put_bytes, write_file, putc_file, truncate_file}

-- The number of blocks is the same; a refused call, and one that is told the end of the file, changed nothing; the file of another name,
-- and another device, is the same.
pub record Spares (s : FileSystem) (about : List ℕ → Bool) (device : Option ℕ) (e : FileEffect) : Type 0 where
  pub blocks : e.system.blocks ≡ s.blocks
  pub unchanged : e.reply ≡ SYSERR → e ≡ replies SYSERR s
  pub ended : e.reply ≡ EOF → e ≡ replies EOF s
  pub others : (name : List ℕ) → about name ≡ false → file_named name e.system.files ≡ file_named name s.files
  pub devices : (d : ℕ) → device ≢ Some d → open_at e.system d ≡ open_at s d

-- nothing is changed
spares_all : (s : FileSystem) (about : List ℕ → Bool) (device : Option ℕ) (reply : ℤ) → Spares s about device (replies reply s)
spares_all s about device reply = record {
  blocks = refl;
  unchanged = λ e. ap (λ r. replies r s) e;
  ended = λ e. ap (λ r. replies r s) e;
  others = λ name _. refl;
  devices = λ d _. refl;
}

-- a call that is carried out
spares_done : (s : FileSystem) (about : List ℕ → Bool) (device : Option ℕ) (e : FileEffect) (n : ℕ) → e.reply ≡ pos n
    → e.system.blocks ≡ s.blocks
    → ((name : List ℕ) → about name ≡ false → file_named name e.system.files ≡ file_named name s.files)
    → ((d : ℕ) → device ≢ Some d → open_at e.system d ≡ open_at s d) → Spares s about device e
spares_done s about device e n done blocks same devices = record {
  blocks = blocks;
  unchanged = λ (r : e.reply ≡ SYSERR). absurd (not_negative n 0 (sym done ∙ r));
  ended = λ (r : e.reply ≡ EOF). absurd (not_negative n 1 (sym done ∙ r));
  others = same;
  devices = devices;
}
  where
    not_negative : (n m : ℕ) → pos n ≡ negsuc m → ⊥
    not_negative n m e = cc

-- another device is as it was
beside : (s : FileSystem) (d i : ℕ) (x : Option OpenFile) → Some d ≢ Some i → get_or (set s.devices d x) i None ≡ open_at s i
beside s d i x ne = get_or-set_other s.devices d i x None (λ (e : i ≡ d). ne (ap (λ n. Some n) (sym e)))

opens : (s : FileSystem) (name : List ℕ) (mode : OpenMode) → Spares s (bytes_eq name) (Some (free_device s.devices)) (open_file name mode s)
opens s name mode =
    cond_both (is_open name s || nat_le Nlfl (free_device s.devices)) (refused_effect s) (open_stored (file_named name s.files) name mode s)
    (Spares s (bytes_eq name) (Some (free_device s.devices)))
    (λ _. spares_all s (bytes_eq name) (Some (free_device s.devices)) SYSERR) (λ _. by_file (file_named name s.files))
  where
    by_file : (o : Option StoredFile) → Spares s (bytes_eq name) (Some (free_device s.devices)) (open_stored o name mode s)
    by_file (Some file) =
        cond_both mode.only_new (refused_effect s) (opened name mode s) (Spares s (bytes_eq name) (Some (free_device s.devices)))
        (λ _. spares_all s (bytes_eq name) (Some (free_device s.devices)) SYSERR)
        (λ _. spares_done s (bytes_eq name) (Some (free_device s.devices)) (opened name mode s) (4 + free_device s.devices) refl refl
        (λ other _. refl)
        (λ i ne. beside s (free_device s.devices) i (Some (opening name mode)) ne))
    by_file None =
        cond_both (mode.only_old || nat_le LF_NUM_DIR_ENT (length s.files)) (refused_effect s) (opened name mode (with_created name s))
        (Spares s (bytes_eq name) (Some (free_device s.devices)))
        (λ _. spares_all s (bytes_eq name) (Some (free_device s.devices)) SYSERR)
        (λ _. spares_done s (bytes_eq name) (Some (free_device s.devices)) (opened name mode (with_created name s))
        (4 + free_device s.devices) refl refl
        (λ other d. other_stored (empty_file name) other s.files d)
        (λ i ne. beside s (free_device s.devices) i (Some (opening name mode)) ne))

deletes : (s : FileSystem) (name : List ℕ) → Spares s (bytes_eq name) None (delete_file name s)
deletes s name =
    cond_both (is_open name s || not (is_some (file_named name s.files))) (refused_effect s)
    (replies OK (record s { files = without_file name s.files })) (Spares s (bytes_eq name) None)
    (λ _. spares_all s (bytes_eq name) None SYSERR)
    (λ _. spares_done s (bytes_eq name) None (replies OK (record s { files = without_file name s.files })) 0 refl refl
    (λ other d. other_without name other s.files d) (λ i _. refl))

-- a call on a device
on_device : (s : FileSystem) (d : ℕ) (x : Option OpenFile) (effect : OpenFile → FileEffect)
    → ((f : OpenFile) → Spares s (bytes_eq f.name) (Some d) (effect f)) → Spares s (λ name. has_open name x) (Some d) (on_open x effect s)
on_device s d None effect spares = spares_all s (λ name. has_open name None) (Some d) SYSERR
on_device s d (Some f) effect spares = spares f

reads : (s : FileSystem) (d n : ℕ) (f : OpenFile) → Spares s (bytes_eq f.name) (Some d) (read_file d n f s)
reads s d n f =
    cond_both (not f.may_read) (refused_effect s) _ (Spares s (bytes_eq f.name) (Some d))
    (λ _. spares_all s (bytes_eq f.name) (Some d) SYSERR)
    (λ _. cond_both (n == 0) (replies OK s) _ (Spares s (bytes_eq f.name) (Some d)) (λ _. spares_all s (bytes_eq f.name) (Some d) OK)
    (λ _. cond_both (nat_le (length (open_bytes f s)) f.position) (replies EOF s) (taken (bytes_ahead n f s) d f s)
    (Spares s (bytes_eq f.name) (Some d))
    (λ _. spares_all s (bytes_eq f.name) (Some d) EOF)
    (λ _. spares_done s (bytes_eq f.name) (Some d) (taken (bytes_ahead n f s) d f s) (length (bytes_ahead n f s)) refl refl
    (λ other _. refl)
    (λ i ne. beside s d i (Some (record f { position = f.position + length (bytes_ahead n f s) })) ne))))

gets : (s : FileSystem) (d : ℕ) (f : OpenFile) → Spares s (bytes_eq f.name) (Some d) (getc_file d f s)
gets s d f =
    cond_both (not f.may_read) (refused_effect s) (first_byte (bytes_ahead 1 f s) d f s) (Spares s (bytes_eq f.name) (Some d))
    (λ _. spares_all s (bytes_eq f.name) (Some d) SYSERR) (λ _. by_bytes (bytes_ahead 1 f s))
  where
    by_bytes : (l : List ℕ) → Spares s (bytes_eq f.name) (Some d) (first_byte l d f s)
    by_bytes [] = spares_all s (bytes_eq f.name) (Some d) EOF
    by_bytes (b ∷ bytes) = spares_done s (bytes_eq f.name) (Some d) (first_byte (b ∷ bytes) d f s) b refl refl (λ other _. refl)
        (λ i ne. beside s d i (Some (record f { position = f.position + 1 })) ne)

seeks : (s : FileSystem) (d : ℕ) (n : ℤ) (f : OpenFile) → Spares s (bytes_eq f.name) (Some d) (seek_file d n f s)
seeks s d (negsuc n) f = spares_all s (bytes_eq f.name) (Some d) SYSERR
seeks s d (pos n) f =
    cond_both (nat_lt (length (open_bytes f s)) n) (refused_effect s) (replies OK (moved d f n s))
    (Spares s (bytes_eq f.name) (Some d))
    (λ _. spares_all s (bytes_eq f.name) (Some d) SYSERR)
    (λ _. spares_done s (bytes_eq f.name) (Some d) (replies OK (moved d f n s)) 0 refl refl (λ other _. refl)
    (λ i ne. beside s d i (Some (record f { position = n })) ne))

writes : (s : FileSystem) (d : ℕ) (bytes : List ℕ) (f : OpenFile) → Spares s (bytes_eq f.name) (Some d) (write_file d bytes f s)
writes s d bytes f =
    let k = fitting f bytes s in
    cond_both (not f.may_write || (nat_lt 0 (length bytes) && (k == 0))) (refused_effect s)
    (replies (pos k) (put_bytes (take k bytes) d f s))
    (Spares s (bytes_eq f.name) (Some d))
    (λ _. spares_all s (bytes_eq f.name) (Some d) SYSERR)
    (λ _. spares_done s (bytes_eq f.name) (Some d) (replies (pos k) (put_bytes (take k bytes) d f s)) k refl refl
    (λ other no. named_beside f.name other (overwritten f.position (take k bytes) (open_bytes f s)) s.files no)
    (λ i ne. beside s d i (Some (record f { position = f.position + length (take k bytes) })) ne))

puts : (s : FileSystem) (d b : ℕ) (f : OpenFile) → Spares s (bytes_eq f.name) (Some d) (putc_file d b f s)
puts s d b f =
    cond_both (not f.may_write || not (have_room f (b ∷ []) s)) (refused_effect s) (replies OK (put_bytes (b ∷ []) d f s))
    (Spares s (bytes_eq f.name) (Some d))
    (λ _. spares_all s (bytes_eq f.name) (Some d) SYSERR)
    (λ _. spares_done s (bytes_eq f.name) (Some d) (replies OK (put_bytes (b ∷ []) d f s)) 0 refl refl
    (λ other no. named_beside f.name other (overwritten f.position (b ∷ []) (open_bytes f s)) s.files no)
    (λ i ne. beside s d i (Some (record f { position = f.position + 1 })) ne))

truncates : (s : FileSystem) (d : ℕ) (f : OpenFile) → Spares s (bytes_eq f.name) (Some d) (truncate_file d f s)
truncates s d f =
    cond_both (not f.may_write) (refused_effect s) (replies OK (record (moved d f 0 s) { files = with_contents f.name [] s.files }))
    (Spares s (bytes_eq f.name) (Some d))
    (λ _. spares_all s (bytes_eq f.name) (Some d) SYSERR)
    (λ _. spares_done s (bytes_eq f.name) (Some d)
    (replies OK (record (moved d f 0 s) { files = with_contents f.name [] s.files })) 0 refl refl
    (λ other no. named_beside f.name other [] s.files no)
    (λ i ne. beside s d i (Some (record f { position = 0 })) ne))

-- Each call.
pub effect_spares : (call : FileCall) (bytes : List ℕ) (s : FileSystem)
    → Spares s (λ name. is_about name call s) (device_of call s) (file_effect call bytes s)
effect_spares (Open name mode) bytes s = opens s name mode
effect_spares (Delete name) bytes s = deletes s name
effect_spares (Close d) bytes s =
    on_device s d (open_at s d) (λ f. close_file d f s)
    (λ f. spares_done s (bytes_eq f.name) (Some d) (close_file d f s) 0 refl refl (λ other _. refl) (λ i ne. beside s d i None ne))
effect_spares (Read d n) bytes s = on_device s d (open_at s d) (λ f. read_file d n f s) (reads s d n)
effect_spares (Write d n) bytes s = on_device s d (open_at s d) (λ f. write_file d bytes f s) (writes s d bytes)
effect_spares (Getc d) bytes s = on_device s d (open_at s d) (λ f. getc_file d f s) (gets s d)
effect_spares (Putc d b) bytes s = on_device s d (open_at s d) (λ f. putc_file d b f s) (puts s d b)
effect_spares (Seek d n) bytes s = on_device s d (open_at s d) (λ f. seek_file d n f s) (seeks s d n)
effect_spares (Truncate d) bytes s = on_device s d (open_at s d) (λ f. truncate_file d f s) (truncates s d)
effect_spares (Size d) bytes s =
    on_device s d (open_at s d) (λ f. size_of_file f s) (λ f. spares_all s (bytes_eq f.name) (Some d) (pos (length (open_bytes f s))))

-- A file that was deleted is gone.
pub deleted_is_gone : (name : List ℕ) (s : FileSystem) → (delete_file name s).reply ≡ OK
    → file_named name (delete_file name s).system.files ≡ None
deleted_is_gone name s e =
    cond_both (is_open name s || not (is_some (file_named name s.files))) (refused_effect s)
    (replies OK (record s { files = without_file name s.files }))
    (λ (x : FileEffect). x.reply ≡ OK → file_named name x.system.files ≡ None) (λ _ h. cc) (λ _ _. named_without name s.files) e

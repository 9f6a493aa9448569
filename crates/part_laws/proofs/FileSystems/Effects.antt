-- Each effect keeps the files and the open devices sound.
use Rattle.std.proofs.Common.{◌≡◌, ℕ, ◌+◌, ◌<◌, ◌≤◌, ◌==◌, true, false, not, ◌&&◌, ◌||◌, List, [], ◌∷◌, ◌++◌, length, take, drop, length-set, bytes_eq, Option, Some, None, is_some, ℤ, pos, negsuc, refl, sym, ap, ◌∙◌, subst, arith, ⊎_elim, take-append-drop}
use Rattle.std.specs.Prelude.{nat_le, nat_lt}
use Rattle.std.specs.List.{AllByRecursion}
use Rattle.std.proofs.lemmas.Bool.{cond_both, or_parts, not-false, leb-false, ltb-false}
use Rattle.std.proofs.lemmas.List.{length-append, length-take, length-drop}
use Rattle.xinu_base.specs.Constants.{OK}
use Rattle.xinu_base.specs.declared.files.OpenMode.{OpenMode}
use Rattle.part_laws.proofs.FileSystems.Devices.{at_each, none_counted, device_beside, has_file, others_differ, not_open, once_written}
use Rattle.part_laws.proofs.FileSystems.Orders.{same_bytes}
use Rattle.part_laws.proofs.FileSystems.Rooms.{fit_empty, fit_emptied, fit_without, greatest_passes}
use Rattle.part_laws.proofs.FileSystems.Stored.{renewed, names_rewritten, count_rewritten, named_rewritten, named_beside, own_rewritten, count_stored, all_stored, order_stored, named_stored, other_stored, names_without, count_without, other_without}
use Rattle.table_laws.proofs.Lists.Maps.{one}
use Rattle.table_laws.proofs.Lists.Orders.{all_filter, order_filter}
use Rattle.xinu_model.specs.Files.Constants.{LF_NUM_DIR_ENT, Nlfl}
use Rattle.xinu_model.specs.Files.Calls.{FileCall, Open, Delete, Close, Read, Write, Getc, Putc, Seek, Truncate, Size, file_effect}
use Rattle.xinu_model.specs.Files.Opening.{opening, opened, with_created, open_stored, open_file, close_file, delete_file}
use Rattle.xinu_model.specs.Files.Reading.{bytes_ahead, taken, read_file, first_byte, getc_file, seek_file, size_of_file}
use Rattle.xinu_model.specs.Files.Room.{they_fit}
use Rattle.xinu_model.specs.Files.Sound.{IsOpened, IsDevice, IsSoundFiles, IsFileCall}
use Rattle.xinu_model.specs.Files.Stored.{StoredFile, empty_file, is_file_name, precedes, file_names, file_named, bytes_in, with_stored, with_contents, without_file}
use Rattle.xinu_model.specs.Files.Systems.{OpenFile, FileSystem, FileEffect, open_at, has_open, is_open, free_device, open_bytes, with_device, moved, replies, refused_effect, on_open}
use Rattle.xinu_model.specs.Files.Writing.{overwritten, files_with, have_room, fitting, put_bytes, write_file, putc_file, truncate_file}
use Rattle.xinu_model.specs.Sound.Tables.{times, IsInOrder}

-- the files of a sound state, with their sizes
pub file_of : (s : FileSystem) → IsSoundFiles s → (d : ℕ) (f : OpenFile) → open_at s d ≡ Some f
    → (file : StoredFile) × ((file_named f.name s.files ≡ Some file) × (f.position ≤ length file.bytes))
file_of s sound d f at = has_file s.files f (subst (IsDevice s.files) at (sound.device d))

-- A device is at another position in a file that may have got other bytes.
sound_changed : (s : FileSystem) (d : ℕ) (f : OpenFile) (position : ℕ) (files : List StoredFile) → open_at s d ≡ Some f
    → file_names files ≡ file_names s.files → length files ≡ length s.files → they_fit s.blocks files ≡ true
    → IsOpened (file_named f.name files) (record f { position = position })
    → ((other : List ℕ) → bytes_eq f.name other ≡ false → file_named other files ≡ file_named other s.files)
    → IsSoundFiles s → IsSoundFiles (record (moved d f position s) { files = files })
sound_changed s d f position files at names count fit within beside sound =
    let few = sound.few in
    record {
      names = subst (AllByRecursion (λ name. is_file_name name ≡ true)) (sym names) sound.names;
      order = subst (IsInOrder (λ name other. precedes name other ≡ true)) (sym names) sound.order;
      few = omega (arith, count, few);
      fit = fit;
      six = length-set s.devices d (Some (record f { position = position })) ∙ sound.six;
      device = at_each (IsDevice files) s.devices d (Some (record f { position = position })) None tt within
          (λ e ne. device_beside s.files files (open_at s e) (λ g here. beside g.name (others_differ s sound d e f g ne at here))
          (sound.device e));
      once = λ name. once_written s.devices d (Some (record f { position = position })) name (sound.once name)
          (λ has. let b = ap (λ x. one (has_open name x)) at in let c = ap one has in let few = sound.once name in
          omega (arith, b, c, few));
    }

-- a device at another position in its file
sound_moved : (s : FileSystem) (d : ℕ) (f : OpenFile) (position : ℕ) → open_at s d ≡ Some f → position ≤ length (open_bytes f s)
    → IsSoundFiles s → IsSoundFiles (moved d f position s)
sound_moved s d f position at within sound =
    let has = file_of s sound d f at in
    sound_changed s d f position s.files at refl refl sound.fit
    (subst (λ o. IsOpened o (record f { position = position })) (sym has.1.0) (subst (λ o. position ≤ length (bytes_in o)) has.1.0 within))
    (λ other _. refl) sound

-- its file has got other bytes
sound_contents : (s : FileSystem) (d : ℕ) (f : OpenFile) (position : ℕ) (bytes : List ℕ) → open_at s d ≡ Some f → position ≤ length bytes
    → they_fit s.blocks (with_contents f.name bytes s.files) ≡ true → IsSoundFiles s
    → IsSoundFiles (record (moved d f position s) { files = with_contents f.name bytes s.files })
sound_contents s d f position bytes at within fit sound =
    let has = file_of s sound d f at in
    sound_changed s d f position (with_contents f.name bytes s.files) at (names_rewritten f.name bytes s.files)
    (count_rewritten f.name bytes s.files) fit
    (subst (λ o. IsOpened o (record f { position = position }))
    (sym (named_rewritten f.name bytes s.files ∙ ap (λ o. renewed bytes o) has.1.0)) within)
    (λ other d. named_beside f.name other bytes s.files d) sound

-- a file that isn't open is made
sound_created : (s : FileSystem) (name : List ℕ) → is_file_name name ≡ true → is_open name s ≡ false → file_named name s.files ≡ None
    → length s.files < LF_NUM_DIR_ENT → IsSoundFiles s → IsSoundFiles (with_created name s)
sound_created s name right closed none room sound =
    let count = count_stored (empty_file name) s.files in
    record {
      names = all_stored (λ n. is_file_name n ≡ true) (empty_file name) s.files right sound.names;
      order = order_stored (empty_file name) s.files none sound.order;
      few = omega (arith, count, room);
      fit = fit_empty s.blocks name s.files sound.fit;
      six = sound.six;
      device = λ e. device_beside s.files (with_stored (empty_file name) s.files) (open_at s e)
          (λ g at. other_stored (empty_file name) g.name s.files (not_open name s closed e g at)) (sound.device e);
      once = sound.once;
    }

-- a file that isn't open is opened
sound_opened : (s : FileSystem) (name : List ℕ) (mode : OpenMode) (file : StoredFile) → is_open name s ≡ false
    → file_named name s.files ≡ Some file
    → IsSoundFiles s → IsSoundFiles (opened name mode s).system
sound_opened s name mode file closed there sound =
    let d = free_device s.devices in
    record {
      names = sound.names;
      order = sound.order;
      few = sound.few;
      fit = sound.fit;
      six = length-set s.devices d (Some (opening name mode)) ∙ sound.six;
      device = at_each (IsDevice s.files) s.devices d (Some (opening name mode)) None tt
          (subst (λ o. IsOpened o (opening name mode)) (sym there) (let z : 0 ≤ length file.bytes = omega arith in z))
          (λ e _. sound.device e);
      once = λ other. once_written s.devices d (Some (opening name mode)) other (sound.once other)
          (λ has. let n : times (has_open other) s.devices ≡ 0 = none_counted (has_open other) s.devices
          (subst (λ n. is_open n s ≡ false) (same_bytes name other has) closed) in omega (arith, n));
    }

-- a device has nothing open any longer
sound_closed : (s : FileSystem) (d : ℕ) → IsSoundFiles s → IsSoundFiles (with_device d None s)
sound_closed s d sound = record {
  names = sound.names;
  order = sound.order;
  few = sound.few;
  fit = sound.fit;
  six = length-set s.devices d None ∙ sound.six;
  device = at_each (IsDevice s.files) s.devices d None None tt tt (λ e _. sound.device e);
  once = λ name. once_written s.devices d None name (sound.once name) (λ has. cc);
}

-- a file that isn't open is deleted
sound_deleted : (s : FileSystem) (name : List ℕ) → is_open name s ≡ false → IsSoundFiles s
    → IsSoundFiles (record s { files = without_file name s.files })
sound_deleted s name closed sound =
    let count = count_without name s.files in
    let few = sound.few in
    record {
      names = subst (AllByRecursion (λ n. is_file_name n ≡ true)) (sym (names_without name s.files))
          (all_filter (λ n. is_file_name n ≡ true) (λ n. not (bytes_eq n name)) (file_names s.files) sound.names);
      order = subst (IsInOrder (λ n other. precedes n other ≡ true)) (sym (names_without name s.files))
          (order_filter (λ n other. precedes n other ≡ true) (λ n. not (bytes_eq n name)) (file_names s.files) sound.order);
      few = omega (arith, count, few);
      fit = fit_without s.blocks name s.files sound.fit;
      six = sound.six;
      device = λ e. device_beside s.files (without_file name s.files) (open_at s e)
          (λ g at. other_without name g.name s.files (not_open name s closed e g at)) (sound.device e);
      once = sound.once;
    }

-- bytes that are put at a position up to the end make none shorter
pub overwritten_size : (position : ℕ) (new old : List ℕ) → position ≤ length old
    → position + length new ≤ length (overwritten position new old)
overwritten_size position new old within =
    let a = length-append (take position old) (new ++ drop (position + length new) old) in
    let b = length-append new (drop (position + length new) old) in
    let c = length-take position old in
    omega (arith, a, b, c, within)

-- no bytes change nothing
overwritten_nothing : (position : ℕ) (old : List ℕ) → overwritten position [] old ≡ old
overwritten_nothing position old =
    let same : position + 0 ≡ position = omega arith in
    ap (λ n. take position old ++ drop n old) same ∙ take-append-drop position old

-- there is room for what is found to fit
pub room_for_fitting : (s : FileSystem) → IsSoundFiles s → (d : ℕ) (f : OpenFile) → open_at s d ≡ Some f → (bytes : List ℕ)
    → have_room f (take (fitting f bytes s) bytes) s ≡ true
room_for_fitting s sound d f at bytes =
    ⊎_elim
    (λ none. ap (λ k. have_room f (take k bytes) s) none ∙ ap (they_fit s.blocks) nothing_put ∙ sound.fit) (λ e. e)
    (greatest_passes (λ k. have_room f (take k bytes) s) (length bytes))
  where
    nothing_put : files_with f [] s ≡ s.files
    nothing_put =
        let has = file_of s sound d f at in
        ap (λ b. with_contents f.name b s.files) (overwritten_nothing f.position (open_bytes f s) ∙ ap bytes_in has.1.0)
        ∙ own_rewritten f.name has.0 s.files sound.order has.1.0

sound_put : (s : FileSystem) (d : ℕ) (f : OpenFile) (new : List ℕ) → open_at s d ≡ Some f → have_room f new s ≡ true → IsSoundFiles s
    → IsSoundFiles (put_bytes new d f s)
sound_put s d f new at room sound =
    let has = file_of s sound d f at in
    let within : f.position ≤ length (open_bytes f s) = subst (λ o. f.position ≤ length (bytes_in o)) (sym has.1.0) has.1.1 in
    sound_contents s d f (f.position + length new) (overwritten f.position new (open_bytes f s)) at
    (overwritten_size f.position new (open_bytes f s) within) room sound

-- the system after an effect is sound
abbrev Keeps : FileEffect → Type 0
Keeps e = IsSoundFiles e.system

opens : (s : FileSystem) → IsSoundFiles s → (name : List ℕ) (mode : OpenMode) → is_file_name name ≡ true → Keeps (open_file name mode s)
opens s sound name mode right =
    cond_both (is_open name s || nat_le Nlfl (free_device s.devices)) (refused_effect s)
    (open_stored (file_named name s.files) name mode s) Keeps
    (λ _. sound) (λ e. by_file (file_named name s.files) refl (or_parts (is_open name s) (nat_le Nlfl (free_device s.devices)) e).0)
  where
    by_file : (o : Option StoredFile) → file_named name s.files ≡ o → is_open name s ≡ false → Keeps (open_stored o name mode s)
    by_file (Some file) at closed =
        cond_both mode.only_new (refused_effect s) (opened name mode s) Keeps (λ _. sound)
        (λ _. sound_opened s name mode file closed at sound)
    by_file None at closed =
        cond_both (mode.only_old || nat_le LF_NUM_DIR_ENT (length s.files)) (refused_effect s)
        (opened name mode (with_created name s)) Keeps
        (λ _. sound)
        (λ e. sound_opened (with_created name s) name mode (empty_file name) closed (named_stored (empty_file name) s.files at)
        (sound_created s name right closed at (leb-false LF_NUM_DIR_ENT (length s.files)
        (or_parts mode.only_old (nat_le LF_NUM_DIR_ENT (length s.files)) e).1) sound))

deletes : (s : FileSystem) → IsSoundFiles s → (name : List ℕ) → Keeps (delete_file name s)
deletes s sound name =
    cond_both (is_open name s || not (is_some (file_named name s.files))) (refused_effect s)
    (replies (pos 0) (record s { files = without_file name s.files })) Keeps
    (λ _. sound) (λ e. sound_deleted s name (or_parts (is_open name s) (not (is_some (file_named name s.files))) e).0 sound)

-- a call on a device
on_device : (s : FileSystem) → IsSoundFiles s → (d : ℕ) (effect : OpenFile → FileEffect)
    → ((f : OpenFile) → open_at s d ≡ Some f → f.position ≤ length (open_bytes f s) → Keeps (effect f))
    → Keeps (on_open (open_at s d) effect s)
on_device s sound d effect keeps = by_device (open_at s d) refl
  where
    by_device : (x : Option OpenFile) → open_at s d ≡ x → Keeps (on_open x effect s)
    by_device None at = sound
    by_device (Some f) at =
        let has = file_of s sound d f at in keeps f at (subst (λ o. f.position ≤ length (bytes_in o)) (sym has.1.0) has.1.1)

-- so many bytes ahead are no more than there are
pub ahead_within : (s : FileSystem) (f : OpenFile) (n : ℕ) → f.position ≤ length (open_bytes f s)
    → f.position + length (bytes_ahead n f s) ≤ length (open_bytes f s)
ahead_within s f n within =
    let a = length-take n (drop f.position (open_bytes f s)) in
    let b = length-drop f.position (open_bytes f s) in
    omega (arith, a, b, within)

read_keeps : (s : FileSystem) → IsSoundFiles s → (d n : ℕ) (f : OpenFile) → open_at s d ≡ Some f → f.position ≤ length (open_bytes f s)
    → Keeps (read_file d n f s)
read_keeps s sound d n f at within =
    cond_both (not f.may_read) (refused_effect s) _ Keeps (λ _. sound)
    (λ _. cond_both (n == 0) (replies (pos 0) s) _ Keeps (λ _. sound)
    (λ _. cond_both (nat_le (length (open_bytes f s)) f.position) (replies (negsuc 1) s) (taken (bytes_ahead n f s) d f s) Keeps
    (λ _. sound)
    (λ _. sound_moved s d f (f.position + length (bytes_ahead n f s)) at (ahead_within s f n within) sound)))

getc_keeps : (s : FileSystem) → IsSoundFiles s → (d : ℕ) (f : OpenFile) → open_at s d ≡ Some f → f.position ≤ length (open_bytes f s)
    → Keeps (getc_file d f s)
getc_keeps s sound d f at within =
    cond_both (not f.may_read) (refused_effect s) _ Keeps (λ _. sound) (λ _. by_bytes (bytes_ahead 1 f s) refl)
  where
    by_bytes : (l : List ℕ) → bytes_ahead 1 f s ≡ l → Keeps (first_byte l d f s)
    by_bytes [] e = sound
    by_bytes (b ∷ bytes) e =
        let most = ahead_within s f 1 within in
        let size = ap length e in
        sound_moved s d f (f.position + 1) at (omega (arith, most, size)) sound

seek_keeps : (s : FileSystem) → IsSoundFiles s → (d : ℕ) (n : ℤ) (f : OpenFile) → open_at s d ≡ Some f → Keeps (seek_file d n f s)
seek_keeps s sound d (negsuc n) f at = sound
seek_keeps s sound d (pos n) f at =
    cond_both (nat_lt (length (open_bytes f s)) n) (refused_effect s) (replies OK (moved d f n s)) Keeps (λ _. sound)
    (λ e. sound_moved s d f n at (ltb-false (length (open_bytes f s)) n e) sound)

write_keeps : (s : FileSystem) → IsSoundFiles s → (d : ℕ) (bytes : List ℕ) (f : OpenFile) → open_at s d ≡ Some f
    → Keeps (write_file d bytes f s)
write_keeps s sound d bytes f at =
    let k = fitting f bytes s in
    cond_both (not f.may_write || (nat_lt 0 (length bytes) && (k == 0))) (refused_effect s)
    (replies (pos k) (put_bytes (take k bytes) d f s)) Keeps
    (λ _. sound) (λ _. sound_put s d f (take k bytes) at (room_for_fitting s sound d f at bytes) sound)

putc_keeps : (s : FileSystem) → IsSoundFiles s → (d b : ℕ) (f : OpenFile) → open_at s d ≡ Some f → Keeps (putc_file d b f s)
putc_keeps s sound d b f at =
    cond_both (not f.may_write || not (have_room f (b ∷ []) s)) (refused_effect s) (replies (pos 0) (put_bytes (b ∷ []) d f s)) Keeps
    (λ _. sound)
    (λ e. sound_put s d f (b ∷ []) at (not-false (have_room f (b ∷ []) s)
    (or_parts (not f.may_write) (not (have_room f (b ∷ []) s)) e).1) sound)

truncate_keeps : (s : FileSystem) → IsSoundFiles s → (d : ℕ) (f : OpenFile) → open_at s d ≡ Some f → Keeps (truncate_file d f s)
truncate_keeps s sound d f at =
    cond_both (not f.may_write) (refused_effect s)
    (replies (pos 0) (record (moved d f 0 s) { files = with_contents f.name [] s.files })) Keeps
    (λ _. sound)
    (λ _. sound_contents s d f 0 [] at (let z : 0 ≤ 0 = omega arith in z) (fit_emptied s.blocks f.name s.files sound.fit) sound)

-- Each effect keeps what always holds.
pub effect_keeps : (call : FileCall) (bytes : List ℕ) (s : FileSystem) → IsFileCall call → IsSoundFiles s
    → IsSoundFiles (file_effect call bytes s).system
effect_keeps (Open name mode) bytes s right sound = opens s sound name mode right
effect_keeps (Delete name) bytes s right sound = deletes s sound name
effect_keeps (Close d) bytes s right sound = on_device s sound d (λ f. close_file d f s) (λ f at within. sound_closed s d sound)
effect_keeps (Read d n) bytes s right sound = on_device s sound d (λ f. read_file d n f s)
    (λ f at within. read_keeps s sound d n f at within)
effect_keeps (Write d n) bytes s right sound = on_device s sound d (λ f. write_file d bytes f s)
    (λ f at within. write_keeps s sound d bytes f at)
effect_keeps (Getc d) bytes s right sound = on_device s sound d (λ f. getc_file d f s) (λ f at within. getc_keeps s sound d f at within)
effect_keeps (Putc d b) bytes s right sound = on_device s sound d (λ f. putc_file d b f s) (λ f at within. putc_keeps s sound d b f at)
effect_keeps (Seek d n) bytes s right sound = on_device s sound d (λ f. seek_file d n f s) (λ f at within. seek_keeps s sound d n f at)
effect_keeps (Truncate d) bytes s right sound = on_device s sound d (λ f. truncate_file d f s)
    (λ f at within. truncate_keeps s sound d f at)
effect_keeps (Size d) bytes s right sound = on_device s sound d (λ f. size_of_file f s) (λ f at within. sound)

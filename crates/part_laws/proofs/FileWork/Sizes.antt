-- How many bytes an effect brings to RAM, and that RAM keeps its size.
use Rattle.std.proofs.Common.{◌≡◌, ℕ, ◌+◌, ◌≤◌, ◌==◌, not, ◌&&◌, ◌||◌, List, [], ◌∷◌, ◌++◌, length, take, drop, Option, Some, None, is_some, ℤ, pos, negsuc, refl, arith}
use Rattle.std.specs.Prelude.{nat_le, nat_lt}
use Rattle.std.proofs.lemmas.Bool.{cond_both}
use Rattle.std.proofs.lemmas.List.{length-append, length-take, length-drop}
use Rattle.xinu_base.specs.Constants.{OK, EOF}
use Rattle.xinu_base.specs.declared.files.OpenMode.{OpenMode}
use Rattle.xinu_model.specs.Files.Calls.{FileCall, Open, Delete, Close, Read, Write, Getc, Putc, Seek, Truncate, Size, file_effect}
use Rattle.xinu_model.specs.Files.Constants.{LF_NUM_DIR_ENT, Nlfl}
use Rattle.xinu_model.specs.Files.Opening.{opened, with_created, open_stored, open_file, close_file, delete_file}
use Rattle.xinu_model.specs.Files.Reading.{bytes_ahead, taken, read_file, first_byte, getc_file, seek_file, size_of_file}
use Rattle.xinu_model.specs.Files.Stored.{StoredFile, file_named, with_contents, without_file}
use Rattle.xinu_model.specs.Files.Systems.{OpenFile, FileSystem, FileEffect, open_at, is_open, free_device, open_bytes, moved, replies, refused_effect, on_open}
use Rattle.xinu_model.specs.Files.Work.{copied}
use Rattle.xinu_model.specs.Files.Writing.{have_room, fitting, put_bytes, write_file, putc_file, truncate_file}

-- how many bytes a call may bring
abbrev pub brings : FileCall → ℕ
brings (Read d n) = n
brings _ = 0

-- at most so many bytes are brought
abbrev Few : ℕ → FileEffect → Type 0
Few n e = length e.bytes ≤ n

none : 0 ≤ 0
none = omega arith

opens : (name : List ℕ) (mode : OpenMode) (s : FileSystem) → Few 0 (open_file name mode s)
opens name mode s =
    cond_both (is_open name s || nat_le Nlfl (free_device s.devices)) (refused_effect s) (open_stored (file_named name s.files) name mode s)
    (Few 0)
    (λ _. none) (λ _. by_file (file_named name s.files))
  where
    by_file : (o : Option StoredFile) → Few 0 (open_stored o name mode s)
    by_file None =
        cond_both (mode.only_old || nat_le LF_NUM_DIR_ENT (length s.files)) (refused_effect s) (opened name mode (with_created name s))
        (Few 0)
        (λ _. none) (λ _. none)
    by_file (Some f) = cond_both mode.only_new (refused_effect s) (opened name mode s) (Few 0) (λ _. none) (λ _. none)

deletes : (name : List ℕ) (s : FileSystem) → Few 0 (delete_file name s)
deletes name s =
    cond_both (is_open name s || not (is_some (file_named name s.files))) (refused_effect s)
    (replies OK (record s { files = without_file name s.files })) (Few 0) (λ _. none) (λ _. none)

on_device : (n : ℕ) (x : Option OpenFile) (effect : OpenFile → FileEffect) (s : FileSystem) → ((f : OpenFile) → Few n (effect f))
    → Few n (on_open x effect s)
on_device n None effect s few = (let z : 0 ≤ n = omega arith in z)
on_device n (Some f) effect s few = few f

reads : (d n : ℕ) (f : OpenFile) (s : FileSystem) → Few n (read_file d n f s)
reads d n f s =
    let z : 0 ≤ n = omega arith in
    let t = length-take n (drop f.position (open_bytes f s)) in
    cond_both (not f.may_read) (refused_effect s) _ (Few n) (λ _. z)
    (λ _. cond_both (n == 0) (replies OK s) _ (Few n) (λ _. z)
    (λ _. cond_both (nat_le (length (open_bytes f s)) f.position) (replies EOF s) (taken (bytes_ahead n f s) d f s) (Few n) (λ _. z)
    (λ _. omega (arith, t))))

gets : (d : ℕ) (f : OpenFile) (s : FileSystem) → Few 0 (getc_file d f s)
gets d f s =
    cond_both (not f.may_read) (refused_effect s) (first_byte (bytes_ahead 1 f s) d f s) (Few 0) (λ _. none)
    (λ _. by_bytes (bytes_ahead 1 f s))
  where
    by_bytes : (l : List ℕ) → Few 0 (first_byte l d f s)
    by_bytes [] = none
    by_bytes (b ∷ bytes) = none

seeks : (d : ℕ) (n : ℤ) (f : OpenFile) (s : FileSystem) → Few 0 (seek_file d n f s)
seeks d (negsuc n) f s = none
seeks d (pos n) f s =
    cond_both (nat_lt (length (open_bytes f s)) n) (refused_effect s) (replies OK (moved d f n s)) (Few 0) (λ _. none) (λ _. none)

writes : (d : ℕ) (bytes : List ℕ) (f : OpenFile) (s : FileSystem) → Few 0 (write_file d bytes f s)
writes d bytes f s =
    let k = fitting f bytes s in
    cond_both (not f.may_write || (nat_lt 0 (length bytes) && (k == 0))) (refused_effect s)
    (replies (pos k) (put_bytes (take k bytes) d f s))
    (Few 0)
    (λ _. none) (λ _. none)

puts : (d b : ℕ) (f : OpenFile) (s : FileSystem) → Few 0 (putc_file d b f s)
puts d b f s =
    cond_both (not f.may_write || not (have_room f (b ∷ []) s)) (refused_effect s) (replies OK (put_bytes (b ∷ []) d f s)) (Few 0)
    (λ _. none) (λ _. none)

truncates : (d : ℕ) (f : OpenFile) (s : FileSystem) → Few 0 (truncate_file d f s)
truncates d f s =
    cond_both (not f.may_write) (refused_effect s) (replies OK (record (moved d f 0 s) { files = with_contents f.name [] s.files })) (Few 0)
    (λ _. none) (λ _. none)

-- Each call.
pub effect_brings : (call : FileCall) (bytes : List ℕ) (s : FileSystem) → length (file_effect call bytes s).bytes ≤ brings call
effect_brings (Open name mode) bytes s = opens name mode s
effect_brings (Delete name) bytes s = deletes name s
effect_brings (Close d) bytes s = on_device 0 (open_at s d) (λ f. close_file d f s) s (λ _. none)
effect_brings (Read d n) bytes s = on_device n (open_at s d) (λ f. read_file d n f s) s (λ f. reads d n f s)
effect_brings (Write d n) bytes s =
    on_device 0 (open_at s d) (λ f. write_file d bytes f s) s (λ f. writes d bytes f s)
effect_brings (Getc d) bytes s = on_device 0 (open_at s d) (λ f. getc_file d f s) s (λ f. gets d f s)
effect_brings (Putc d b) bytes s =
    on_device 0 (open_at s d) (λ f. putc_file d b f s) s (λ f. puts d b f s)
effect_brings (Seek d n) bytes s = on_device 0 (open_at s d) (λ f. seek_file d n f s) s (λ f. seeks d n f s)
effect_brings (Truncate d) bytes s =
    on_device 0 (open_at s d) (λ f. truncate_file d f s) s (λ f. truncates d f s)
effect_brings (Size d) bytes s = on_device 0 (open_at s d) (λ f. size_of_file f s) s (λ _. none)

-- RAM keeps its size as bytes come to addresses that there are, or none come.
pub copied_size : (caller : Option ℕ) (at n : ℕ) (bytes memory : List ℕ) → length bytes ≤ n → at + n ≤ length memory
    → length (copied caller at bytes memory) ≡ length memory
copied_size None at n bytes memory few within = refl
copied_size (Some p) at n bytes memory few within =
    let a = length-append (take at memory ++ bytes) (drop (at + length bytes) memory) in
    let b = length-append (take at memory) bytes in
    let c = length-take at memory in
    let d = length-drop (at + length bytes) memory in
    omega (arith, a, b, c, d, few, within)

pub nothing_copied : (caller : Option ℕ) (at : ℕ) (bytes memory : List ℕ) → length bytes ≤ 0
    → length (copied caller at bytes memory) ≡ length memory
nothing_copied None at bytes memory few = refl
nothing_copied (Some p) at bytes memory few =
    let a = length-append (take at memory ++ bytes) (drop (at + length bytes) memory) in
    let b = length-append (take at memory) bytes in
    let c = length-take at memory in
    let d = length-drop (at + length bytes) memory in
    omega (arith, a, b, c, d, few)

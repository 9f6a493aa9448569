-- What is written is read back, and a write is cut short only by what doesn't fit.
use Rattle.std.proofs.Common.{◌≡◌, ℕ, zero, suc, ◌+◌, ◌<◌, ◌≤◌, ◌==◌, true, false, not, ◌&&◌, ◌||◌, List, [], ◌∷◌, ◌++◌, length, take, drop, Option, Some, None, pos, refl, sym, ap, ◌∙◌, subst, arith, get_or, get_or-set_same, append_assoc}
use Rattle.std.specs.Prelude.{nat_le, nat_lt}
use Rattle.std.proofs.Math.Seq.{take-append_seam}
use Rattle.std.proofs.lemmas.Bool.{cond_both, cond-false, and_parts, lt-leb, le-ltb, ltb-true, eqb-true, ne_eqb}
use Rattle.std.proofs.lemmas.List.{length-append, length-take}
use Rattle.xinu_base.specs.Constants.{SYSERR}
use Rattle.part_laws.proofs.FileSystems.Effects.{overwritten_size, file_of}
use Rattle.part_laws.proofs.FileSystems.Rooms.{greatest_within, greater_fails}
use Rattle.part_laws.proofs.FileSystems.Stored.{renewed, named_rewritten}
use Rattle.xinu_model.specs.Files.Calls.{Read, Write, Seek, file_effect}
use Rattle.xinu_model.specs.Files.Reading.{bytes_ahead, taken, read_file, seek_file}
use Rattle.xinu_model.specs.Files.Sound.{IsSoundFiles}
use Rattle.xinu_model.specs.Files.Stored.{StoredFile, bytes_in}
use Rattle.xinu_model.specs.Files.Systems.{OpenFile, FileSystem, FileEffect, open_at, open_bytes, moved, replies, refused_effect, on_open}
use Rattle.xinu_model.specs.Files.Writing.{overwritten, files_with, have_room, fitting, put_bytes, write_file}

drop_take_append : (n : ℕ) (a b : List ℕ) → length a ≡ n → drop n (a ++ b) ≡ b
drop_take_append n [] b e = subst (λ k. drop k b ≡ b) e refl
drop_take_append n (x ∷ a) b e = subst (λ k. drop k ((x ∷ a) ++ b) ≡ b) e (drop_take_append (length a) a b refl)

-- the new bytes are at the position
pub bytes_put : (position : ℕ) (new old : List ℕ) → position ≤ length old
    → take (length new) (drop position (overwritten position new old)) ≡ new
bytes_put position new old within =
    let size : length (take position old) ≡ position = (let a = length-take position old in omega (arith, a, within)) in
    ap (take (length new)) (drop_take_append position (take position old) (new ++ drop (position + length new) old) size)
    ∙ take-append_seam new (drop (position + length new) old)

-- what a write that is carried out leaves
pub record Wrote (s : FileSystem) (d : ℕ) (f : OpenFile) (bytes : List ℕ) (k : ℕ) (e : FileEffect) : Type 0 where
  pub count : k ≡ fitting f bytes s
  pub system : e.system ≡ put_bytes (take k bytes) d f s

pub write_leaves : (s : FileSystem) (d : ℕ) (f : OpenFile) (bytes : List ℕ) (k : ℕ) → (write_file d bytes f s).reply ≡ pos k
    → Wrote s d f bytes k (write_file d bytes f s)
write_leaves s d f bytes k e =
    let n = fitting f bytes s in
    cond_both (not f.may_write || (nat_lt 0 (length bytes) && (n == 0))) (refused_effect s)
    (replies (pos n) (put_bytes (take n bytes) d f s))
    (λ (x : FileEffect). x.reply ≡ pos k → Wrote s d f bytes k x) (λ _ h. cc)
    (λ _ h. (let same : n ≡ k = cc in record { count = sym same; system = ap (λ m. put_bytes (take m bytes) d f s) same })) e

-- more bytes than were put have no room
pub more_has_no_room : (s : FileSystem) (f : OpenFile) (bytes : List ℕ) (k : ℕ) → fitting f bytes s < k → k ≤ length bytes
    → have_room f (take k bytes) s ≡ false
more_has_no_room s f bytes k more most = greater_fails (λ n. have_room f (take n bytes) s) (length bytes) k more most

-- a write is refused if it may not write, or nothing of it has room
pub refused_has_no_room : (s : FileSystem) (d : ℕ) (f : OpenFile) (bytes : List ℕ) → f.may_write ≡ true
    → (write_file d bytes f s).reply ≡ SYSERR
    → have_room f (take 1 bytes) s ≡ false
refused_has_no_room s d f bytes may e =
    let n = fitting f bytes s in
    cond_both (not f.may_write || (nat_lt 0 (length bytes) && (n == 0))) (refused_effect s)
    (replies (pos n) (put_bytes (take n bytes) d f s))
    (λ (x : FileEffect). x.reply ≡ SYSERR → have_room f (take 1 bytes) s ≡ false)
    (λ b _. (let none = sym (ap (λ m. not m || (nat_lt 0 (length bytes) && (n == 0))) may) ∙ b in
    let parts = and_parts (nat_lt 0 (length bytes)) (n == 0) none in
    let some : 0 < length bytes = ltb-true 0 (length bytes) parts.0 in
    let no : n ≡ 0 = eqb-true n 0 parts.1 in
    more_has_no_room s f bytes 1 (omega (arith, no)) (omega (arith, some)))) (λ _ h. cc) e

-- the device at its new position
pub moved_at : (s : FileSystem) (d : ℕ) (f g : OpenFile) (files : List StoredFile) (position : ℕ) → open_at s d ≡ Some f
    → open_at (record (moved d g position s) { files = files }) d ≡ Some (record g { position = position })
moved_at s d f g files position at = get_or-set_same s.devices d (Some (record g { position = position })) None (is_device s.devices d at)
  where
    is_device : (devices : List (Option OpenFile)) (d : ℕ) → get_or devices d None ≡ Some f → d < length devices
    is_device [] d at = cc
    is_device (x ∷ devices) zero at = omega arith
    is_device (x ∷ devices) (suc d) at = let rest = is_device devices d at in omega (arith, rest)

-- a read of bytes that there are
pub read_gives : (s : FileSystem) (d n : ℕ) (f : OpenFile) → open_at s d ≡ Some f → f.may_read ≡ true → 0 < n
    → f.position < length (open_bytes f s)
    → file_effect (Read d n) [] s ≡ taken (bytes_ahead n f s) d f s
read_gives s d n f at may some ahead =
    ap (λ x. on_open x (λ f. read_file d n f s) s) at
    ∙ cond-false (not f.may_read) _ _ (ap not may)
    ∙ cond-false (n == 0) _ _ (ne_eqb n 0 (λ (z : n ≡ 0). absurd (omega (arith, z, some))))
    ∙ cond-false (nat_le (length (open_bytes f s)) f.position) _ _ (lt-leb (length (open_bytes f s)) f.position ahead)

-- a seek up to the end
pub seek_moves : (s : FileSystem) (d n : ℕ) (f : OpenFile) → open_at s d ≡ Some f → n ≤ length (open_bytes f s)
    → file_effect (Seek d (pos n)) [] s ≡ replies (pos 0) (moved d f n s)
seek_moves s d n f at within =
    ap (λ x. on_open x (λ f. seek_file d (pos n) f s) s) at
    ∙ cond-false (nat_lt (length (open_bytes f s)) n) _ _ (le-ltb (length (open_bytes f s)) n within)

-- the bytes of the file after a write
pub written_content : (s : FileSystem) → IsSoundFiles s → (d : ℕ) (f : OpenFile) (new : List ℕ) → open_at s d ≡ Some f
    → open_bytes f (put_bytes new d f s) ≡ overwritten f.position new (open_bytes f s)
written_content s sound d f new at =
    let has = file_of s sound d f at in
    ap bytes_in (named_rewritten f.name (overwritten f.position new (open_bytes f s)) s.files
    ∙ ap (λ o. renewed (overwritten f.position new (open_bytes f s)) o) has.1.0)

-- written, sought and read
pub read_back : (s : FileSystem) → IsSoundFiles s → (d n k : ℕ) (f : OpenFile) (bytes : List ℕ) → open_at s d ≡ Some f
    → f.may_read ≡ true → 0 < k
    → (file_effect (Write d n) bytes s).reply ≡ pos k
    → (file_effect (Read d k) [] (file_effect (Seek d (pos f.position)) []
    (file_effect (Write d n) bytes s).system).system).bytes ≡ take k bytes
read_back s sound d n k f bytes at may some e =
    let new = take k bytes in
    let wrote : Wrote s d f bytes k (write_file d bytes f s) = write_leaves s d f bytes k
    (sym (ap (λ x. (on_open x (λ f. write_file d bytes f s) s).reply) at) ∙ e) in
    let after : FileSystem = put_bytes new d f s in
    let left : (file_effect (Write d n) bytes s).system ≡ after = ap (λ x. (on_open x (λ f. write_file d bytes f s) s).system) at
    ∙ wrote.system in
    let g : OpenFile = record f { position = f.position + length new } in
    let at_g : open_at after d ≡ Some g = moved_at s d f f (files_with f new s) (f.position + length new) at in
    let content : open_bytes f after ≡ overwritten f.position new (open_bytes f s) = written_content s sound d f new at in
    let has = file_of s sound d f at in
    let within : f.position ≤ length (open_bytes f s) = subst (λ o. f.position ≤ length (bytes_in o)) (sym has.1.0) has.1.1 in
    let size : f.position + length new ≤ length (open_bytes f after) = subst (λ l. f.position + length new ≤ length l) (sym content)
    (overwritten_size f.position new (open_bytes f s) within) in
    let count = wrote.count in
    let most : fitting f bytes s ≤ length bytes = greatest_within (λ m. have_room f (take m bytes) s) (length bytes) in
    let length_new : length new ≡ k = (let t = length-take k bytes in omega (arith, t, count, most)) in
    let sought : (file_effect (Seek d (pos f.position)) [] after).system ≡ moved d g f.position after =
    ap (λ (x : FileEffect). x.system) (seek_moves after d f.position g at_g (omega (arith, size))) in
    let at_f : open_at (moved d g f.position after) d ≡ Some f = moved_at after d g g after.files f.position at_g in
    ap (λ t. (file_effect (Read d k) [] (file_effect (Seek d (pos f.position)) [] t).system).bytes) left
    ∙ ap (λ t. (file_effect (Read d k) [] t).bytes) sought
    ∙ ap (λ (x : FileEffect). x.bytes) (read_gives (moved d g f.position after) d k f at_f may some (omega (arith, size, length_new, some)))
    ∙ ap (λ l. take k (drop f.position l)) content
    ∙ ap (λ m. take m (drop f.position (overwritten f.position new (open_bytes f s)))) (sym length_new)
    ∙ bytes_put f.position new (open_bytes f s) within

-- what is before and after the new bytes stays
pub bytes_before : (position : ℕ) (new old : List ℕ) → position ≤ length old
    → take position (overwritten position new old) ≡ take position old
bytes_before position new old within =
    let size : length (take position old) ≡ position = (let a = length-take position old in omega (arith, a, within)) in
    ap (λ n. take n (overwritten position new old)) (sym size) ∙ take-append_seam (take position old)
    (new ++ drop (position + length new) old)

pub bytes_after : (position : ℕ) (new old : List ℕ) → position ≤ length old
    → drop (position + length new) (overwritten position new old) ≡ drop (position + length new) old
bytes_after position new old within =
    let size : length (take position old ++ new) ≡ position + length new =
    (let a = length-take position old in let b = length-append (take position old) new in omega (arith, a, b, within)) in
    ap (drop (position + length new)) (sym (append_assoc (take position old) new (drop (position + length new) old)))
    ∙ drop_take_append (position + length new) (take position old ++ new) (drop (position + length new) old) size

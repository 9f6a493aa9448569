-- A call that puts as many bytes as it can has put as many as the abstract machine says there is room for.
use Rattle.std.proofs.Common.{◌≡◌, ℕ, zero, suc, ◌+◌, ◌-◌, ◌<◌, ◌≤◌, Bool, true, false, if◌then◌else◌, List, ◌++◌, length, take, drop, refl, sym, ap, ◌∙◌, arith, length-append, length-take, length-drop, ⊎_elim, ◌⊎◌}
use Rattle.std.proofs.lemmas.Bool.{cases_lt, false≢true}
use Rattle.lfs_format.specs.declared.Entry.{Entry}
use Rattle.lfs_check.specs.declared.fields.Header.{Header}
use Rattle.lfs_check.specs.Laid.{Places}
use Rattle.lfs_check.specs.Disks.{entry_at}
use Rattle.lfs_layout.specs.Files.{bare_name}
use Rattle.xinu_model.specs.Files.Room.{data_blocks, index_blocks, they_fit}
use Rattle.xinu_model.specs.Files.Stored.{with_contents, file_named, bytes_in}
use Rattle.xinu_model.specs.Files.Systems.{OpenFile, FileSystem, open_bytes}
use Rattle.xinu_model.specs.Files.Writing.{overwritten, greatest, have_room, fitting}
use Rattle.file_laws.specs.StoredFiles.{stored_files}
use Rattle.file_laws.specs.Middle.{IsMiddle}
use Rattle.file_laws.specs.Fitting.{IsFull, IsDataFull, IsIndexFull}
use Rattle.file_laws.proofs.Named.{named_at, bytes_sized}
use Rattle.file_laws.proofs.Needs.{middle_full, middle_index_full, middle_fits, middle_has_room}
use Rattle.lfs_check.proofs.KeepsAll.{either-way}

-- the greatest number that passes a test, and no larger one does
greatest_is : (test : ℕ → Bool) (n k : ℕ) → k ≤ n → test k ≡ true → ((j : ℕ) → k < j → j ≤ n → test j ≡ false) → greatest test n ≡ k
greatest_is test zero k h passes fails = omega (arith, h)
greatest_is test (suc n) k h passes fails = ⊎_elim
    (λ (lt : k < suc n). ap (λ v. if v then suc n else greatest test n) (fails (suc n) lt (omega arith))
    ∙ greatest_is test n k (omega (arith, lt)) passes (λ j l m. fails j l (omega (arith, m))))
    (λ (ge : suc n ≤ k). (let same : k ≡ suc n = omega (arith, ge, h) in
    ap (λ v. if v then suc n else greatest test n) (ap test (sym same) ∙ passes) ∙ sym same))
    (cases_lt k (suc n))

-- it is at least each number that passes the test
greatest_least : (test : ℕ → Bool) (n k : ℕ) → k ≤ n → test k ≡ true → k ≤ greatest test n
greatest_least test zero k h passes = h
greatest_least test (suc n) k h passes =
    either-way (test (suc n)) (λ v. test (suc n) ≡ v → k ≤ (if v then suc n else greatest test n))
    (λ _ _. h)
    (λ _ fails. ⊎_elim
    (λ (lt : k < suc n). greatest_least test n k (omega (arith, lt)) passes)
    (λ (ge : suc n ≤ k). (let same : k ≡ suc n = omega (arith, ge, h) in
    absurd (false≢true (sym fails ∙ ap test (sym same) ∙ passes))))
    (cases_lt k (suc n)))
    refl

-- the length of bytes with others in their place
pub length_overwritten : (q : ℕ) (new old : List ℕ) → q ≤ length old
    → length (overwritten q new old) ≡ q + length new + (length old - (q + length new))
length_overwritten q new old h =
    let a = length-append (take q old) (new ++ drop (q + length new) old) in let b = length-append new (drop (q + length new) old) in
    omega (arith, a, b, length-take q old, length-drop (q + length new) old, h)

-- The bytes of an open file are those of its entry.
pub open_is : (base : List ℕ) (slot : ℕ) (f : OpenFile) (s : FileSystem) (n : ℕ) (disk : List ℕ) (header : Header) (entry : Entry)
    (p : Places) (bytes : List ℕ) → IsMiddle n base disk header slot entry p bytes
    → s.files ≡ stored_files base → f.name ≡ bare_name (entry_at base slot).name → length (open_bytes f s) ≡ (entry_at base slot).size
open_is base slot f s n disk header entry p bytes m files name =
    ap (λ fs. length (bytes_in (file_named f.name fs))) files ∙ ap (λ x. length (bytes_in (file_named x (stored_files base)))) name
    ∙ ap (λ o. length (bytes_in o)) (named_at base m.clean slot m.slot_is m.was_used) ∙ bytes_sized base m.clean slot m.slot_is m.was_used

-- whether there is room for the first of the bytes, by what the files of the base are then
room_for : (n : ℕ) (base : List ℕ) (slot : ℕ) (f : OpenFile) (s : FileSystem) (new : List ℕ) (k : ℕ) → s.blocks ≡ n
    → s.files ≡ stored_files base → f.name ≡ bare_name (entry_at base slot).name
    → have_room f (take k new) s ≡ they_fit n
    (with_contents (bare_name (entry_at base slot).name) (overwritten f.position (take k new) (open_bytes f s)) (stored_files base))
room_for n base slot f s new k blocks files name =
    let put = overwritten f.position (take k new) (open_bytes f s) in
    ap (λ b. they_fit b (with_contents f.name put s.files)) blocks ∙ ap (λ x. they_fit n (with_contents x put s.files)) name
    ∙ ap (λ fs. they_fit n (with_contents (bare_name (entry_at base slot).name) put fs)) files

-- Bytes that the free blocks and those that are held have room for can be put.
pub fitting_least : (n : ℕ) (base disk : List ℕ) (header : Header) (slot : ℕ) (entry : Entry) (p : Places) (bytes : List ℕ) (f : OpenFile)
    (s : FileSystem) (new : List ℕ) (k : ℕ)
    → IsMiddle n base disk header slot entry p bytes → s.blocks ≡ n → s.files ≡ stored_files base
    → f.name ≡ bare_name (entry_at base slot).name → k ≤ length new
    → data_blocks (length (overwritten f.position (take k new) (open_bytes f s))) ≤ data_blocks entry.size
    + (length p.free_data + length p.held_data)
    → index_blocks (length (overwritten f.position (take k new) (open_bytes f s))) ≤ index_blocks entry.size
    + (length p.free_index + length p.held_index)
    → k ≤ fitting f new s
fitting_least n base disk header slot entry p bytes f s new k m blocks files name few datas indexes =
    greatest_least (λ j. have_room f (take j new) s) (length new) k few (room_for n base slot f s new k blocks files name
    ∙ middle_has_room n base disk header slot entry p bytes (overwritten f.position (take k new) (open_bytes f s)) m datas indexes)

-- The first k of the bytes are put at the position of an open file: all of them, or no more can be put.
pub fitting_is : (n : ℕ) (base disk : List ℕ) (header : Header) (slot : ℕ) (entry : Entry) (p : Places) (bytes : List ℕ) (f : OpenFile)
    (s : FileSystem) (new : List ℕ) (k : ℕ)
    → IsMiddle n base disk header slot entry p bytes → s.blocks ≡ n → s.files ≡ stored_files base
    → f.name ≡ bare_name (entry_at base slot).name → f.position ≤ (entry_at base slot).size → k ≤ length new
    → entry.size ≡ length (overwritten f.position (take k new) (open_bytes f s))
    → (k ≡ length new) ⊎ ((entry.size ≡ f.position + k) × IsFull p entry.size) → fitting f new s ≡ k
fitting_is n base disk header slot entry p bytes f s new k m blocks files name position few size end =
    greatest_is (λ j. have_room f (take j new) s) (length new) k few (room_for n base slot f s new k blocks files name
    ∙ middle_fits n base disk header slot entry p bytes (put k) m (sym size)) fails
  where
    old : List ℕ
    old = open_bytes f s

    long : length old ≡ (entry_at base slot).size
    long = open_is base slot f s n disk header entry p bytes m files name

    put : ℕ → List ℕ
    put j = overwritten f.position (take j new) old

    length_put : (j : ℕ) → j ≤ length new → length (put j) ≡ f.position + j + (length old - (f.position + j))
    length_put j h =
        let t = length-take j new in let o = length_overwritten f.position (take j new) old (omega (arith, position, long)) in
        o ∙ ap (λ i. f.position + i + (length old - (f.position + i))) (let e : length (take j new) ≡ j = omega (arith, t, h) in e)

    fails : (j : ℕ) → k < j → j ≤ length new → have_room f (take j new) s ≡ false
    fails j more h = ⊎_elim
        (λ (all : k ≡ length new). absurd (omega (arith, all, more, h)))
        (λ (full : (entry.size ≡ f.position + k) × IsFull p entry.size). (let at = full.0 in let l = length_put j h in
        room_for n base slot f s new j blocks files name ∙ ⊎_elim
        (λ (d : IsDataFull p entry.size). (let w = d.whole in
        middle_full n base disk header slot entry p bytes (put j) m d.free d.held (omega (arith, at, l, more, w))))
        (λ (i : IsIndexFull p entry.size). (let w = i.whole in
        middle_index_full n base disk header slot entry p bytes (put j) m i.free i.held (omega (arith, at, l, more, w))))
        full.1))
        end

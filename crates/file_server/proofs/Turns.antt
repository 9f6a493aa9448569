-- How many turns a call has at most: fewer than a word counts.
use Rattle.std.proofs.Common.{◌≡◌, ℕ, ◌+◌, ◌/◌, ◌≤◌, Bool, nat_le, true, List, [], ◌∷◌, length, refl, sym, subst, arith, Option, Some, None, cond}
use Rattle.std.proofs.lemmas.Bool.{and_parts, cond_both}
use Rattle.std.proofs.lemmas.Bool.Decides.{nat_tests}
use Rattle.file_laws.specs.StoredFiles.{stored_files}
use Rattle.given_disks.proofs.SoundFiles.{sound_files}
use Rattle.lfs_check.proofs.Images.{image_blocks}
use Rattle.lfs_layout.specs.Images.{IsCleanImage}
use Rattle.xinu_model.specs.Files.Calls.{FileCall, Open, Delete, Close, Read, Write, Getc, Putc, Seek, Truncate, Size}
use Rattle.xinu_model.specs.Files.Room.{data_blocks, index_blocks, data_needed, index_needed, data_room, index_room, they_fit}
use Rattle.xinu_model.specs.Files.Sound.{InRam}
use Rattle.xinu_model.specs.Files.Stored.{StoredFile, bytes_in, file_named, is_named}
use Rattle.xinu_model.specs.Files.Systems.{FileSystem, OpenFile, open_at}
use Rattle.xinu_model.specs.Files.Work.{byte_count, most_turns, size_at, size_for}
use Rattle.xinu_model.specs.Sound.Tables.{total}

-- a file needs no more than all files
few_named : (m : ℕ → ℕ) → m 0 ≡ 0 → (name : List ℕ) (files : List StoredFile)
    → m (length (bytes_in (file_named name files))) ≤ total (λ (f : StoredFile). m (length f.bytes)) files
few_named m none name [] = omega (arith, none)
few_named m none name (f ∷ files) =
    let more = few_named m none name files in
    cond_both (is_named name f) (Some f) (file_named name files)
    (λ (o : Option StoredFile). m (length (bytes_in o)) ≤ m (length f.bytes) + total (λ (g : StoredFile). m (length g.bytes)) files)
    (λ _. omega arith) (λ _. omega (arith, more))

few_open : (m : ℕ → ℕ) → m 0 ≡ 0 → (o : Option OpenFile) (s : FileSystem)
    → m (size_at o s) ≤ total (λ (f : StoredFile). m (length f.bytes)) s.files
few_open m none None s = omega (arith, none)
few_open m none (Some f) s = few_named m none f.name s.files

-- nor does the file of a call
few_for : (m : ℕ → ℕ) → m 0 ≡ 0 → (call : FileCall) (s : FileSystem)
    → m (size_for call s) ≤ total (λ (f : StoredFile). m (length f.bytes)) s.files
few_for m none (Open name mode) s = few_named m none name s.files
few_for m none (Delete name) s = few_named m none name s.files
few_for m none (Close d) s = few_open m none (open_at s d) s
few_for m none (Read d n) s = few_open m none (open_at s d) s
few_for m none (Write d n) s = few_open m none (open_at s d) s
few_for m none (Getc d) s = few_open m none (open_at s d) s
few_for m none (Putc d b) s = few_open m none (open_at s d) s
few_for m none (Seek d n) s = few_open m none (open_at s d) s
few_for m none (Truncate d) s = few_open m none (open_at s d) s
few_for m none (Size d) s = few_open m none (open_at s d) s

-- a call takes or puts no more bytes than RAM has
few_bytes : (call : FileCall) (at : ℕ) → InRam call at → byte_count call ≤ 1048576
few_bytes (Open name mode) at within = omega arith
few_bytes (Delete name) at within = omega arith
few_bytes (Close d) at within = omega arith
few_bytes (Read d n) at within = omega (arith, within)
few_bytes (Write d n) at within = omega (arith, within)
few_bytes (Getc d) at within = omega arith
few_bytes (Putc d b) at within = omega arith
few_bytes (Seek d n) at within = omega arith
few_bytes (Truncate d) at within = omega arith
few_bytes (Size d) at within = omega arith

few_for_fit : (call : FileCall) (at : ℕ) (s : FileSystem) → InRam call at → they_fit s.blocks s.files ≡ true → s.blocks ≤ 65542
    → most_turns call s ≤ 4294967295
few_for_fit call at s within fit high =
    let parts = and_parts (nat_le (data_needed s.files) (data_room s.blocks)) (nat_le (index_needed s.files) (index_room s.blocks)) fit in
    let data_fit : data_needed s.files ≤ data_room s.blocks = (let p = parts.0 in grind (arith, nat_tests)) in
    let index_fit : index_needed s.files ≤ index_room s.blocks = (let p = parts.1 in grind (arith, nat_tests)) in
    let datas = few_for data_blocks refl call s in
    let indexes = few_for index_blocks refl call s in
    let bytes = few_bytes call at within in
    omega (arith, data_fit, index_fit, datas, indexes, bytes, high)

-- So it is over the files of a clean disk.
pub few_turns : (call : FileCall) (at : ℕ) (s : FileSystem) (disk : List ℕ) → IsCleanImage disk → s.blocks ≡ length disk / 512
    → s.files ≡ stored_files disk → InRam call at → most_turns call s ≤ 4294967295
few_turns call at s disk clean blocks files within =
    let sound = sound_files disk clean in
    let size = image_blocks disk clean.faultless in
    let n = length disk / 512 in
    let high : n ≤ 65542 = (let P : Bool → Type 0 = λ b. n ≤ cond b 65542 65536 in subst P clean.version size.1) in
    let P : ℕ → Type 0 = λ b. they_fit b s.files ≡ true in
    let Q : List StoredFile → Type 0 = λ f. they_fit n f ≡ true in
    few_for_fit call at s within (subst P (sym blocks) (subst Q (sym files) sound.fit)) (let b = blocks in omega (arith, high, b))

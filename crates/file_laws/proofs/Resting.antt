-- The moments at which a disk holds the files at rest.
use Rattle.std.proofs.Common.{◌≡◌, ℕ, ◌+◌, ◌*◌, ◌/◌, ◌%◌, ◌<◌, ◌≤◌, Bool, true, false, List, length, sym, ap, ◌∙◌, arith, slice_index_or, get_or-set_same}
use Rattle.std.proofs.lemmas.Bool.{false≢true}
use Rattle.lfs_format.specs.declared.Entry.{Entry}
use Rattle.lfs_format.specs.declared.Dir.{Dir}
use Rattle.lfs_format.specs.Directory.{dir_of, void_entry, IsDirBlock}
use Rattle.lfs_check.specs.declared.fields.Header.{Header}
use Rattle.lfs_check.specs.Rules.{block_in, entry_is_used}
use Rattle.lfs_check.specs.Laid.{Places}
use Rattle.lfs_check.specs.Clean.{places_of}
use Rattle.lfs_check.specs.Fields.{fields_of}
use Rattle.lfs_check.specs.Disks.{disk_geometry, block_put, entry_at, dir_with_entry}
use Rattle.lfs_check.proofs.BlockPuts.{length_put, put_same}
use Rattle.lfs_check.proofs.Directories.{entry_of_block, block_wide}
use Rattle.lfs_layout.specs.Files.{bare_name}
use Rattle.lfs_layout.specs.Images.{IsCleanImage}
use Rattle.file_laws.specs.StoredFiles.{stored_files}
use Rattle.file_laws.specs.Middle.{IsMiddle}
use Rattle.file_laws.specs.Holds.{Holds}
use Rattle.file_laws.proofs.Needs.{same_entries}
use Rattle.file_laws.proofs.Kept.{middle_kept, clean_kept, kept_written}
use Rattle.file_laws.proofs.Holding.{kept_holds}

-- a clean disk holds its files
pub clean_holds : (disk : List ℕ) (rests : List ℕ → Bool) → IsCleanImage disk → Holds disk (stored_files disk) rests
clean_holds disk rests c =
    let g = disk_geometry (length disk / 512) in
    kept_holds (length disk / 512) disk disk 78 (places_of g (fields_of g disk)) rests c (clean_kept disk 78 c) (λ h u.
    absurd (omega (arith, h))) (λ h u. absurd (omega (arith, h)))

-- in the middle of a call the disk holds the files but that in hand
pub middle_holds : (n : ℕ) (base disk : List ℕ) (header : Header) (slot : ℕ) (entry : Entry) (p : Places) (bytes : List ℕ) (rests : List ℕ
    → Bool) → IsMiddle n base disk header slot entry p bytes
    → rests (bare_name (entry_at base slot).name) ≡ false → Holds disk (stored_files base) rests
middle_holds n base disk header slot entry p bytes rests m busy =
    let same : entry_at disk slot ≡ entry_at base slot = ap (λ es.
    slice_index_or es slot void_entry) (same_entries n base disk header slot entry p bytes m) in
    kept_holds n base disk slot p rests m.clean (middle_kept n base disk header slot entry p bytes m) (λ h u. busy) (λ h u.
    ap (λ (x : Entry). rests (bare_name x.name)) same ∙ busy)

-- the entry of the slot is the one that is written
written_entry : (n : ℕ) (disk : List ℕ) (slot : ℕ) (entry : Entry) (block : List ℕ) → length disk ≡ 512 * n → 14 ≤ n → slot < 78
    → IsDirBlock (dir_with_entry (dir_of (block_in disk (slot / 13))) (slot % 13) entry) block
    → entry_at (block_put disk (slot / 13) block) slot ≡ entry
written_entry n disk slot entry block long low h put =
    let b = slot / 13 in let made = block_put disk b block in
    let in_n : b < n = omega (arith, low, h) in
    let wide = (block_wide disk n b long in_n).0 in
    let made_long = length_put disk b n block long in_n put.long ∙ long in
    let slot_is : 13 * b + slot % 13 ≡ slot = omega arith in
    ap (entry_at made) (sym slot_is) ∙ sym
    (entry_of_block made n b (slot % 13) made_long (omega (arith, low)) (omega (arith, h)) (omega arith))
    ∙ ap (λ x. slice_index_or (dir_of x).entries (slot % 13) void_entry) (put_same disk b n block long in_n put.long)
    ∙ ap (λ (x : Dir). slice_index_or x.entries (slot % 13) void_entry) put.is
    ∙ get_or-set_same (dir_of (block_in disk b)).entries (slot % 13) entry void_entry (omega (arith, wide))

-- and so it does once the directory block of the entry is written
pub ending_holds : (n : ℕ) (base disk : List ℕ) (header : Header) (slot : ℕ) (entry written : Entry) (p : Places) (bytes : List ℕ)
    (block : List ℕ) (rests : List ℕ → Bool) → IsMiddle n base disk header slot entry p bytes
    → IsDirBlock (dir_with_entry (dir_of (block_in disk (slot / 13))) (slot % 13) written) block
    → rests (bare_name (entry_at base slot).name) ≡ false
    → (entry_is_used written ≡ true → rests (bare_name written.name) ≡ false)
    → Holds (block_put disk (slot / 13) block) (stored_files base) rests
ending_holds n base disk header slot entry written p bytes block rests m put busy now =
    let kept = middle_kept n base disk header slot entry p bytes m in
    let is = written_entry n disk slot written block m.long m.low m.slot_is put in
    kept_holds n base (block_put disk (slot / 13) block) slot p rests m.clean
    (kept_written n base disk slot written p block kept m.slot_is put) (λ h u. busy)
    (λ h u. ap (λ (x : Entry). rests (bare_name x.name)) is ∙ now (ap entry_is_used (sym is) ∙ u))

-- a call that makes a file has written the directory block of its entry
pub creating_holds : (base : List ℕ) (slot : ℕ) (written : Entry) (block : List ℕ) (rests : List ℕ → Bool) → IsCleanImage base → slot < 78
    → entry_is_used (entry_at base slot) ≡ false
    → IsDirBlock (dir_with_entry (dir_of (block_in base (slot / 13))) (slot % 13) written) block → rests (bare_name written.name) ≡ false
    → Holds (block_put base (slot / 13) block) (stored_files base) rests
creating_holds base slot written block rests c h unused put busy =
    let n = length base / 512 in let g = disk_geometry n in
    let kept = clean_kept base slot c in
    let is = written_entry n base slot written block kept.long kept.low h put in
    kept_holds n base (block_put base (slot / 13) block) slot (places_of g (fields_of g base)) rests c
    (kept_written n base base slot written (places_of g (fields_of g base)) block kept h put)
    (λ q u. absurd (false≢true (sym unused ∙ u))) (λ q u. ap (λ (x : Entry). rests (bare_name x.name)) is ∙ busy)

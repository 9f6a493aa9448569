-- How many entries of a clean disk are used, and how large their files are.
use Rattle.std.proofs.Common.{◌≡◌, ℕ, zero, suc, ◌+◌, ◌/◌, ◌<◌, ◌≤◌, Bool, true, false, cond, not, ◌&&◌, nat_lt, List, [], ◌∷◌, ◌++◌, length, refl, sym, ap, ◌∙◌, subst, arith, slice_index_or, slice_set, count_by, None}
use Rattle.std.proofs.lemmas.List.{length-map}
use Rattle.std.proofs.lemmas.List.Sums.{sum_by-cons}
use Rattle.std.proofs.lemmas.Bool.{and_parts, not-false}
use Rattle.std.proofs.lemmas.Bool.Decides.{nat_tests}
use Rattle.lfs_format.specs.declared.Entry.{Entry}
use Rattle.lfs_format.specs.Directory.{dir_of, void_entry}
use Rattle.lfs_check.specs.declared.geometry.Geometry.{Geometry}
use Rattle.lfs_check.specs.Geometries.{room}
use Rattle.lfs_check.specs.Rules.{entry_is_used, first_failing, is_larger, block_in, begins_right, ends_right, is_dir_block}
use Rattle.lfs_check.specs.Fields.{geometry_of, fields_of, directory_entries, entries_2, header_2}
use Rattle.lfs_check.specs.Disks.{disk_geometry, entries, entry_at, header_on}
use Rattle.lfs_check.proofs.Nones.{first_from-each}
use Rattle.lfs_check.proofs.Images.{image_sizes, image_blocks, image_counts}
use Rattle.lfs_check.proofs.Directories.{geometry_is, entries_are}
use Rattle.lfs_check.proofs.KeepsAll.{passed, either-way, none-failing}
use Rattle.lfs_layout.specs.Files.{files_of}
use Rattle.lfs_layout.specs.Images.{IsCleanImage}
use Rattle.lfs_layout.proofs.ImageLaws.{used_files}
use Rattle.file_laws.specs.StoredFiles.{stored, stored_files}
use Rattle.file_laws.proofs.Named.{length_entries}

-- There are as many files as used entries.
pub files_counted : (base : List ℕ) → IsCleanImage base → length (stored_files base) ≡ count_by entry_is_used (entries base)
unfolding stored_files
files_counted base c = length-map (files_of base) stored ∙ sym (used_files base c.faultless)
    ∙ ap (count_by entry_is_used) (entries_are base c.version)

-- all entries pass a test
pub count_all : (test : Entry → Bool) (es : List Entry) → ((k : ℕ) → k < length es → test (slice_index_or es k void_entry) ≡ true)
    → count_by test es ≡ length es
count_all test [] all = refl
count_all test (e ∷ es) all =
    let i = count_all test es (λ k h. all (suc k) (omega (arith, h))) in
    sum_by-cons (λ x. cond (test x) 1 0) e es ∙ ap (λ v. cond v 1 0 + count_by test es) (all 0 (omega arith)) ∙ (omega (arith, i))

-- no more pass a test than there are
pub count_most : (test : Entry → Bool) (es : List Entry) → count_by test es ≤ length es
count_most test [] = omega arith
count_most test (e ∷ es) =
    let i = count_most test es in let c = sum_by-cons (λ x. cond (test x) 1 0) e es in
    let b : cond (test e) 1 0 ≤ 1 = either-way (test e) (λ v. cond v 1 0 ≤ 1) (λ _. omega arith) (λ _. omega arith) in
    omega (arith, i, c, b)

-- fewer pass a test if one does not
pub count_less : (test : Entry → Bool) (es : List Entry) (k : ℕ) → k < length es → test (slice_index_or es k void_entry) ≡ false
    → count_by test es < length es
count_less test [] k h f = absurd (omega (arith, h))
count_less test (e ∷ es) zero h f =
    let i = count_most test es in let c = sum_by-cons (λ x. cond (test x) 1 0) e es in
    let z : ◌≡◌ {A = ℕ} (cond (test e) 1 0) 0 = ap (λ v. cond v 1 0) f in omega (arith, i, c, z)
count_less test (e ∷ es) (suc k) h f =
    let i = count_less test es k (omega (arith, h)) f in let c = sum_by-cons (λ x. cond (test x) 1 0) e es in
    let b : cond (test e) 1 0 ≤ 1 = either-way (test e) (λ v. cond v 1 0 ≤ 1) (λ _. omega arith) (λ _. omega arith) in
    omega (arith, i, c, b)

-- the number of files of a clean disk is that in its directory
pub base_counted : (base : List ℕ) → IsCleanImage base → count_by entry_is_used (entries base) ≡ (header_on base).files
unfolding entries header_on
base_counted base c =
    let g = geometry_of base in
    let P : Geometry → Type 0 = λ x. (let h = (fields_of x base).header in let es = directory_entries x base in
    is_dir_block x h es base 0 ≡ true) in
    let all : P g = not-false _ (first_from-each
    (λ d. not (is_dir_block g (fields_of g base).header (directory_entries g base) base d)) 0 g.dirs (image_counts base c.faultless) 0
    (omega arith) (let six : g.dirs ≡ 6 = ap (λ (x : Geometry). x.dirs) (geometry_is base c.version) in omega (arith, six))) in
    let six : P (disk_geometry (length base / 512)) = subst P (geometry_is base c.version) all in
    let h = header_2 (dir_of (block_in base 0)) in
    let two = and_parts (begins_right h (entries_2 base) (block_in base 0) 0)
    (ends_right (disk_geometry (length base / 512)) (block_in base 0)) six in
    let t = two.0 in grind (arith, nat_tests)

-- an entry that passes a test comes in the place of one that does not
pub count_put : (test : Entry → Bool) (es : List Entry) (k : ℕ) (new : Entry) → k < length es
    → test (slice_index_or es k void_entry) ≡ false → test new ≡ true → count_by test (slice_set es k new) ≡ count_by test es + 1
count_put test [] k new h a b = absurd (omega (arith, h))
count_put test (e ∷ es) zero new h a b =
    let p = sum_by-cons (λ x. cond (test x) 1 0) new es in let q = sum_by-cons (λ x. cond (test x) 1 0) e es in
    let u : ◌≡◌ {A = ℕ} (cond (test new) 1 0) 1 = ap (λ v. cond v 1 0) b in
    let z : ◌≡◌ {A = ℕ} (cond (test e) 1 0) 0 = ap (λ v. cond v 1 0) a in
    omega (arith, p, q, u, z)
count_put test (e ∷ es) (suc k) new h a b =
    let i = count_put test es k new (omega (arith, h)) a b in
    let p = sum_by-cons (λ x. cond (test x) 1 0) e (slice_set es k new) in let q = sum_by-cons (λ x. cond (test x) 1 0) e es in
    omega (arith, p, q, i)

-- an entry that passes the test of sizes is not too large
sizes_at : (most : ℕ) (before es : List Entry) → first_failing (λ before e. is_larger most e) before es ≡ None → (k : ℕ) → k < length es
    → entry_is_used (slice_index_or es k void_entry) ≡ true → (slice_index_or es k void_entry).size ≤ most
unfolding first_failing
sizes_at most before [] e k h u = absurd (omega (arith, h))
sizes_at most before (x ∷ es) e zero h u =
    let parts = passed (is_larger most x) (length before) (first_failing (λ before e. is_larger most e) (before ++ x ∷ []) es) e in
    let t : nat_lt most x.size ≡ false = sym (ap (λ v. v && nat_lt most x.size) u) ∙ parts.0 in grind (arith, nat_tests)
sizes_at most before (x ∷ es) e (suc k) h u =
    let parts = passed (is_larger most x) (length before) (first_failing (λ before e. is_larger most e) (before ++ x ∷ []) es) e in
    sizes_at most (before ++ x ∷ []) es parts.1 k (omega (arith, h)) u

-- the file of an entry has room on the disk
pub entry_fits : (base : List ℕ) → IsCleanImage base → (k : ℕ) → k < 78 → entry_is_used (entry_at base k) ≡ true
    → (entry_at base k).size ≤ room (disk_geometry (length base / 512))
entry_fits base c k h u =
    let g = geometry_of base in
    let len = (length_entries base c).0 in
    let none : first_failing (λ before e. is_larger (room (disk_geometry (length base / 512))) e) [] (entries base) ≡ None =
    ap (first_failing (λ before e. is_larger (room (disk_geometry (length base / 512))) e) []) (sym (entries_are base c.version))
    ∙ ap (λ x. first_failing (λ before e. is_larger (room x) e) [] (directory_entries g base)) (sym (geometry_is base c.version))
    ∙ none-failing g (first_failing (λ before e. is_larger (room g) e) [] (directory_entries g base)) (image_sizes base c.faultless) in
    sizes_at (room (disk_geometry (length base / 512))) [] (entries base) none k (omega (arith, h, len)) u

-- it is below 2^25 bytes
pub entry_small : (base : List ℕ) → IsCleanImage base → (k : ℕ) → k < 78 → entry_is_used (entry_at base k) ≡ true
    → (entry_at base k).size ≤ 33557504
entry_small base c k h u =
    let size = image_blocks base c.faultless in
    let n = length base / 512 in
    let high : n ≤ 65542 = (let P : Bool → Type 0 = λ b. n ≤ cond b 65542 65536 in subst P c.version size.1) in
    let s = entry_fits base c k h u in
    omega (arith, s, high)

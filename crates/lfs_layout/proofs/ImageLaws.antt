-- Laws of images and their files.
use Rattle.std.proofs.Common.{◌≡◌, ℕ, suc, ◌+◌, ◌-◌, ◌*◌, ◌<◌, ◌≤◌, Bool, true, false, cond, not, ◌&&◌, nat_eq, nat_le, List, [], ◌∷◌, ◌++◌, length, filter, count_by, refl, sym, ap, ◌∙◌, arith, None}
use Rattle.std.proofs.lemmas.Bool.{and_parts, not-false, eqb-true}
use Rattle.std.proofs.lemmas.Bool.Decides.{nat_tests}
use Rattle.std.proofs.lemmas.List.Sums.{sum_by-cons, length-filter}
use Rattle.lfs_format.specs.declared.Entry.{Entry}
use Rattle.lfs_format.specs.declared.Index.{Index}
use Rattle.lfs_check.specs.declared.geometry.Geometry.{Geometry}
use Rattle.lfs_check.specs.Geometries.{index_count, first_data}
use Rattle.lfs_check.specs.Rules.{entry_is_used, rule_0, begins_right, ends_right, is_dir_block, block_in}
use Rattle.lfs_check.specs.Fields.{is_version_2, geometry_of, fields_of, directory_entries}
use Rattle.lfs_check.specs.Faults.{fault, report}
use Rattle.lfs_check.specs.Kept.{kept_entries}
use Rattle.lfs_check.proofs.Nones.{first_from-each}
use Rattle.lfs_check.proofs.Images.{image_size, image_counts}
use Rattle.lfs_check.proofs.KeepsAll.{keeps_all, either-way}
use Rattle.lfs_layout.specs.Files.{Clean, File, names_right, names_of, content_of, files_in, placed_files, files_of, is_before, with_file, sorted, blocks_for, total_for, have_room, without_name, with_set}
use Rattle.lfs_layout.specs.Made.{geometry_2, image_with, Room}
use Rattle.lfs_layout.specs.Images.{kept_files, repaired, repaired_blocks}
use Rattle.lfs_layout.proofs.MadeClean.{made_sorted}
use Rattle.lfs_layout.proofs.MadeFields.{length_image}
use Rattle.lfs_layout.proofs.MadeFiles.{made_files}
use Rattle.lfs_layout.proofs.MadeRules.{made_faultless}
use Rattle.lfs_layout.proofs.Repairs.{repaired_room, repaired_names}

-- unused entries have no files
files_used : (g : Geometry) (ix : List Index) (image : List ℕ) (es : List Entry) → files_in g ix image (filter entry_is_used es) ≡ files_in g ix image es
files_used g ix image [] = refl
files_used g ix image (e ∷ es) =
    let i = files_used g ix image es in
    let f : File = record { name = e.name; bytes = content_of g ix image e } in
    either-way (entry_is_used e) (λ u. entry_is_used e ≡ u → files_in g ix image (cond u (e ∷ filter entry_is_used es) (filter entry_is_used es)) ≡ cond u (f ∷ files_in g ix image es) (files_in g ix image es))
    (λ _ u. ap (λ v. cond v (f ∷ files_in g ix image (filter entry_is_used es)) (files_in g ix image (filter entry_is_used es))) u ∙ ap (λ fs. f ∷ fs) i)
    (λ _ u. i)
    refl

-- as many files as used entries
files_counted : (g : Geometry) (ix : List Index) (image : List ℕ) (es : List Entry) → length (files_in g ix image es) ≡ count_by entry_is_used es
files_counted g ix image [] = refl
files_counted g ix image (e ∷ es) =
    let i = files_counted g ix image es in
    let f : File = record { name = e.name; bytes = content_of g ix image e } in let rest = files_in g ix image es in
    either-way (entry_is_used e) (λ u. length (cond u (f ∷ rest) rest) ≡ cond u 1 0 + count_by entry_is_used es) (λ _. omega (arith, i)) (λ _. omega (arith, i))
    ∙ sym (sum_by-cons (λ (h : Entry). cond (entry_is_used h) 1 0) e es)

-- one file more among those in order
length-with : (f : File) (files : List File) → length (with_file f files) ≡ suc (length files)
length-with f [] = refl
length-with f (g ∷ files) =
    let i = length-with f files in
    either-way (is_before f.name g.name) (λ v. length (cond v (f ∷ g ∷ files) (g ∷ with_file f files)) ≡ suc (suc (length files))) (λ _. refl) (λ _. omega (arith, i))

-- as many files in order
pub length-sorted : (files : List File) → length (sorted files) ≡ length files
length-sorted [] = refl
length-sorted (f ∷ files) = let i = length-sorted files in let w = length-with f (sorted files) in omega (arith, i, w)

-- an image without a fault has as many used entries as files
pub used_files : (image : List ℕ) → fault image ≡ None → count_by entry_is_used (directory_entries (geometry_of image) image) ≡ length (files_of image)
used_files image e =
    let g = geometry_of image in
    sym (length-sorted (placed_files image) ∙ files_counted g (fields_of g image).indexes image (directory_entries g image))

-- its repair keeps as many entries as it has files
pub all_kept : (image : List ℕ) → fault image ≡ None
    → length (kept_entries (geometry_of image) (fields_of (geometry_of image) image).indexes (directory_entries (geometry_of image) image)) ≡ length (files_of image)
all_kept image e = ap length (keeps_all image e) ∙ length-filter entry_is_used (directory_entries (geometry_of image) image) ∙ used_files image e

-- its repair has the same files
pub repaired_files : (image : List ℕ) → fault image ≡ None → files_of (repaired image) ≡ files_of image
repaired_files image e =
    let g = geometry_of image in let ix = (fields_of g image).indexes in
    made_sorted (repaired_blocks image) (kept_files image) (repaired_room image (image_size image e)) (repaired_names image)
    ∙ ap (λ es. sorted (files_in g ix image es)) (keeps_all image e) ∙ ap sorted (files_used g ix image (directory_entries g image))

-- an image that is made is clean for its files
pub made_is_clean : (n : ℕ) (files : List File) → Room n files → names_right 27 [] (names_of files) ≡ true
    → Clean (image_with n files) (sorted files)
made_is_clean n files r names = record { faultless = made_faultless n files r names; read = made_sorted n files r names }

-- a repaired image is one that is made, so its entries are those of the kept files
pub repaired_holds : (image : List ℕ) → rule_0 (geometry_of image) image ≡ None → placed_files (repaired image) ≡ kept_files image
repaired_holds image size = made_files (repaired_blocks image) (kept_files image) (repaired_room image size) (repaired_names image)

-- it is clean for these files
pub repaired_is_clean : (image : List ℕ) → rule_0 (geometry_of image) image ≡ None → Clean (repaired image) (sorted (kept_files image))
repaired_is_clean image size = made_is_clean (repaired_blocks image) (kept_files image) (repaired_room image size) (repaired_names image)

-- and its blocks are whole
pub repaired_length : (image : List ℕ) → rule_0 (geometry_of image) image ≡ None → length (repaired image) ≡ 512 * repaired_blocks image
repaired_length image size = length_image (repaired_blocks image) (kept_files image) (repaired_room image size)

-- the report

-- its report has the number of its files, by rule 2
pub reported_files : (image : List ℕ) → fault image ≡ None → (report image).files ≡ length (files_of image)
reported_files image e =
    let g = geometry_of image in let d = fields_of g image in
    let some : 0 < g.dirs = either-way (is_version_2 image) (λ v. 0 < cond v 6 1) (λ _. omega arith) (λ _. omega arith) in
    let first = not-false (is_dir_block g d.header d.entries image 0) (first_from-each (λ k. not (is_dir_block g d.header d.entries image k)) 0 g.dirs (image_counts image e) 0 (omega arith) (omega (arith, some))) in
    let t : nat_eq (count_by entry_is_used d.entries) d.header.files ≡ true = (and_parts (begins_right d.header d.entries (block_in image 0) 0) (ends_right g (block_in image 0)) first).0 in
    let same : count_by entry_is_used d.entries ≡ d.header.files = eqb-true (count_by entry_is_used d.entries) d.header.files t in
    sym same ∙ used_files image e

-- a file that is too long

-- the blocks of all files are no fewer than those of the last one
last_counts : (width : ℕ) (files : List File) (f : File) → blocks_for width f ≤ total_for width (files ++ f ∷ [])
last_counts width [] f = omega arith
last_counts width (x ∷ files) f = let i = last_counts width files f in omega (arith, i)

-- a file of more than 65,542 blocks has no room
pub long_no_room : (n : ℕ) (file : File) (files : List File) → n ≤ 65542 → 33557504 < length file.bytes → have_room (geometry_2 n) (with_set file files) ≡ false
long_no_room n file files most long =
    let all = with_set file files in let g = geometry_2 n in
    let need : 65543 ≤ blocks_for 512 file = omega (arith, long) in
    let low : blocks_for 512 file ≤ total_for 512 all = last_counts 512 (without_name file.name files) file in
    let over : g.blocks - first_data g < total_for 512 all = omega (arith, need, low, most) in
    and_middle (nat_le (length all) 78) (nat_le (total_for 512 all) (g.blocks - first_data g)) (nat_le (total_for 8192 all) (index_count g)) (nat_le-above (total_for 512 all) (g.blocks - first_data g) over)
  where
    nat_le-above : (a b : ℕ) → b < a → nat_le a b ≡ false
    nat_le-above a b h = grind (arith, nat_tests)

    and_middle : (a b c : Bool) → b ≡ false → a && b && c ≡ false
    and_middle true b c e = ap (λ v. v && c) e
    and_middle false b c e = refl

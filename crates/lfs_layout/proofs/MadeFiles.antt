-- The files of an image that is made are those that it was made of.
use Rattle.std.proofs.Common.{◌≡◌, ℕ, zero, suc, ◌+◌, ◌-◌, ◌*◌, ◌≤◌, true, cond, List, [], ◌∷◌, ◌++◌, length, get_or, take, drop, map, replicate, refl, sym, ap, ◌∙◌, arith, append_assoc}
use Rattle.std.specs.List.{flat_map}
use Rattle.std.proofs.lemmas.List.{drop_at, take_at, take-take, drop-drop}
use Rattle.lfs_format.specs.declared.Index.{Index}
use Rattle.lfs_check.specs.declared.geometry.Geometry.{Geometry}
use Rattle.lfs_check.specs.Geometries.{first_data}
use Rattle.lfs_check.specs.Rules.{block_in}
use Rattle.lfs_check.specs.Laid.{Places}
use Rattle.lfs_check.specs.Checks.{need_data}
use Rattle.lfs_check.specs.Fields.{fields_of, directory_entries}
use Rattle.lfs_check.specs.Clean.{data_in}
use Rattle.lfs_check.specs.Empty.{upwards}
use Rattle.lfs_check.specs.Built.{data_need, runs}
use Rattle.lfs_layout.specs.Files.{File, content_of, files_in, placed_files, names_right, names_of}
use Rattle.lfs_layout.specs.Made.{indexes_needed, data_needed, entry_for, entries_for, no_entry, data_end, free_data, padded, all_data, image_with, geometry_2, Room}
use Rattle.lfs_layout.proofs.Joins.{blocks_upwards}
use Rattle.lfs_layout.proofs.MadeParts.{length_padded}
use Rattle.lfs_layout.proofs.MadeFields.{entries_read, data_region}
use Rattle.lfs_layout.proofs.MadeLies.{AreUsed, shape_made, made_passes}
use Rattle.lfs_layout.proofs.MadeRules.{made_geometry_is, used_names}

-- equal lists begin alike
head_same : (x y : List ℕ) (xs ys : List (List ℕ)) → x ∷ xs ≡ y ∷ ys → x ≡ y
head_same x y xs ys e = ap (λ l. get_or l 0 []) e

-- equal lists go on alike
tail_same : (x y : List ℕ) (xs ys : List (List ℕ)) → x ∷ xs ≡ y ∷ ys → xs ≡ ys
tail_same x y xs ys e = ap (drop 1) e

-- entries without a file have no files
no_files : (g : Geometry) (ix : List Index) (image : List ℕ) (m : ℕ) → files_in g ix image (replicate m no_entry) ≡ []
no_files g ix image zero = refl
no_files g ix image (suc m) = no_files g ix image m

-- the files of entries whose data blocks go upwards from b on, where their bytes are
files_read : (g : Geometry) (ix : List Index) (image tail : List ℕ) (a b m : ℕ) (files : List File) → AreUsed files
    → map (data_in g ix) (entries_for a files ++ replicate m no_entry) ≡ runs data_need b (entries_for a files ++ replicate m no_entry)
    → drop (512 * b) image ≡ flat_map padded files ++ tail → files_in g ix image (entries_for a files ++ replicate m no_entry) ≡ files
files_read g ix image tail a b m [] used datas here = no_files g ix image m
files_read g ix image tail a b m (f ∷ files) used datas here =
    let e = entry_for a f in let es = entries_for (a + indexes_needed f) files ++ replicate m no_entry in
    let w = data_needed f in
    let u = used 0 (omega arith) in
    let wide : data_need e ≡ w = ap (λ v. cond v (need_data e) 0) u in
    let mine : data_in g ix e ≡ upwards b w = head_same _ _ _ _ datas ∙ ap (upwards b) wide in
    let rest : map (data_in g ix) es ≡ runs data_need (b + w) es = tail_same _ _ _ _ datas ∙ ap (λ k. runs data_need (b + k) es) wide in
    let long = length_padded f in
    let room : length f.bytes ≤ 512 * w = omega arith in
    let at : drop (512 * b) image ≡ padded f ++ (flat_map padded files ++ tail) = here ∙ append_assoc (padded f) (flat_map padded files) tail in
    let bytes : content_of g ix image e ≡ f.bytes =
    ap (λ ns. take (length f.bytes) (flat_map (block_in image) ns)) mine ∙ ap (take (length f.bytes)) (blocks_upwards 512 image b w)
    ∙ take-take (length f.bytes) (512 * w) (drop (512 * b) image) room ∙ ap (take (length f.bytes)) (at ∙ append_assoc f.bytes (replicate (512 * w - length f.bytes) 0) (flat_map padded files ++ tail))
    ∙ take_at f.bytes (replicate (512 * w - length f.bytes) 0 ++ (flat_map padded files ++ tail)) (length f.bytes) refl in
    let next : drop (512 * (b + w)) image ≡ flat_map padded files ++ tail =
    ap (λ k. drop k image) (let q : 512 * (b + w) ≡ 512 * b + 512 * w = omega arith in q) ∙ sym (drop-drop (512 * w) (512 * b) image) ∙ ap (drop (512 * w)) at ∙ drop_at (padded f) (flat_map padded files ++ tail) (512 * w) long in
    ap (λ v. cond v (record { name = f.name; bytes = content_of g ix image e } ∷ files_in g ix image es) (files_in g ix image es)) u
    ∙ ap (λ bs. record { name = f.name; bytes = bs } ∷ files_in g ix image es) bytes
    ∙ ap (λ fs. f ∷ fs) (files_read g ix image tail (a + indexes_needed f) (b + w) m files (λ k h. used (suc k) (omega (arith, h))) rest next)

-- reading the entries of an image that is made gives its files
pub made_files : (n : ℕ) (files : List File) → Room n files → names_right 27 [] (names_of files) ≡ true → placed_files (image_with n files) ≡ files
made_files n files r names =
    let g = geometry_2 n in let image = image_with n files in let d = shape_made n files in
    let used = used_names [] files names in
    let m = 78 - length files in
    let es = entries_read n files r in
    let places = (made_passes n files r used).1 in
    let datas : map (data_in g d.indexes) d.entries ≡ runs data_need (first_data g) d.entries = ap (λ (p : Places). p.datas) places in
    let here : map (data_in g d.indexes) (entries_for 0 files ++ replicate m no_entry) ≡ runs data_need (first_data g) (entries_for 0 files ++ replicate m no_entry) =
    sym (ap (map (data_in g d.indexes)) es) ∙ datas ∙ ap (runs data_need (first_data g)) es in
    let region : drop (512 * first_data g) image ≡ all_data g files =
    ap (λ k. drop k image) (let q : 512 * first_data g ≡ 512 * (first_data g + 0) = omega arith in q) ∙ data_region n files r 0 ∙ ap (λ k. drop k (all_data g files)) (let q : 512 * 0 ≡ 0 = omega arith in q) in
    ap (λ h. files_in h (fields_of h image).indexes image (directory_entries h image)) (made_geometry_is n files r)
    ∙ ap (files_in g d.indexes image) es
    ∙ files_read g d.indexes image (flat_map (free_data g) (upwards (data_end g files) (n - data_end g files))) 0 (first_data g) m files used here region

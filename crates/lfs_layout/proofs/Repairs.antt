-- The image that repair makes is clean for the files of the kept entries.
use Rattle.std.proofs.Common.{◌≡◌, ℕ, ◌+◌, ◌-◌, ◌/◌, ◌<◌, ◌≤◌, Bool, true, false, cond, List, [], ◌∷◌, ◌++◌, nat_eq, count_by, length, get_or, refl, sym, ap, subst, arith, None}
use Rattle.std.proofs.lemmas.List.Recursion.{is_count_by}
use Rattle.lfs_format.specs.declared.Entry.{Entry}
use Rattle.lfs_format.specs.declared.Index.{Index}
use Rattle.lfs_format.specs.Directory.{void_entry}
use Rattle.lfs_check.specs.declared.geometry.Geometry.{Geometry}
use Rattle.lfs_check.specs.Geometries.{index_count, first_data, longest_name}
use Rattle.lfs_check.specs.Rules.{entry_is_used, rule_0}
use Rattle.lfs_check.specs.Fields.{is_version_2, geometry_of, fields_of, directory_entries, entries_1, entries_2}
use Rattle.lfs_check.specs.Kept.{is_kept, kept_from, kept_entries}
use Rattle.lfs_check.proofs.Theorems.{migration_room}
use Rattle.lfs_check.proofs.Images.{fields_shape, sized_blocks, sized_most}
use Rattle.lfs_layout.specs.Files.{total_for, names_right, names_of}
use Rattle.lfs_layout.specs.Made.{geometry_2, Room}
use Rattle.lfs_layout.specs.Images.{kept_files, repaired_blocks}
use Rattle.lfs_layout.proofs.CleanRoom.{names_longer, files_few, files_wide}
use Rattle.lfs_layout.proofs.CleanOpens.{wide_1, wide_2, longest_most}
use Rattle.lfs_layout.proofs.KeptFiles.{kept_totals, kept_names, kept_few, kept_wide, kept_is_used}
use Rattle.lfs_layout.proofs.MadeRules.{used_in}

-- each index block of an image has 16 data numbers
rows_16 : (image : List ℕ) → (i : ℕ) → i < index_count (geometry_of image) → length (get_or (fields_of (geometry_of image) image).indexes i (record { next = 0; offset = 0; blocks = [] })).blocks ≡ 16
rows_16 image i h = (fields_shape (geometry_of image) image).rows i h

-- the names of the kept files can be, and no two are the same
pub repaired_names : (image : List ℕ) → names_right 27 [] (names_of (kept_files image)) ≡ true
repaired_names image =
    let g = geometry_of image in let d = fields_of g image in
    names_longer (longest_name g) 27 [] (names_of (kept_files image)) (longest_most g) (kept_names g d.indexes image d.entries [] [] d.entries (λ x q. refl))

-- the kept files are no more than 78, with names of 28 bytes
few_and_wide : (image : List ℕ) → (length (fields_of (geometry_of image) image).entries ≤ 78) → ((k : ℕ) → k < length (fields_of (geometry_of image) image).entries → length (get_or (fields_of (geometry_of image) image).entries k void_entry).name ≡ 28)
    → (n : ℕ) → 14 ≤ n → n ≤ 65542 → total_for 512 (kept_files image) ≤ n - first_data (geometry_2 n) → total_for 8192 (kept_files image) ≤ index_count (geometry_2 n) → Room n (kept_files image)
few_and_wide image f w n low high one two =
    let g = geometry_of image in let d = fields_of g image in let K = kept_entries g d.indexes d.entries in
    record {
      low = low;
      high = high;
      data_room = one;
      index_room = two;
      few = (let a = files_few g d.indexes image K in let b = kept_few g d.indexes d.entries [] d.entries in omega (arith, a, b, f));
      wide = files_wide g d.indexes image K (kept_wide g d.indexes d.entries [] d.entries w);
    }

-- the kept files have room on the repaired disk, since no block is in two of them
pub repaired_room : (image : List ℕ) → rule_0 (geometry_of image) image ≡ None → Room (repaired_blocks image) (kept_files image)
repaired_room image r0 =
    let n = length image / 512 in let g = geometry_of image in let d = fields_of g image in
    let whole = sized_blocks image r0 in let size = sized_most image r0 in
    let t = kept_totals g d.indexes image d.entries (rows_16 image) whole in
    let Q : List Entry → Type 0 = λ xs. (length xs ≤ 78) × ((k : ℕ) → k < length xs → length (get_or xs k void_entry).name ≡ 28) in
    let G : Bool → Geometry = λ b. record { dirs = cond b 6 1; blocks = n } in
    let P : Bool → Type 0 = λ v. is_version_2 image ≡ v → Room (n + cond v 0 6) (kept_files image) in
    let yes : P true = λ v. (
    let low : 14 ≤ n = (let R : Bool → Type 0 = λ b. cond b 14 8 ≤ n in subst R v size.0) in
    let high : n ≤ 65542 = (let R : Bool → Type 0 = λ b. n ≤ cond b 65542 65536 in subst R v size.1) in
    let w = wide_2 image n whole (omega (arith, low)) in
    let es : d.entries ≡ entries_2 image = ap (λ b. directory_entries (G b) image) v in
    let q : Q d.entries = subst Q (sym es) ((let l = w.0 in omega (arith, l)), w.1) in
    let R : ℕ → Type 0 = λ m. Room m (kept_files image) in
    subst R (let e : n ≡ n + 0 = omega arith in e) (few_and_wide image q.0 q.1 n low high
    (let S : Bool → Type 0 = λ b. total_for 512 (kept_files image) ≤ n - first_data (G b) in subst S v t.0) (let S : Bool → Type 0 = λ b. total_for 8192 (kept_files image) ≤ index_count (G b) in subst S v t.1))) in
    let no : P false = λ v. (
    let low : 8 ≤ n = (let R : Bool → Type 0 = λ b. cond b 14 8 ≤ n in subst R v size.0) in
    let high : n ≤ 65536 = (let R : Bool → Type 0 = λ b. n ≤ cond b 65542 65536 in subst R v size.1) in
    let w = wide_1 image n whole (omega (arith, low)) in
    let es : d.entries ≡ entries_1 image = ap (λ b. directory_entries (G b) image) v in
    let q : Q d.entries = subst Q (sym es) ((let l = w.0 in omega (arith, l)), w.1) in
    let one : total_for 512 (kept_files image) ≤ n - first_data (G false) = (let S : Bool → Type 0 = λ b. total_for 512 (kept_files image) ≤ n - first_data (G b) in subst S v t.0) in
    let two : total_for 8192 (kept_files image) ≤ index_count (G false) = (let S : Bool → Type 0 = λ b. total_for 8192 (kept_files image) ≤ index_count (G b) in subst S v t.1) in
    let m = migration_room n in
    few_and_wide image q.0 q.1 (n + 6) (omega (arith, low)) (omega (arith, high)) (omega (arith, one, m)) (omega (arith, two))) in
    let all : (v : Bool) → P v = λ v. elim v as (λ v. P v) [ true ↦ yes | false ↦ no ] in
    all (is_version_2 image) refl

-- no more entries are kept than are used among those left
kept_used : (g : Geometry) (ix : List Index) (es before rest : List Entry) → length (kept_from g ix es before rest) ≤ used_in rest
kept_used g ix es before [] = omega arith
kept_used g ix es before (e ∷ rest) =
    let i = kept_used g ix es (before ++ e ∷ []) rest in let K = kept_from g ix es (before ++ e ∷ []) rest in
    let U = used_in rest in
    let P : Bool → Type 0 = λ b. is_kept g ix es before e ≡ b → length (cond b (e ∷ K) K) ≤ cond (entry_is_used e) (1 + U) U in
    let yes : P true = λ s. (let u : entry_is_used e ≡ true = kept_is_used g ix es before e s in let q : cond (entry_is_used e) (1 + U) U ≡ 1 + U = ap (λ v. cond v (1 + U) U) u in omega (arith, i, q)) in
    let more : (v : Bool) → U ≤ cond v (1 + U) U = λ v. elim v as (λ v. U ≤ cond v (1 + U) U) [ true ↦ omega arith | false ↦ omega arith ] in
    let no : P false = λ s. (let m = more (entry_is_used e) in omega (arith, i, m)) in
    let all : (b : Bool) → P b = λ b. elim b as (λ b. P b) [ true ↦ yes | false ↦ no ] in
    all (is_kept g ix es before e) refl

-- no more entries are kept than are used
pub kept_most : (g : Geometry) (ix : List Index) (es : List Entry) → length (kept_entries g ix es) ≤ count_by entry_is_used es
kept_most g ix es = (let k = kept_used g ix es [] es in let c = is_count_by used_in entry_is_used refl (λ e es. refl) es in omega (arith, k, c))

-- six blocks more unless there are six directory blocks
six_or : (v : Bool) → ◌≡◌ {A = ℕ} (cond (nat_eq (cond v 6 1) 6) 0 6) (cond v 0 6)
six_or true = refl
six_or false = refl

-- the blocks of the repaired image by the geometry
pub blocks_are : (image : List ℕ) → (geometry_of image).blocks + cond (nat_eq (geometry_of image).dirs 6) 0 6 ≡ repaired_blocks image
blocks_are image = ap (λ k. length image / 512 + k) (six_or (is_version_2 image))

-- An image that is made breaks no rule.
use Rattle.std.proofs.Common.{◌≡◌, ℕ, zero, suc, ◌+◌, ◌-◌, ◌*◌, ◌/◌, ◌%◌, ◌<◌, ◌≤◌, Bool, true, false, cond, not, ◌&&◌, ◌||◌, nat_eq, nat_lt, nat_le, List, [], ◌∷◌, ◌++◌, length, slice_index, take, drop, replicate, refl, sym, ap, ◌∙◌, arith, Some, None, ⊎_elim, bytes_eq, count_by}
use Rattle.lfs_check.proofs.KeptRead.{or_or_false}
use Rattle.std.specs.List.{prefix_len}
use Rattle.std.proofs.lemmas.List.{drop-take, drop-drop}
use Rattle.std.proofs.lemmas.List.Folds.{list_any-append}
use Rattle.std.proofs.lemmas.List.Recursion.{is_count_by}
use Rattle.std.proofs.lemmas.Slice.Eq.{bytes_eq-Decides}
use Rattle.std.proofs.lemmas.Bool.{cases_lt, false≢true, and_parts, not-true}
use Rattle.std.proofs.lemmas.Bool.Decides.{nat_tests}
use Rattle.lfs_format.specs.declared.Entry.{Entry}
use Rattle.lfs_format.specs.Words.{word_of, words_of, word_bytes}
use Rattle.lfs_format.specs.Directory.{dir_bytes, dir_ending}
use Rattle.lfs_format.proofs.Words.{words_of-take}
use Rattle.lfs_format.proofs.DirBlocks.{dir_bytes_begin}
use Rattle.lfs_check.specs.declared.geometry.Geometry.{Geometry}
use Rattle.lfs_check.specs.declared.fields.Header.{Header}
use Rattle.lfs_check.specs.Geometries.{room}
use Rattle.lfs_check.specs.Rules.{entry_is_used, is_name, has_name, text_length, are_zeros, first_failing, in_entry_block, has_bad_name, is_larger, rule_0, rule_1, rule_2, rule_3, block_in, begins_right, ends_right, is_dir_block}
use Rattle.lfs_check.specs.Checks.{rule_4, rule_5, rule_6, rule_7}
use Rattle.lfs_check.specs.Fields.{is_version_2, geometry_of, fields_of, directory_header, directory_entries}
use Rattle.lfs_check.specs.Faults.{named, either_fault, dir_fault, walks_fault, shape_fault, fault}
use Rattle.lfs_check.proofs.Nones.{first_from-nothing}
use Rattle.lfs_check.proofs.Right.{first-none}
use Rattle.lfs_layout.specs.Files.{File, total_for, is_among, names_right, names_of}
use Rattle.lfs_layout.specs.Made.{indexes_needed, entry_for, entries_for, no_entry, all_entries, header_for, dir_for, image_with, geometry_2, Room}
use Rattle.lfs_layout.proofs.MadeFields.{dir_block, dir_block_end, header_read, entries_read, length_image}
use Rattle.lfs_layout.proofs.MadeLies.{AreUsed, shape_made, made_passes}

-- its version, its size and its geometry
version_read : (n : ℕ) (files : List File) → Room n files → word_of (drop 492 (image_with n files)) ≡ 2
unfolding words_of dir_ending
version_read n files r =
    let x = image_with n files in
    let cut : take 20 (drop 492 x) ≡ drop 492 (take 512 x) = sym (drop-take 492 20 x) in
    let block : take 512 x ≡ block_in x 0 = ap (λ k. take 512 (drop k x)) (let e : 0 ≡ 512 * 0 = omega arith in e) in
    ap (λ ws. slice_index ws 0) (sym (words_of-take 1 20 (drop 492 x) (omega arith))) ∙ ap word_of (cut ∙ ap (drop 492) block ∙ sym (drop-drop 12 480 (block_in x 0)) ∙ ap (drop 12) (dir_block_end n files r 0 (omega arith)))

-- an image that is made has version 2
pub version_is_2 : (n : ℕ) (files : List File) → Room n files → is_version_2 (image_with n files) ≡ true
version_is_2 n files r =
    let size = length (image_with n files) in
    let l = length_image n files r in let low = r.low in
    let a : nat_eq (size % 512) 0 ≡ true = (let e : size % 512 ≡ 0 = omega (arith, l) in grind (arith, nat_tests)) in
    let b : nat_le 4096 size ≡ true = (let e : 4096 ≤ size = omega (arith, l, low) in grind (arith, nat_tests)) in
    let c : nat_eq (word_of (drop 492 (image_with n files))) 2 ≡ true = ap (λ w. nat_eq w 2) (version_read n files r) in
    ap (λ v. v && nat_le 4096 size && nat_eq (word_of (drop 492 (image_with n files))) 2) a ∙ ap (λ v. v && nat_eq (word_of (drop 492 (image_with n files))) 2) b ∙ c

-- its geometry is the one that it was made with
pub made_geometry_is : (n : ℕ) (files : List File) → Room n files → geometry_of (image_with n files) ≡ geometry_2 n
made_geometry_is n files r =
    let l = length_image n files r in
    ap (λ v. let g : Geometry = record { dirs = cond v 6 1; blocks = length (image_with n files) / 512 } in g) (version_is_2 n files r)
    ∙ ap (λ k. let g : Geometry = record { dirs = 6; blocks = k } in g) (let e : length (image_with n files) / 512 ≡ n = omega (arith, l) in e)

-- its size is right
made_rule_0 : (n : ℕ) (files : List File) → Room n files → rule_0 (geometry_2 n) (image_with n files) ≡ None
made_rule_0 n files r =
    let size = length (image_with n files) in
    let l = length_image n files r in let low = r.low in let high = r.high in
    let a : nat_eq (size % 512) 0 ≡ true = (let e : size % 512 ≡ 0 = omega (arith, l) in grind (arith, nat_tests)) in
    let b : nat_le (512 * 14) size ≡ true = (let e : 512 * 14 ≤ size = omega (arith, l, low) in grind (arith, nat_tests)) in
    let c : nat_le size (512 * 65542) ≡ true = (let e : size ≤ 512 * 65542 = omega (arith, l, high) in grind (arith, nat_tests)) in
    ap (λ v. cond (v && nat_le (512 * 14) size && nat_le size (512 * 65542)) None (Some 0)) a ∙ ap (λ v. cond (v && nat_le size (512 * 65542)) None (Some 0)) b ∙ ap (λ v. cond v None (Some 0)) c

-- names
pub name_used : (longest : ℕ) (name : List ℕ) → is_name longest name ≡ true → not (nat_eq (slice_index name 0) 0) ≡ true
unfolding is_name text_length
name_used longest [] e = absurd (false≢true e)
name_used longest (x ∷ name) e =
    let P : Bool → Type 0 = λ b. nat_lt 0 (cond b (1 + prefix_len (λ c. not (nat_eq c 0)) name) 0) && nat_le (cond b (1 + prefix_len (λ c. not (nat_eq c 0)) name) 0) longest && are_zeros (drop (cond b (1 + prefix_len (λ c. not (nat_eq c 0)) name) 0) (x ∷ name)) ≡ true → b ≡ true in
    let all : (b : Bool) → P b = λ b. elim b as (λ b. P b) [ true ↦ (λ t. refl) | false ↦ (λ t. absurd (false≢true t)) ] in
    all (not (nat_eq x 0)) e

-- files whose names are right have used entries
pub used_names : (before : List (List ℕ)) (files : List File) → names_right 27 before (names_of files) ≡ true → AreUsed files
used_names before [] e k h = absurd (omega (arith, h))
used_names before (f ∷ files) e zero h =
    name_used 27 f.name (and_parts (is_name 27 f.name) (not (is_among before f.name)) (and_parts (is_name 27 f.name && not (is_among before f.name)) (names_right 27 (before ++ f.name ∷ []) (names_of files)) e).0).0
used_names before (f ∷ files) e (suc k) h =
    used_names (before ++ f.name ∷ []) files (and_parts (is_name 27 f.name && not (is_among before f.name)) (names_right 27 (before ++ f.name ∷ []) (names_of files)) e).1 k (omega (arith, h))

-- entries without a file have no bad name
none_named : (g : Geometry) (before : List Entry) (m : ℕ) → first_failing (has_bad_name g) before (replicate m no_entry) ≡ None
unfolding first_failing
none_named g before zero = refl
none_named g before (suc m) = none_named g (before ++ no_entry ∷ []) m

-- the names of entries that were made of files with right names
names_pass : (n : ℕ) (before : List Entry) (names : List (List ℕ)) (a : ℕ) (files : List File) (m : ℕ) → ((x : List ℕ) → has_name before x ≡ is_among names x) → names_right 27 names (names_of files) ≡ true
    → first_failing (has_bad_name (geometry_2 n)) before (entries_for a files ++ replicate m no_entry) ≡ None
unfolding first_failing has_name
names_pass n before names a [] m same e = none_named (geometry_2 n) before m
names_pass n before names a (f ∷ files) m same e =
    let both = and_parts (is_name 27 f.name && not (is_among names f.name)) (names_right 27 (names ++ f.name ∷ []) (names_of files)) e in
    let two = and_parts (is_name 27 f.name) (not (is_among names f.name)) both.0 in
    let used = name_used 27 f.name two.0 in
    let fresh : has_name before f.name ≡ false = same f.name ∙ not-true (is_among names f.name) two.1 in
    let test : has_bad_name (geometry_2 n) before (entry_for a f) ≡ false =
    ap (λ v. v && (not (is_name 27 f.name) || has_name before f.name)) used ∙ ap (λ v. not v || has_name before f.name) two.0 ∙ fresh in
    let more : (x : List ℕ) → has_name (before ++ entry_for a f ∷ []) x ≡ is_among (names ++ f.name ∷ []) x = λ x.
    list_any-append (λ (g : Entry). entry_is_used g && bytes_eq g.name x) before (entry_for a f ∷ []) ∙ or_or_false (has_name before x) (entry_is_used (entry_for a f) && bytes_eq f.name x)
    ∙ ap (λ v. has_name before x || (v && bytes_eq f.name x)) used ∙ ap (λ v. v || bytes_eq f.name x) (same x)
    ∙ sym (list_any-append (λ y. bytes_eq y x) names (f.name ∷ []) ∙ or_or_false (is_among names x) (bytes_eq f.name x)) in
    ap (λ v. cond v (Some (length before)) (first_failing (has_bad_name (geometry_2 n)) (before ++ entry_for a f ∷ []) (entries_for (a + indexes_needed f) files ++ replicate m no_entry))) test
    ∙ names_pass n (before ++ entry_for a f ∷ []) (names ++ f.name ∷ []) (a + indexes_needed f) files m more both.1

-- no name is among none
pub no_names : (x : List ℕ) → has_name [] x ≡ is_among [] x
unfolding has_name
no_names x = refl

-- its names are right
made_rule_1 : (n : ℕ) (files : List File) → Room n files → names_right 27 [] (names_of files) ≡ true → rule_1 (geometry_2 n) (directory_entries (geometry_2 n) (image_with n files)) ≡ None
made_rule_1 n files r e =
    ap (rule_1 (geometry_2 n)) (entries_read n files r) ∙ ap (in_entry_block (geometry_2 n)) (names_pass n [] [] 0 files (78 - length files) no_names e)

-- counts
abbrev pub used_in : List Entry → ℕ
used_in [] = 0
used_in (e ∷ es) = cond (entry_is_used e) (1 + used_in es) (used_in es)

-- entries without a file aren't used
none_used : (m : ℕ) → used_in (replicate m no_entry) ≡ 0
none_used zero = refl
none_used (suc m) = none_used m

-- as many used entries as files
files_used : (a : ℕ) (files : List File) (m : ℕ) → AreUsed files → used_in (entries_for a files ++ replicate m no_entry) ≡ length files
files_used a [] m used = none_used m
files_used a (f ∷ files) m used =
    let i = files_used (a + indexes_needed f) files m (λ k h. used (suc k) (omega (arith, h))) in
    let rest = used_in (entries_for (a + indexes_needed f) files ++ replicate m no_entry) in
    ap (λ v. cond v (1 + rest) rest) (used 0 (omega arith)) ∙ (omega (arith, i))

-- as many entries are used as the directory says
count_read : (n : ℕ) (files : List File) → Room n files → AreUsed files → count_by entry_is_used (directory_entries (geometry_2 n) (image_with n files)) ≡ length files
count_read n files r used =
    ap (count_by entry_is_used) (entries_read n files r) ∙ sym (is_count_by used_in entry_is_used refl (λ e es. refl) (all_entries files)) ∙ files_used 0 files (78 - length files) used

-- the later directory blocks begin with zeros
begin_zeros : (header : Header) (entries : List Entry) (d : ℕ) → 0 < d → are_zeros (take 12 (dir_bytes (dir_for header entries d))) ≡ true
unfolding word_bytes
begin_zeros header entries d h =
    let dir = dir_for header entries d in
    let t : nat_eq d 0 ≡ false = grind (arith, nat_tests) in
    ap are_zeros (dir_bytes_begin dir) ∙ ap (λ v. are_zeros (word_bytes (cond v header.free_data 0 ∷ cond v header.free_index 0 ∷ cond v header.files 0 ∷ []))) t

-- each directory block is right outside its entries
dir_right : (n : ℕ) (files : List File) → Room n files → AreUsed files → (d : ℕ) → d < 6
    → is_dir_block (geometry_2 n) (directory_header (geometry_2 n) (image_with n files)) (directory_entries (geometry_2 n) (image_with n files)) (image_with n files) d ≡ true
dir_right n files r used d h =
    let g = geometry_2 n in let image = image_with n files in
    let header = directory_header g image in let es = directory_entries g image in
    let ends : ends_right g (block_in image d) ≡ true = ap (λ b. bytes_eq b dir_ending) (dir_block_end n files r d h) ∙ (bytes_eq-Decides dir_ending dir_ending).1 refl in
    let counts : count_by entry_is_used es ≡ header.files = count_read n files r used ∙ sym (ap (λ (x : Header). x.files) (header_read n files r)) in
    let begins : begins_right header es (block_in image d) d ≡ true =
    ⊎_elim (λ (lt : d < 1). (let t : nat_eq d 0 ≡ true = grind (arith, nat_tests) in let q : nat_eq (count_by entry_is_used es) header.files ≡ true = grind (arith, nat_tests) in
    ap (λ v. cond v (nat_eq (count_by entry_is_used es) header.files) (are_zeros (take 12 (block_in image d)))) t ∙ q))
    (λ (ge : 1 ≤ d). (let t : nat_eq d 0 ≡ false = grind (arith, nat_tests) in
    ap (λ v. cond v (nat_eq (count_by entry_is_used es) header.files) (are_zeros (take 12 (block_in image d)))) t
    ∙ ap (λ b. are_zeros (take 12 b)) (dir_block n files r d h) ∙ begin_zeros (header_for g files) (all_entries files) d ge))
    (cases_lt d 1) in
    ap (λ v. v && ends_right g (block_in image d)) begins ∙ ends

-- its directory blocks are right
made_rule_2 : (n : ℕ) (files : List File) → Room n files → AreUsed files → rule_2 (geometry_2 n) (directory_header (geometry_2 n) (image_with n files)) (directory_entries (geometry_2 n) (image_with n files)) (image_with n files) ≡ None
made_rule_2 n files r used =
    first_from-nothing (λ d. not (is_dir_block (geometry_2 n) (directory_header (geometry_2 n) (image_with n files)) (directory_entries (geometry_2 n) (image_with n files)) (image_with n files) d)) 0 6
    (λ d low high. ap not (dir_right n files r used d (omega (arith, high))))

-- sizes
none_larger : (most : ℕ) (before : List Entry) (m : ℕ) → first_failing (λ before e. is_larger most e) before (replicate m no_entry) ≡ None
unfolding first_failing
none_larger most before zero = refl
none_larger most before (suc m) = none_larger most (before ++ no_entry ∷ []) m

-- no file with room is larger than all data blocks
sizes_pass : (most : ℕ) (before : List Entry) (a : ℕ) (files : List File) (m : ℕ) → AreUsed files → 512 * total_for 512 files ≤ most → first_failing (λ before e. is_larger most e) before (entries_for a files ++ replicate m no_entry) ≡ None
unfolding first_failing
sizes_pass most before a [] m used h = none_larger most before m
sizes_pass most before a (f ∷ files) m used h =
    let small : length f.bytes ≤ most = omega (arith, h) in
    let t : nat_lt most (length f.bytes) ≡ false = grind (arith, nat_tests) in
    let rest = first_failing (λ before e. is_larger most e) (before ++ entry_for a f ∷ []) (entries_for (a + indexes_needed f) files ++ replicate m no_entry) in
    ap (λ v. cond (v && nat_lt most (length f.bytes)) (Some (length before)) rest) (used 0 (omega arith)) ∙ ap (λ v. cond v (Some (length before)) rest) t
    ∙ sizes_pass most (before ++ entry_for a f ∷ []) (a + indexes_needed f) files m (λ k l. used (suc k) (omega (arith, l))) (omega (arith, h))

-- its sizes are right
made_rule_3 : (n : ℕ) (files : List File) → Room n files → AreUsed files → rule_3 (geometry_2 n) (directory_entries (geometry_2 n) (image_with n files)) ≡ None
made_rule_3 n files r used =
    let d = r.data_room in
    ap (rule_3 (geometry_2 n)) (entries_read n files r) ∙ ap (in_entry_block (geometry_2 n)) (sizes_pass (room (geometry_2 n)) [] 0 files (78 - length files) used (omega (arith, d)))

-- an image that is made has no fault
pub made_faultless : (n : ℕ) (files : List File) → Room n files → names_right 27 [] (names_of files) ≡ true → fault (image_with n files) ≡ None
made_faultless n files r e =
    let g = geometry_2 n in let image = image_with n files in let d = shape_made n files in
    let used = used_names [] files e in
    let p = (made_passes n files r used).0 in
    let walks : walks_fault g d ≡ None =
    first-none (named 4 (rule_4 g d)) _ (ap (named 4) p.four) (first-none (named 5 (rule_5 g d)) _ (ap (named 5) p.five) (first-none (named 6 (rule_6 g d)) (named 7 (rule_7 g d)) (ap (named 6) p.six) (ap (named 7) p.seven))) in
    let dirs : dir_fault g d.header d.entries image ≡ None =
    first-none (named 1 (rule_1 g d.entries)) _ (ap (named 1) (made_rule_1 n files r e)) (first-none (named 2 (rule_2 g d.header d.entries image)) (named 3 (rule_3 g d.entries)) (ap (named 2) (made_rule_2 n files r used)) (ap (named 3) (made_rule_3 n files r used))) in
    ap (λ h. either_fault (named 0 (rule_0 h image)) (shape_fault h (fields_of h image) image)) (made_geometry_is n files r)
    ∙ first-none (named 0 (rule_0 g image)) (shape_fault g d image) (ap (named 0) (made_rule_0 n files r)) (first-none (dir_fault g d.header d.entries image) (walks_fault g d) dirs walks)

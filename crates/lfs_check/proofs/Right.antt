-- A disk of version 2 whose fields and whose directory are right breaks no rule.
use Rattle.std.proofs.Common.{◌≡◌, ℕ, zero, suc, ◌*◌, ◌/◌, ◌%◌, ◌<◌, ◌≤◌, Bool, true, false, cond, not, ◌&&◌, ◌||◌, nat_eq, nat_le, nat_lt, List, [], ◌∷◌, ◌++◌, length, take, drop, refl, sym, ap, ◌∙◌, arith, slice_index, slice_index_or, append_assoc, ⊎_elim, Option, Some, None, count_by, bytes_eq}
use Rattle.std.specs.List.{list_any}
use Rattle.std.proofs.lemmas.List.{drop-take, drop-drop, append-nil}
use Rattle.std.proofs.lemmas.Bool.{cases_lt}
use Rattle.std.proofs.lemmas.Bool.Decides.{nat_tests}
use Rattle.std.proofs.lemmas.Slice.Eq.{bytes_eq-Decides}
use Rattle.lfs_format.specs.declared.Entry.{Entry}
use Rattle.lfs_format.specs.Words.{word_of, words_of}
use Rattle.lfs_format.specs.Directory.{dir_ending, void_entry}
use Rattle.lfs_format.proofs.Words.{words_of-take}
use Rattle.lfs_check.specs.declared.geometry.Geometry.{Geometry}
use Rattle.lfs_check.specs.declared.faults.DiskFault.{DiskFault}
use Rattle.lfs_check.specs.Geometries.{room, IsGeometry}
use Rattle.lfs_check.specs.Rules.{entry_is_used, is_name, has_name, are_zeros, first_failing, in_entry_block, has_bad_name, is_larger, rule_0, rule_1, rule_2, rule_3, block_in, begins_right, ends_right, is_dir_block}
use Rattle.lfs_check.specs.Laid.{Shape, Places}
use Rattle.lfs_check.specs.Checks.{rule_4, rule_5, rule_6, rule_7}
use Rattle.lfs_check.specs.Clean.{Passes}
use Rattle.lfs_check.specs.Fields.{is_version_2, geometry_of, fields_of}
use Rattle.lfs_check.specs.Faults.{named, either_fault, dir_fault, walks_fault, shape_fault, fault}
use Rattle.lfs_check.proofs.Nones.{first_from-nothing}
use Rattle.lfs_check.proofs.Images.{fields_shape}
use Rattle.lfs_check.proofs.Lies.{lies_passes}
use Rattle.lfs_check.specs.Disks.{disk_geometry, entries, entry_at, header_on, is_this, IsRight}
use Rattle.lfs_check.proofs.Directories.{geometry_is, entries_wide}
use Rattle.lfs_check.proofs.KeepsAll.{either-way}

-- no entry fails a test that sees the entries before it
failing_none : (f : List Entry → Entry → Bool) (before es : List Entry)
    → ((k : ℕ) → k < length es → f (before ++ take k es) (slice_index_or es k void_entry) ≡ false) → first_failing f before es ≡ None
unfolding first_failing
failing_none f before [] all = refl
failing_none f before (e ∷ es) all =
    ap (λ v. cond v (Some (length before)) (first_failing f (before ++ e ∷ []) es)) (ap (λ b. f b e) (sym (append-nil before))
    ∙ all 0 (omega arith))
    ∙ failing_none f (before ++ e ∷ []) es (λ k h. ap (λ b. f b (slice_index_or es k void_entry)) (append_assoc before (e ∷ []) (take k es))
    ∙ all (suc k) (omega (arith, h)))

-- a name that no earlier entry has
no_name : (n : List ℕ) (es : List Entry) (k : ℕ) → ((j : ℕ) → j < k → is_this n (slice_index_or es j void_entry) ≡ false)
    → has_name (take k es) n ≡ false
unfolding has_name
no_name n es zero all = refl
no_name n [] (suc k) all = refl
no_name n (e ∷ es) (suc k) all = ap (λ v. v || list_any (is_this n) (take k es)) (all 0 (omega arith))
    ∙ no_name n es k (λ j h. all (suc j) (omega (arith, h)))

-- the number of the version is read off the end of the first block
version_read : (made : List ℕ) → drop 480 (block_in made 0) ≡ dir_ending → word_of (drop 492 made) ≡ 2
unfolding words_of dir_ending
version_read x ends =
    let cut : take 20 (drop 492 x) ≡ drop 492 (take 512 x) = sym (drop-take 492 20 x) in
    let block : take 512 x ≡ block_in x 0 = ap (λ k. take 512 (drop k x)) (let e : 0 ≡ 512 * 0 = omega arith in e) in
    ap (λ ws. slice_index ws 0) (sym (words_of-take 1 20 (drop 492 x) (omega arith)))
    ∙ ap word_of (cut ∙ ap (drop 492) block ∙ sym (drop-drop 12 480 (block_in x 0)) ∙ ap (drop 12) ends)

-- a disk has version 2 if its first block ends so
pub version_is : (disk : List ℕ) (n : ℕ) → length disk ≡ 512 * n → 14 ≤ n → drop 480 (block_in disk 0) ≡ dir_ending
    → is_version_2 disk ≡ true
version_is disk n long least ends =
    let a : nat_eq (length disk % 512) 0 ≡ true = (let e : length disk % 512 ≡ 0 = omega (arith, long) in grind (arith, nat_tests)) in
    let b : nat_le 4096 (length disk) ≡ true = (let e : 4096 ≤ length disk = omega (arith, long, least) in grind (arith, nat_tests)) in
    ap (λ v. v && nat_le 4096 (length disk) && nat_eq (word_of (drop 492 disk)) 2) a ∙ ap (λ v. v && nat_eq (word_of (drop 492 disk)) 2) b
    ∙ ap (λ w. nat_eq w 2) (version_read disk ends)

-- two tests that find nothing
pub first-none : (a b : Option DiskFault) → a ≡ None → b ≡ None → either_fault a b ≡ None
first-none a b p q = ap (λ x. either_fault x b) p ∙ q

-- a disk that is right has version 2 and no fault
pub right_clean : (made : List ℕ) (n : ℕ) (p : Places) → IsRight made n p → (fault made ≡ None) × (is_version_2 made ≡ true)
unfolding entries header_on
right_clean made n p r = (faultless, version)
  where
    size : (512 * 14 ≤ length made) × (length made ≤ 512 * 65542) × (length made % 512 ≡ 0)
    size = let l = r.long in let a = r.low in let b = r.high in (omega (arith, l, a), omega (arith, l, b), omega (arith, l))

    version : is_version_2 made ≡ true
    version = version_is made n r.long r.low (r.directory.ends 0 (omega arith))

    g : Geometry
    g = disk_geometry n

    geo : geometry_of made ≡ g
    geo = geometry_is made version ∙ ap (λ k. let x : Geometry = record { dirs = 6; blocks = k } in x) (let l = r.long in
        let e : length made / 512 ≡ n = omega (arith, l) in e)

    d : Shape
    d = fields_of g made

    is_geometry : IsGeometry g
    is_geometry = let a = r.low in let b = r.high in record { dirs = omega arith; few = omega (arith, a); many = omega (arith, b) }

    passes : Passes g d
    passes = lies_passes g d p is_geometry (fields_shape g made) r.laid r.no_index r.no_data

    zero_rule : rule_0 g made ≡ None
    zero_rule =
        let s = size in let low = s.0 in let high = s.1 in let whole = s.2 in let l = length made in
        let a : nat_eq (l % 512) 0 ≡ true = grind (arith, nat_tests) in
        let b : nat_le (512 * 14) l ≡ true = grind (arith, nat_tests) in
        let c : nat_le l (512 * 65542) ≡ true = grind (arith, nat_tests) in
        ap (λ v. cond (v && nat_le (512 * 14) l && nat_le l (512 * 65542)) None (Some 0)) a
        ∙ ap (λ v. cond (v && nat_le l (512 * 65542)) None (Some 0)) b ∙ ap (λ v. cond v None (Some 0)) c

    count : length (entries made) ≡ 78
    count = (entries_wide made n r.long (let a = r.low in omega (arith, a))).0

    one_rule : rule_1 g d.entries ≡ None
    one_rule = ap (in_entry_block g) (failing_none (has_bad_name g) [] (entries made) (λ k h. (let e = entry_at made k in
        either-way (entry_is_used e) (λ v. entry_is_used e ≡ v
        → v && (not (is_name 27 e.name) || has_name (take k (entries made)) e.name) ≡ false)
        (λ _ u. (let q = r.names k (let c = count in omega (arith, h, c)) u in
        ap (λ v. not v || has_name (take k (entries made)) e.name) q.0 ∙ no_name e.name (entries made) k q.1))
        (λ _ u. refl) refl)))

    two_rule : rule_2 g d.header d.entries made ≡ None
    two_rule = first_from-nothing (λ k. not (is_dir_block g d.header d.entries made k)) 0 6 (λ k low high. (let
        lt : k < 6 = omega (arith, high) in
        let ends : ends_right g (block_in made k) ≡ true = ap (λ b. bytes_eq b dir_ending) (r.directory.ends k lt)
        ∙ (bytes_eq-Decides dir_ending dir_ending).1 refl in
        let c : nat_eq (count_by entry_is_used (entries made)) d.header.files ≡ true = (let q = r.counted in grind (arith, nat_tests)) in
        let begins : begins_right d.header d.entries (block_in made k) k ≡ true = ⊎_elim
        (λ (z : k < 1). (let t : nat_eq k 0 ≡ true = grind (arith, nat_tests) in
        ap (λ v. cond v (nat_eq (count_by entry_is_used (entries made)) d.header.files) (are_zeros (take 12 (block_in made k)))) t ∙ c))
        (λ (z : 1 ≤ k). (let t : nat_eq k 0 ≡ false = grind (arith, nat_tests) in
        ap (λ v. cond v (nat_eq (count_by entry_is_used (entries made)) d.header.files) (are_zeros (take 12 (block_in made k)))) t
        ∙ r.directory.begins k (omega (arith, z)) lt))
        (cases_lt k 1) in
        ap not (ap (λ v. v && ends_right g (block_in made k)) begins ∙ ends)))

    three_rule : rule_3 g d.entries ≡ None
    three_rule = ap (in_entry_block g) (failing_none (λ before e. is_larger (room g) e) [] (entries made) (λ k h.
        (let e = entry_at made k in
        either-way (entry_is_used e) (λ v. entry_is_used e ≡ v → v && nat_lt (room g) e.size ≡ false)
        (λ _ u. (let q = r.sizes k (let c = count in omega (arith, h, c)) u in grind (arith, nat_tests)))
        (λ _ u. refl) refl)))

    faultless : fault made ≡ None
    faultless =
        let walks : walks_fault g d ≡ None =
        first-none (named 4 (rule_4 g d)) _ (ap (named 4) passes.four)
        (first-none (named 5 (rule_5 g d)) _ (ap (named 5) passes.five)
        (first-none (named 6 (rule_6 g d)) (named 7 (rule_7 g d)) (ap (named 6) passes.six) (ap (named 7) passes.seven))) in
        let dirs : dir_fault g d.header d.entries made ≡ None =
        first-none (named 1 (rule_1 g d.entries)) _ (ap (named 1) one_rule)
        (first-none (named 2 (rule_2 g d.header d.entries made)) (named 3 (rule_3 g d.entries)) (ap (named 2) two_rule)
        (ap (named 3) three_rule)) in
        ap (λ h. either_fault (named 0 (rule_0 h made)) (shape_fault h (fields_of h made) made)) geo
        ∙ first-none (named 0 (rule_0 g made)) (shape_fault g d made) (ap (named 0) zero_rule)
        (first-none (dir_fault g d.header d.entries made) (walks_fault g d) dirs walks)

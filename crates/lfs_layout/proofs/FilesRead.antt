-- Lemmas on the files of the program: loops over them, and the numbers that an index block of one has.
use Rattle.std.proofs.Common.{◌≡◌, ℕ, suc, ◌+◌, ◌-◌, ◌*◌, ◌<◌, ◌≤◌, List, [], ◌∷◌, ◌++◌, length, get_or, slice_index_or, take, drop, map, replicate, refl, sym, ap, ◌∙◌, arith, length-append, length-take, length-drop, ⊎_elim}
use Rattle.std.proofs.lemmas.List.{drop_more, drop_all, get_or-map, length-map, same_lists, get_or-take, get_or-drop, get_or-append_right, get_or-replicate, get_or_past, get_or_default, length-replicate}
use Rattle.std.proofs.Math.ListN.{get_or-append}
use Rattle.std.proofs.lemmas.Bool.{cases_lt}
use Rattle.std.specs.List.{flat_map}
use Rattle.std.proofs.lemmas.List.{take_more, take_at, drop-replicate, flat_map_more, append-nil, map_push}
use Rattle.std.proofs.lemmas.List.Concat.{flat_map-append}
use Rattle.lfs_format.specs.declared.Index.{Index}
use Rattle.lfs_format.specs.Indexes.{index_bytes}
use Rattle.lfs_format.proofs.Joins.{drop_past}
use Rattle.lfs_check.specs.Laid.{no_index}
use Rattle.lfs_check.specs.Empty.{upwards}
use Rattle.lfs_check.specs.Meets.{null}
use Rattle.lfs_layout.specs.declared.files.NamedFile.{NamedFile}
use Rattle.lfs_layout.proofs.Joins.{upwards_more}
use Rattle.lfs_layout.specs.Made.{file_of, all_files}

-- one file more
pub files_more : (xs : List NamedFile) (k : ℕ) (x : NamedFile) → k < length xs → x ≡ get_or xs k x → drop k (all_files xs) ≡ file_of x ∷ drop (k + 1) (all_files xs)
files_more xs k x h e =
    drop_more (all_files xs) k (file_of x) (let l = length-map xs file_of in omega (arith, l, h))
    ∙ ap (λ f. f ∷ drop (k + 1) (all_files xs)) (get_or-map file_of xs k x (file_of x) h ∙ ap file_of (sym e))

-- after all files none is left
pub files_all : (xs : List NamedFile) (k : ℕ) → length xs ≤ k → drop k (all_files xs) ≡ []
files_all xs k h = drop_all k (all_files xs) (let l = length-map xs file_of in omega (arith, l, h))

-- as many files as are named
pub length_all_files : (xs : List NamedFile) → length (all_files xs) ≡ length xs
length_all_files xs = length-map xs file_of

-- sixteen numbers of a list from a place on, and nulls after its end
pub row_is : (blocks xs : List ℕ) (at : ℕ) → length blocks ≡ 16 → ((i : ℕ) → i < 16 → get_or blocks i 0 ≡ slice_index_or xs (at + i) null) → blocks ≡ take 16 (drop at xs ++ replicate 16 null)
row_is blocks xs at l all =
    let row = drop at xs in let nulls = replicate 16 null in
    let n = length-drop at xs in let r = length-replicate {A = ℕ} 16 null in
    let wide : length (take 16 (row ++ nulls)) ≡ 16 = (let t = length-take 16 (row ++ nulls) in let a = length-append row nulls in omega (arith, t, a, r)) in
    same_lists blocks (take 16 (row ++ nulls)) (l ∙ sym wide)
    (λ k d h. (let lt : k < 16 = omega (arith, l, h) in
    get_or_default blocks k d 0 h ∙ all k lt
    ∙ ⊎_elim
    (λ in_row. (let q : at + k < length xs = omega (arith, n, in_row) in
    get_or_default xs (at + k) null d q ∙ sym (get_or-take 16 (row ++ nulls) k d lt ∙ get_or-append row nulls d k in_row ∙ get_or-drop at xs k d)))
    (λ past. (get_or_past xs (at + k) null (omega (arith, n, past)) ∙ sym (get_or-take 16 (row ++ nulls) k d lt ∙ get_or-append_right row nulls (length row) k d refl past
    ∙ get_or-replicate 16 (k - length row) null d (omega (arith, lt)))))
    (cases_lt k (length row))))

-- one index block more of a disk block that is written
pub disk_more : (ys : List Index) (k : ℕ) (block : List ℕ) (y : Index) → k < length ys → k < 7 → get_or ys k no_index ≡ y
    → block ≡ flat_map index_bytes (take k ys) ++ replicate (512 - 72 * k) 0 → length (flat_map index_bytes (take k ys)) ≡ 72 * k
    → length (take (72 * k) block ++ index_bytes y ++ drop (72 * k + 72) block) ≡ 512
    → (take (72 * k) block ++ index_bytes y ++ drop (72 * k + 72) block ≡ flat_map index_bytes (take (k + 1) ys) ++ replicate (512 - 72 * (k + 1)) 0)
    × (length (flat_map index_bytes (take (k + 1) ys)) ≡ 72 * (k + 1))
disk_more ys k block y low seven at is front size =
    let F = flat_map index_bytes (take k ys) in let zs = replicate (512 - 72 * k) 0 in
    let one : take (72 * k) block ≡ F = ap (take (72 * k)) is ∙ take_at F zs (72 * k) front in
    let two : drop (72 * k + 72) block ≡ replicate (512 - 72 * (k + 1)) 0 =
    ap (drop (72 * k + 72)) is ∙ drop_past F zs (72 * k) (72 * k + 72) 72 front refl ∙ drop-replicate 72 (512 - 72 * k) 0 ∙ ap (λ n. replicate n 0) (let e : 512 - 72 * k - 72 ≡ 512 - 72 * (k + 1) = omega arith in e) in
    let more : F ++ index_bytes y ≡ flat_map index_bytes (take (k + 1) ys) =
    flat_map_more index_bytes [] (take k ys) y ∙ ap (λ x. flat_map index_bytes (take k ys ++ x ∷ [])) (sym at) ∙ ap (flat_map index_bytes) (sym (take_more ys k no_index low)) in
    let all : take (72 * k) block ++ index_bytes y ++ drop (72 * k + 72) block ≡ flat_map index_bytes (take (k + 1) ys) ++ replicate (512 - 72 * (k + 1)) 0 =
    ap (λ x. x ++ index_bytes y ++ drop (72 * k + 72) block) one ∙ ap (λ x. x ++ drop (72 * k + 72) block) more ∙ ap (λ x. flat_map index_bytes (take (k + 1) ys) ++ x) two in
    (all, (let l = ap length all in let r = length-replicate {A = ℕ} (512 - 72 * (k + 1)) 0 in let a = length-append (flat_map index_bytes (take (k + 1) ys)) (replicate (512 - 72 * (k + 1)) 0) in omega (arith, l, r, a, size, seven)))

-- and all seven
pub disk_all : (ys : List Index) (k : ℕ) (block : List ℕ) → k ≡ 7 → block ≡ flat_map index_bytes (take k ys) ++ replicate (512 - 72 * k) 0 → block ≡ flat_map index_bytes (take 7 ys) ++ replicate 8 0
disk_all ys k block e is = is ∙ ap (λ n. flat_map index_bytes (take n ys) ++ replicate (512 - 72 * n) 0) e

-- what one number more gives
pub flat_more : (f : ℕ → List ℕ) (low many : ℕ) → flat_map f (upwards low (suc many)) ≡ flat_map f (upwards low many) ++ f (low + many)
flat_more f low many =
    ap (flat_map f) (upwards_more low many) ∙ flat_map-append f (upwards low many) ((low + many) ∷ []) ∙ ap (λ x. flat_map f (upwards low many) ++ x) (append-nil (f (low + many)))

-- one number more upwards is one value more at the end
pub map_upwards_more : (f : ℕ → Index) (low many : ℕ) → map f (upwards low (suc many)) ≡ map f (upwards low many) ++ f (low + many) ∷ []
map_upwards_more f low many = ap (map f) (upwards_more low many) ∙ map_push f (upwards low many) (low + many)

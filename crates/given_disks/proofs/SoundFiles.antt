-- The files of a clean disk of version 2 are sound: they have names, in their order, there aren't too many, and they fit.
use Rattle.std.proofs.Common.{◌≡◌, ℕ, suc, ◌+◌, ◌/◌, ◌≤◌, Bool, true, not, ◌&&◌, nat_eq, nat_lt, nat_le, List, [], ◌∷◌, length, map, take, refl, sym, ap, ◌∙◌, arith, subst, None, option_map}
use Rattle.std.specs.List.{AllByRecursion, list_all, prefix_len}
use Rattle.std.proofs.lemmas.Bool.{and_from, and_parts, cond_both, le-leb}
use Rattle.std.proofs.lemmas.List.Folds.{length-prefix_len}
use Rattle.lfs_check.specs.Rules.{is_name, text_length}
use Rattle.lfs_layout.specs.Files.{File, bare_name, names_of, names_right, placed_files, sorted, total_for, blocks_for, is_among}
use Rattle.lfs_layout.specs.Images.{IsCleanImage}
use Rattle.lfs_layout.specs.Made.{Room}
use Rattle.lfs_layout.proofs.CleanOpens.{placed_names, placed_room}
use Rattle.file_laws.specs.StoredFiles.{stored, stored_files}
use Rattle.file_laws.proofs.Named.{AreApartFiles, AreNames, by_sorted, named_stored, names_apart, names_names, sorted_names}
use Rattle.file_laws.proofs.Sorting.{stored_with}
use Rattle.part_laws.proofs.FileSystems.Started.{sound_start}
use Rattle.part_laws.proofs.FileSystems.Stored.{all_stored, count_stored, order_stored}
use Rattle.xinu_model.specs.Files.Room.{data_blocks, data_needed, data_room, index_blocks, index_needed, index_room}
use Rattle.xinu_model.specs.Files.Sound.{IsSoundFiles}
use Rattle.xinu_model.specs.Files.Stored.{StoredFile, file_named, file_names, is_file_name, precedes, with_stored}
use Rattle.xinu_model.specs.Files.Systems.{closed_system}
use Rattle.xinu_model.specs.Sound.Tables.{IsInOrder, total}

-- ---- names

-- the first elements that pass a test all pass it
all_first : (p : ℕ → Bool) (xs : List ℕ) → list_all p (take (prefix_len p xs) xs) ≡ true
all_first p [] = refl
all_first p (x ∷ xs) =
    cond_both (p x) (1 + prefix_len p xs) 0 (λ n. list_all p (take n (x ∷ xs)) ≡ true)
    (λ e. (let more : 1 + prefix_len p xs ≡ suc (prefix_len p xs) = omega arith in
    ap (λ n. list_all p (take n (x ∷ xs))) more ∙ and_from (p x) (list_all p (take (prefix_len p xs) xs)) e (all_first p xs)))
    (λ e. refl)

-- a name without the zeros after it is one of the abstract machine
bare_is_name : (name : List ℕ) → is_name 27 name ≡ true → is_file_name (bare_name name) ≡ true
unfolding is_name text_length
bare_is_name name is =
    let p : ℕ → Bool = λ b. not (nat_eq b 0) in
    let n = prefix_len p name in
    let long = length-prefix_len p name in
    let parts = and_parts (nat_lt 0 n && nat_le n 27) _ is in
    let counts = and_parts (nat_lt 0 n) (nat_le n 27) parts.0 in
    and_from (nat_lt 0 (length (take n name))) _ (ap (nat_lt 0) long ∙ counts.0)
    (and_from (nat_le (length (take n name)) 27) _ (ap (λ m. nat_le m 27) long ∙ counts.1) (all_first p name))

-- each file has a name
abbrev AllNamed : List File → Type 0
AllNamed files = AllByRecursion (λ (f : File). is_name 27 f.name ≡ true) files

all_named : (before : List (List ℕ)) (files : List File) → names_right 27 before (names_of files) ≡ true → AllNamed files
all_named before [] right = tt
all_named before (f ∷ files) right =
    let parts = and_parts (is_name 27 f.name && not (is_among before f.name)) _ right in
    ((and_parts (is_name 27 f.name) _ parts.0).0, all_named _ files parts.1)

-- files in their order, one more in its place
stored_sorted : (f : File) (files : List File) → AreNames (f ∷ files)
    → map stored (sorted (f ∷ files)) ≡ with_stored (stored f) (map stored (sorted files))
stored_sorted f files a = stored_with f (sorted files) a.0 (sorted_names files a.1)

names_sound : (files : List File) → AreNames files → AllNamed files
    → AllByRecursion (λ name. is_file_name name ≡ true) (file_names (map stored (sorted files)))
names_sound [] a named = tt
names_sound (f ∷ files) a named =
    let P : List StoredFile → Type 0 = λ l. AllByRecursion (λ name. is_file_name name ≡ true) (file_names l) in
    subst P (sym (stored_sorted f files a))
    (all_stored (λ name. is_file_name name ≡ true) (stored f) (map stored (sorted files)) (bare_is_name f.name named.0)
    (names_sound files a.1 named.1))

-- ---- their order

order_sound : (files : List File) → AreNames files → AreApartFiles files
    → IsInOrder (λ name other. precedes name other ≡ true) (file_names (map stored (sorted files)))
order_sound [] a apart = tt
order_sound (f ∷ files) a apart =
    let P : List StoredFile → Type 0 = λ l. IsInOrder (λ name other. precedes name other ≡ true) (file_names l) in
    let none : file_named (bare_name f.name) (map stored (sorted files)) ≡ None =
    named_stored f.name (sorted files) a.0 (sorted_names files a.1)
    ∙ ap (option_map stored) (by_sorted f.name files apart.1 ∙ apart.0) in
    subst P (sym (stored_sorted f files a))
    (order_stored (stored f) (map stored (sorted files)) none (order_sound files a.1 apart.1))

-- ---- their number and their room

count_sound : (files : List File) → AreNames files → length (map stored (sorted files)) ≡ length files
count_sound [] a = refl
count_sound (f ∷ files) a =
    ap length (stored_sorted f files a) ∙ count_stored (stored f) (map stored (sorted files)) ∙ ap suc (count_sound files a.1)

-- what files need is the same in any order
total_with : (need : StoredFile → ℕ) (file : StoredFile) (files : List StoredFile)
    → total need (with_stored file files) ≡ need file + total need files
total_with need file [] = refl
total_with need file (f ∷ files) =
    let rest = total_with need file files in
    cond_both (precedes file.name f.name) (file ∷ f ∷ files) (f ∷ with_stored file files)
    (λ l. total need l ≡ need file + (need f + total need files)) (λ _. refl) (λ _. omega (arith, rest))

data_sound : (files : List File) → AreNames files → data_needed (map stored (sorted files)) ≡ total_for 512 files
data_sound [] a = refl
data_sound (f ∷ files) a =
    let need : StoredFile → ℕ = λ g. data_blocks (length g.bytes) in
    ap data_needed (stored_sorted f files a) ∙ total_with need (stored f) (map stored (sorted files))
    ∙ ap (λ n. blocks_for 512 f + n) (data_sound files a.1)

index_sound : (files : List File) → AreNames files → index_needed (map stored (sorted files)) ≡ total_for 8192 files
index_sound [] a = refl
index_sound (f ∷ files) a =
    let need : StoredFile → ℕ = λ g. index_blocks (length g.bytes) in
    ap index_needed (stored_sorted f files a) ∙ total_with need (stored f) (map stored (sorted files))
    ∙ ap (λ n. blocks_for 8192 f + n) (index_sound files a.1)

-- ---- together

sound_of : (n : ℕ) (files : List File) → names_right 27 [] (names_of files) ≡ true → Room n files
    → IsSoundFiles (closed_system n (map stored (sorted files)))
sound_of n files right room =
    let named = all_named [] files right in
    let names = names_names [] files right room.wide in
    let count = count_sound files names in
    let few : length (map stored (sorted files)) ≤ 78 = omega (arith, count, room.few) in
    let data_fits : data_needed (map stored (sorted files)) ≤ data_room n =
    subst (λ m. m ≤ data_room n) (sym (data_sound files names)) room.data_room in
    let index_fits : index_needed (map stored (sorted files)) ≤ index_room n =
    subst (λ m. m ≤ index_room n) (sym (index_sound files names)) room.index_room in
    sound_start n (map stored (sorted files)) (names_sound files names named) (order_sound files names (names_apart [] files right)) few
    (and_from (nat_le (data_needed (map stored (sorted files))) (data_room n)) _ (le-leb _ (data_room n) data_fits) (le-leb _ (index_room n) index_fits))

-- The files of a clean disk are sound on as many blocks as it has.
pub sound_files : (disk : List ℕ) → IsCleanImage disk → IsSoundFiles (closed_system (length disk / 512) (stored_files disk))
unfolding stored_files
sound_files disk c =
    sound_of (length disk / 512) (placed_files disk) (placed_names disk c.faultless) (placed_room disk c.faultless c.version)

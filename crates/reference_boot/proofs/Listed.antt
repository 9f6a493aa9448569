-- The k-th file of a clean image in the order of names is the one that is read by the k-th name.
use Rattle.std.proofs.Common.{◌≡◌, ◌∙◌, ℕ, zero, suc, ◌+◌, ◌-◌, ◌≤◌, Bool, true, cond, not, ◌&&◌, nat_eq, nat_lt, nat_le, List, [], ◌∷◌, ◌++◌, length, map, take, drop, replicate, Option, Some, None, MatchOption, IsSome, slice_get, bytes_eq, refl, sym, ap, subst, arith}
use Rattle.std.specs.List.{find, list_all, prefix_len}
use Rattle.std.specs.Option.{option_map}
use Rattle.std.proofs.lemmas.Bool.{and_from, and_parts, cond_both}
use Rattle.std.proofs.lemmas.List.{length-append, length-map, take-append-drop, take_more}
use Rattle.std.proofs.lemmas.List.Folds.{length-prefix_len}
use Rattle.std.proofs.lemmas.Option.{get_or_from_slice_get, slice_get-map, slice_get_within}
use Rattle.std.proofs.lemmas.Slice.Eq.{bytes_eq-Decides}
use Rattle.lfs_check.proofs.KeepsAll.{either-way}
use Rattle.lfs_check.specs.Rules.{are_zeros, is_name, text_length}
use Rattle.lfs_layout.specs.Files.{File, bare_name, content_named, files_of, found, is_among, is_before, is_text, listing, names_of, names_right, padded_name, placed_files, with_file}
use Rattle.lfs_layout.specs.Images.{IsCleanImage}
use Rattle.lfs_layout.proofs.CleanOpens.{placed_names, placed_room}
use Rattle.lfs_layout.proofs.Ordered.{sorted_at}
use Rattle.file_laws.specs.StoredFiles.{stored, stored_files}
use Rattle.file_laws.proofs.Named.{AreApartFiles, AreNames, IsName, clean_names, file_by, names_apart}
use Rattle.file_laws.proofs.Right.{zeros_are}
use Rattle.lfs_layout.proofs.ImageLaws.{length-sorted}

-- ---- a file is found by its name

-- a file that passes a test is the one that is found by its name, if no two names are the same
found_by : (test : File → Bool) (files : List File) (f : File) → AreApartFiles files → find test files ≡ Some f → file_by f.name files ≡ Some f
found_by test [] f apart is = absurd (cc)
found_by test (g ∷ files) f apart is =
    either-way (test g) (λ v. cond v (Some g) (find test files) ≡ Some f → file_by f.name (g ∷ files) ≡ Some f)
    (λ _ e. (let same : g ≡ f = cc in
    let P : File → Type 0 = λ x. file_by x.name (g ∷ files) ≡ Some x in
    subst P same (ap (λ v. cond v (Some g) (file_by g.name files)) ((bytes_eq-Decides g.name g.name).1 refl))))
    (λ _ e. (let later = found_by test files f apart.1 e in
    either-way (bytes_eq g.name f.name) (λ v. bytes_eq g.name f.name ≡ v → cond v (Some g) (file_by f.name files) ≡ Some f)
    (λ _ t. (let other : file_by f.name files ≡ None = ap (λ n. file_by n files) (sym ((bytes_eq-Decides g.name f.name).0 t)) ∙ apart.0 in absurd (cc)))
    (λ _ t. later) refl))
    is

-- its name is right
right_by : (before : List (List ℕ)) (test : File → Bool) (files : List File) (f : File) → names_right 27 before (names_of files) ≡ true
    → find test files ≡ Some f → is_name 27 f.name ≡ true
right_by before test [] f right is = absurd (cc)
right_by before test (g ∷ files) f right is =
    let parts = and_parts (is_name 27 g.name && not (is_among before g.name)) (names_right 27 (before ++ g.name ∷ []) (names_of files)) right in
    let mine = (and_parts (is_name 27 g.name) (not (is_among before g.name)) parts.0).0 in
    either-way (test g) (λ v. cond v (Some g) (find test files) ≡ Some f → is_name 27 f.name ≡ true)
    (λ _ e. (let same : g ≡ f = cc in ap (λ (x : File). is_name 27 x.name) (sym same) ∙ mine))
    (λ _ e. right_by (before ++ g.name ∷ []) test files f parts.1 e)
    is

-- the bytes of the file of a name
bytes_by : (name : List ℕ) (files : List File) → content_named name files ≡ option_map (λ (f : File). f.bytes) (file_by name files)
bytes_by name [] = refl
bytes_by name (f ∷ files) =
    ap (λ o. cond (bytes_eq f.name name) (Some f.bytes) o) (bytes_by name files)
    ∙ either-way (bytes_eq f.name name)
    (λ v. cond v (Some f.bytes) (option_map (λ (g : File). g.bytes) (file_by name files)) ≡ option_map (λ (g : File). g.bytes) (cond v (Some f) (file_by name files)))
    (λ _. refl) (λ _. refl)

-- ---- names and their texts

-- the first elements that pass a test all pass it
all_first : (test : ℕ → Bool) (xs : List ℕ) → list_all test (take (prefix_len test xs) xs) ≡ true
all_first test [] = refl
all_first test (x ∷ xs) =
    cond_both (test x) (1 + prefix_len test xs) 0 (λ n. list_all test (take n (x ∷ xs)) ≡ true)
    (λ e. (let more : 1 + prefix_len test xs ≡ suc (prefix_len test xs) = omega arith in
    ap (λ n. list_all test (take n (x ∷ xs))) more ∙ and_from (test x) (list_all test (take (prefix_len test xs) xs)) e (all_first test xs)))
    (λ e. refl)

-- a name without the zeros after it is a text
bare_is_text : (name : List ℕ) → is_name 27 name ≡ true → is_text (bare_name name) ≡ true
unfolding is_name text_length
bare_is_text name is =
    let test : ℕ → Bool = λ b. not (nat_eq b 0) in
    let n = prefix_len test name in
    let long = length-prefix_len test name in
    let parts = and_parts (nat_lt 0 n && nat_le n 27) (are_zeros (drop n name)) is in
    let counts = and_parts (nat_lt 0 n) (nat_le n 27) parts.0 in
    and_from (nat_lt 0 (length (take n name)) && nat_le (length (take n name)) 27) (list_all test (take n name))
    (and_from (nat_lt 0 (length (take n name))) (nat_le (length (take n name)) 27) (ap (nat_lt 0) long ∙ counts.0) (ap (λ m. nat_le m 27) long ∙ counts.1))
    (all_first test name)

-- a name of 28 bytes is its text with the zeros after it
padded_bare : (name : List ℕ) → IsName name → padded_name (bare_name name) ≡ name
padded_bare name is =
    let n = text_length name in
    let zeros = zeros_are (drop n name) is.padded in
    let both = take-append-drop n name in
    let long = is.long in
    let parts = length-append (take n name) (drop n name) in
    let count : 28 - length (take n name) ≡ length (drop n name) = omega (arith, parts, long, ap length both) in
    ap (λ m. take n name ++ replicate m 0) count ∙ ap (λ l. take n name ++ l) (sym zeros) ∙ both

-- ---- the k-th file

-- the names of files are names
name_at : (files : List File) (k : ℕ) (f : File) → AreNames files → slice_get files k ≡ Some f → IsName f.name
name_at [] k f names is = absurd (cc)
name_at (g ∷ files) zero f names is = (let same : g ≡ f = cc in subst (λ (x : File). IsName x.name) same names.0)
name_at (g ∷ files) (suc k) f names is = name_at files k f names.1 is

-- what is read by the name of the k-th file are its bytes
bytes_at : (disk : List ℕ) (k : ℕ) (f : File) → IsCleanImage disk → slice_get (files_of disk) k ≡ Some f
    → found (bare_name f.name) (placed_files disk) ≡ Some f.bytes
bytes_at disk k f clean is =
    let files = placed_files disk in
    let right = placed_names disk clean.faultless in
    let there = sym (sorted_at 27 files k right) ∙ is in
    let text = bare_is_text f.name (right_by [] _ files f right there) in
    let name = padded_bare f.name (name_at (files_of disk) k f (clean_names disk clean) is) in
    ap (λ v. cond v (content_named (padded_name (bare_name f.name)) files) None) text
    ∙ ap (λ n. content_named n files) name
    ∙ bytes_by f.name files
    ∙ ap (option_map (λ (g : File). g.bytes)) (found_by _ files f (names_apart [] files right) there)

-- what is at a place of a list of which something is shown
shown_at : {A B : Type 0} (show : A → B) (xs : List A) (k : ℕ) (y : B) → slice_get (map show xs) k ≡ Some y → (x : A) × (slice_get xs k ≡ Some x) × (show x ≡ y)
shown_at {A = A} {B = B} show xs k y is = from (slice_get xs k) refl
  where
    from : (o : Option A) → slice_get xs k ≡ o → (x : A) × (slice_get xs k ≡ Some x) × (show x ≡ y)
    from None e = (let none : slice_get (map show xs) k ≡ None = slice_get-map show xs k ∙ ap (option_map show) e in absurd (cc))
    from (Some x) e = (let some : slice_get (map show xs) k ≡ Some (show x) = slice_get-map show xs k ∙ ap (option_map show) e in (x, e, cc))

-- The bytes of a name of the listing are there, and with the name they are the file at that place.
pub record IsFileAt (disk : List ℕ) (k : ℕ) (name : List ℕ) : Type 0 where
  pub bytes : List ℕ
  pub read : found name (placed_files disk) ≡ Some bytes
  pub is : slice_get (stored_files disk) k ≡ Some (record { name = name; bytes = bytes })

pub listed_file : (disk : List ℕ) (k size : ℕ) (name : List ℕ) → IsCleanImage disk → slice_get (listing (files_of disk)) k ≡ Some (name, size)
    → IsFileAt disk k name
unfolding stored_files
listed_file disk k size name clean is =
    let f = shown_at (λ (g : File). (bare_name g.name, length g.bytes)) (files_of disk) k (name, size) is in
    let named : bare_name f.0.name ≡ name = ap (λ (p : List ℕ × ℕ). p.0) f.2 in record {
      bytes = f.0.bytes;
      read = ap (λ n. found n (placed_files disk)) (sym named) ∙ bytes_at disk k f.0 clean f.1;
      is = slice_get-map stored (files_of disk) k ∙ ap (option_map stored) f.1
          ∙ ap (λ n. Some (record { name = n; bytes = f.0.bytes })) named;
    }

-- There is no file at a place that the listing doesn't have.
pub none_listed : (disk : List ℕ) (k : ℕ) → slice_get (listing (files_of disk)) k ≡ None → slice_get (stored_files disk) k ≡ None
unfolding stored_files
none_listed disk k is = from (slice_get (files_of disk) k) refl
  where
    from : (o : Option File) → slice_get (files_of disk) k ≡ o → slice_get (map stored (files_of disk)) k ≡ None
    from None e = slice_get-map stored (files_of disk) k ∙ ap (option_map stored) e
    from (Some f) e = (let show : File → List ℕ × ℕ = λ g. (bare_name g.name, length g.bytes) in
        let some : slice_get (listing (files_of disk)) k ≡ Some (show f) = slice_get-map show (files_of disk) k ∙ ap (option_map show) e in absurd (cc))

-- what is read is the bytes if they are there
pub is_read : {V : Type 0} (items : V → List ℕ) (o : Option V) (read : Option (List ℕ)) (bytes : List ℕ) → read ≡ Some bytes
    → MatchOption o (read ≡ None) (λ v. read ≡ Some (items v)) → IsSome o
is_read items None read bytes is m = absurd (cc)
is_read items (Some v) read bytes is m = refl

pub bytes_read : {V : Type 0} (items : V → List ℕ) (o : Option V) (v : V) (read : Option (List ℕ)) (bytes : List ℕ) → read ≡ Some bytes
    → MatchOption o (read ≡ None) (λ w. read ≡ Some (items w)) → o ≡ Some v → bytes ≡ items v
bytes_read items None v read bytes is m there = absurd (cc)
bytes_read items (Some w) v read bytes is m there = (let same : w ≡ v = cc in let all : bytes ≡ items w = cc in all ∙ ap items same)

-- ---- all files

-- there are as many in their order
pub count_with : (f : File) (files : List File) → length (with_file f files) ≡ length files + 1
count_with f [] = refl
count_with f (g ∷ files) =
    let rest = count_with f files in
    cond_both (is_before f.name g.name) (f ∷ g ∷ files) (g ∷ with_file f files) (λ l. length l ≡ length (g ∷ files) + 1) (λ _. omega arith) (λ _. omega (arith, rest))

-- A clean image has at most 78 files.
pub few_files : (disk : List ℕ) → IsCleanImage disk → length (stored_files disk) ≤ 78
unfolding stored_files
few_files disk clean =
    let few = (placed_room disk clean.faultless clean.version).few in
    let all = length-sorted (placed_files disk) in
    let stored_too = length-map (files_of disk) stored in
    omega (arith, few, all, stored_too)

-- The files up to a place, and the one at that place if there is one.
pub files_more : {X : Type 0} (files : List X) (k : ℕ) (f : X) → slice_get files k ≡ Some f → take (k + 1) files ≡ take k files ++ f ∷ []
files_more files k f is =
    take_more files k f (slice_get_within files k f is) ∙ ap (λ x. take k files ++ x ∷ []) (get_or_from_slice_get files k f f is)

-- If there is none at a place, the files before it are all.
pub files_end : {X : Type 0} (files : List X) (k : ℕ) → slice_get files k ≡ None → take k files ≡ files
files_end [] zero is = refl
files_end [] (suc k) is = refl
files_end (f ∷ files) zero is = absurd (cc)
files_end (f ∷ files) (suc k) is = ap (λ l. f ∷ l) (files_end files k is)

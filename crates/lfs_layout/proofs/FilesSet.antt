-- Lemmas on the files with one set.
use Rattle.std.proofs.Common.{◌≡◌, ℕ, zero, suc, ◌+◌, ◌-◌, ◌<◌, ◌≤◌, Bool, true, false, cond, not, ◌&&◌, ◌||◌, nat_eq, nat_lt, nat_le, List, [], ◌∷◌, ◌++◌, length, get_or, drop, replicate, refl, sym, ap, ◌∙◌, arith, length-append, bytes_eq, Some}
use Rattle.lfs_check.proofs.KeptRead.{or_or_false}
use Rattle.std.specs.Option.{option_map}
use Rattle.std.specs.List.{list_all, prefix_len}
use Rattle.std.proofs.lemmas.List.{drop_at, length-replicate}
use Rattle.std.proofs.lemmas.List.Folds.{list_any-append}
use Rattle.std.proofs.lemmas.Bool.{and_parts, not-true, or_parts}
use Rattle.std.proofs.lemmas.Bool.Decides.{nat_tests}
use Rattle.lfs_format.specs.declared.Entry.{Entry}
use Rattle.lfs_format.specs.declared.Index.{Index}
use Rattle.lfs_check.specs.declared.geometry.Geometry.{Geometry}
use Rattle.lfs_check.specs.Geometries.{index_count, first_data}
use Rattle.lfs_check.specs.Rules.{entry_is_used, is_name, text_length, are_zeros}
use Rattle.lfs_check.proofs.Directories.{each_append}
use Rattle.lfs_layout.specs.Files.{File, content_of, files_in, total_for, have_room, is_among, names_right, names_of, without_name, with_set, is_text, padded_name, other_entries, content_named, entry_named}
use Rattle.lfs_layout.specs.Made.{geometry_2, no_file, Room}

-- the files of the entries without those of a name
pub files_without : (g : Geometry) (ix : List Index) (image name : List ℕ) (es : List Entry) → files_in g ix image (other_entries name es) ≡ without_name name (files_in g ix image es)
files_without g ix image name [] = refl
files_without g ix image name (e ∷ es) =
    let f : File = record { name = e.name; bytes = content_of g ix image e } in
    let i = files_without g ix image name es in
    let rest = files_in g ix image es in let others = other_entries name es in
    let same = bytes_eq e.name name in
    let P : Bool → Type 0 = λ b. bytes_eq e.name name ≡ b → files_in g ix image (cond b others (e ∷ others)) ≡ without_name name (cond (entry_is_used e) (f ∷ rest) rest) in
    let skip : (u : Bool) → same ≡ true → without_name name (cond u (f ∷ rest) rest) ≡ without_name name rest = λ u s.
    elim u as (λ u. without_name name (cond u (f ∷ rest) rest) ≡ without_name name rest) [ true ↦ ap (λ b. cond b (without_name name rest) (f ∷ without_name name rest)) s | false ↦ refl ] in
    let keep : (u : Bool) → same ≡ false → cond u (f ∷ files_in g ix image others) (files_in g ix image others) ≡ without_name name (cond u (f ∷ rest) rest) = λ u s.
    elim u as (λ u. cond u (f ∷ files_in g ix image others) (files_in g ix image others) ≡ without_name name (cond u (f ∷ rest) rest))
    [ true ↦ ap (λ fs. f ∷ fs) i ∙ sym (ap (λ b. cond b (without_name name rest) (f ∷ without_name name rest)) s) | false ↦ i ] in
    let yes : P true = λ s. i ∙ sym (skip (entry_is_used e) s) in
    let no : P false = λ s. keep (entry_is_used e) s in
    let all : (b : Bool) → P b = λ b. elim b as (λ b. P b) [ true ↦ yes | false ↦ no ] in
    all same refl

-- names

-- the name of a file that was taken away is among none
among_not : (name : List ℕ) (files : List File) → is_among (names_of (without_name name files)) name ≡ false
among_not name [] = refl
among_not name (f ∷ files) =
    let i = among_not name files in
    let P : Bool → Type 0 = λ b. bytes_eq f.name name ≡ b → is_among (names_of (cond b (without_name name files) (f ∷ without_name name files))) name ≡ false in
    let yes : P true = λ s. i in
    let no : P false = λ s. ap (λ b. b || is_among (names_of (without_name name files)) name) s ∙ i in
    let all : (b : Bool) → P b = λ b. elim b as (λ b. P b) [ true ↦ yes | false ↦ no ] in
    all (bytes_eq f.name name) refl

-- each name that isn't among many isn't among few
abbrev Fewer : List (List ℕ) → List (List ℕ) → Type 0
Fewer few many = (x : List ℕ) → is_among many x ≡ false → is_among few x ≡ false

-- one name more at the end
pub among_push : (names : List (List ℕ)) (n x : List ℕ) → is_among (names ++ n ∷ []) x ≡ is_among names x || bytes_eq n x
among_push names n x = list_any-append (λ y. bytes_eq y x) names (n ∷ []) ∙ or_or_false (is_among names x) (bytes_eq n x)

-- files without that of a name keep names that are right, since fewer come before each
names_fewer : (name : List ℕ) (few many : List (List ℕ)) (files : List File) → Fewer few many → names_right 27 many (names_of files) ≡ true → names_right 27 few (names_of (without_name name files)) ≡ true
names_fewer name few many [] h e = refl
names_fewer name few many (f ∷ files) h e =
    let n = f.name in
    let one = and_parts (is_name 27 n && not (is_among many n)) (names_right 27 (many ++ n ∷ []) (names_of files)) e in
    let two = and_parts (is_name 27 n) (not (is_among many n)) one.0 in
    let P : Bool → Type 0 = λ b. names_right 27 few (names_of (cond b (without_name name files) (f ∷ without_name name files))) ≡ true in
    let yes : P true = names_fewer name few (many ++ n ∷ []) files (λ x q. h x (or_parts (is_among many x) (bytes_eq n x) (sym (among_push many n x) ∙ q)).0) one.1 in
    let both : Fewer (few ++ n ∷ []) (many ++ n ∷ []) = λ x q. (let p = or_parts (is_among many x) (bytes_eq n x) (sym (among_push many n x) ∙ q) in
    among_push few n x ∙ ap (λ b. b || bytes_eq n x) (h x p.0) ∙ p.1) in
    let rest = names_right 27 (few ++ n ∷ []) (names_of (without_name name files)) in
    let no : P false =
    ap (λ b. b && not (is_among few n) && rest) two.0 ∙ ap (λ b. not b && rest) (h n (not-true (is_among many n) two.1)) ∙ names_fewer name (few ++ n ∷ []) (many ++ n ∷ []) files both one.1 in
    let all : (b : Bool) → P b = λ b. elim b as (λ b. P b) [ true ↦ yes | false ↦ no ] in
    all (bytes_eq n name)

-- a file with a new name at the end keeps names that are right
names_push : (before : List (List ℕ)) (files : List File) (f : File) → names_right 27 before (names_of files) ≡ true → is_name 27 f.name ≡ true → is_among before f.name ≡ false → is_among (names_of files) f.name ≡ false
    → names_right 27 before (names_of (files ++ f ∷ [])) ≡ true
names_push before [] f e n p q = ap (λ b. b && not (is_among before f.name) && true) n ∙ ap (λ b. not b && true) p
names_push before (x ∷ files) f e n p q =
    let one = and_parts (is_name 27 x.name && not (is_among before x.name)) (names_right 27 (before ++ x.name ∷ []) (names_of files)) e in
    let r = or_parts (bytes_eq x.name f.name) (is_among (names_of files) f.name) q in
    ap (λ b. b && names_right 27 (before ++ x.name ∷ []) (names_of (files ++ f ∷ []))) one.0
    ∙ names_push (before ++ x.name ∷ []) files f one.1 n (among_push before x.name f.name ∙ ap (λ b. b || bytes_eq x.name f.name) p ∙ r.0) r.1

-- the names of the files with one set are right
pub set_names : (files : List File) (f : File) → names_right 27 [] (names_of files) ≡ true → is_name 27 f.name ≡ true → names_right 27 [] (names_of (with_set f files)) ≡ true
set_names files f e n = names_push [] (without_name f.name files) f (names_fewer f.name [] [] files (λ x q. q) e) n refl (among_not f.name files)

-- a text with zeros after it is a name
pub text_runs : (text : List ℕ) (m : ℕ) → list_all (λ b. not (nat_eq b 0)) text ≡ true → text_length (text ++ replicate m 0) ≡ length text
unfolding text_length
text_runs [] zero e = refl
text_runs [] (suc m) e = refl
text_runs (x ∷ text) m e =
    let p = and_parts (not (nat_eq x 0)) (list_all (λ b. not (nat_eq b 0)) text) e in
    let i = text_runs text m p.1 in
    ap (λ b. cond b (1 + prefix_len (λ c. not (nat_eq c 0)) (text ++ replicate m 0)) 0) p.0 ∙ (omega (arith, i))

-- zeros are zeros
are_zeros_replicate : (m : ℕ) → are_zeros (replicate m 0) ≡ true
are_zeros_replicate zero = refl
are_zeros_replicate (suc m) = are_zeros_replicate m

-- a text that can be a name is one with zeros after it
pub text_name : (text : List ℕ) → is_text text ≡ true → is_name 27 (padded_name text) ≡ true
unfolding is_name
text_name text e =
    let one = and_parts (nat_lt 0 (length text) && nat_le (length text) 27) (list_all (λ b. not (nat_eq b 0)) text) e in
    let l = text_runs text (28 - length text) one.1 in
    let n = padded_name text in
    ap (λ k. nat_lt 0 k && nat_le k 27 && are_zeros (drop k n)) l ∙ ap (λ b. b && are_zeros (drop (length text) n)) one.0
    ∙ ap are_zeros (drop_at text (replicate (28 - length text) 0) (length text) refl) ∙ are_zeros_replicate (28 - length text)

-- a text that can be a name has at most 27 bytes
pub text_short : (text : List ℕ) → is_text text ≡ true → length text ≤ 27
text_short text e =
    let one = and_parts (nat_lt 0 (length text) && nat_le (length text) 27) (list_all (λ b. not (nat_eq b 0)) text) e in
    let two = and_parts (nat_lt 0 (length text)) (nat_le (length text) 27) one.0 in
    let t = two.1 in grind (arith, nat_tests)

-- a padded name has 28 bytes
length_padded_name : (text : List ℕ) → length text ≤ 27 → length (padded_name text) ≡ 28
length_padded_name text h = let a = length-append text (replicate (28 - length text) 0) in let r = length-replicate {A = ℕ} (28 - length text) 0 in omega (arith, a, r, h)

-- widths
abbrev Wide : List File → Type 0
Wide files = (k : ℕ) → k < length files → length (get_or files k no_file).name ≡ 28

-- fewer files are as wide
wide_without : (name : List ℕ) (files : List File) → Wide files → Wide (without_name name files)
wide_without name [] w k h = absurd (omega (arith, h))
wide_without name (f ∷ files) w k h =
    let i = wide_without name files (λ j m. w (suc j) (omega (arith, m))) in
    let here : Wide (f ∷ without_name name files) = wide_more f (without_name name files) (w 0 (omega arith)) i in
    let P : Bool → Type 0 = λ b. Wide (cond b (without_name name files) (f ∷ without_name name files)) in
    let all : (b : Bool) → P b = λ b. elim b as (λ b. P b) [ true ↦ i | false ↦ here ] in
    all (bytes_eq f.name name) k h
  where
    wide_more : (f : File) (files : List File) → length f.name ≡ 28 → Wide files → Wide (f ∷ files)
    wide_more f files e w zero h = e
    wide_more f files e w (suc k) h = w k (omega (arith, h))

-- one file with a name of 28 bytes
wide_alone : (f : File) → length f.name ≡ 28 → Wide (f ∷ [])
wide_alone f e zero h = e
wide_alone f e (suc k) h = absurd (omega (arith, h))

-- the files with one set have room if the test says so
pub set_room : (n : ℕ) (files : List File) (text bytes : List ℕ) → 14 ≤ n → n ≤ 65542 → Wide files → is_text text ≡ true
    → have_room (geometry_2 n) (with_set (record { name = padded_name text; bytes = bytes }) files) ≡ true → Room n (with_set (record { name = padded_name text; bytes = bytes }) files)
set_room n files text bytes low high w t e =
    let f : File = record { name = padded_name text; bytes = bytes } in
    let g = geometry_2 n in let all = with_set f files in
    let P : File → Type 0 = λ x. length x.name ≡ 28 in
    let one = and_parts (nat_le (length all) 78 && nat_le (total_for 512 all) (g.blocks - first_data g)) (nat_le (total_for 8192 all) (index_count g)) e in
    let two = and_parts (nat_le (length all) 78) (nat_le (total_for 512 all) (g.blocks - first_data g)) one.0 in
    record {
      low = low;
      high = high;
      data_room = (let t = two.1 in grind (arith, nat_tests));
      index_room = (let t = one.1 in grind (arith, nat_tests));
      few = (let t = two.0 in grind (arith, nat_tests));
      wide = each_append P (without_name (padded_name text) files) (f ∷ []) no_file (wide_without (padded_name text) files w) (wide_alone f (length_padded_name text (text_short text t)));
    }

-- the bytes of a name are those of its first entry
pub bytes_named : (g : Geometry) (ix : List Index) (image name : List ℕ) (es : List Entry) → content_named name (files_in g ix image es) ≡ option_map (content_of g ix image) (entry_named name es)
bytes_named g ix image name [] = refl
bytes_named g ix image name (e ∷ es) =
    let f : File = record { name = e.name; bytes = content_of g ix image e } in
    let i = bytes_named g ix image name es in
    let rest = files_in g ix image es in let same = bytes_eq e.name name in
    let P : Bool → Type 0 = λ u. content_named name (cond u (f ∷ rest) rest) ≡ option_map (content_of g ix image) (cond (u && same) (Some e) (entry_named name es)) in
    let Q : Bool → Type 0 = λ s. cond s (Some (content_of g ix image e)) (content_named name rest) ≡ option_map (content_of g ix image) (cond s (Some e) (entry_named name es)) in
    let yes : P true = (let all : (s : Bool) → Q s = λ s. elim s as (λ s. Q s) [ true ↦ refl | false ↦ i ] in all same) in
    let all : (u : Bool) → P u = λ u. elim u as (λ u. P u) [ true ↦ yes | false ↦ i ] in
    all (entry_is_used e)

-- The k-th file of a clean image in the order of names, found among its entries.
use Rattle.std.proofs.Common.{◌≡◌, ℕ, suc, ◌+◌, ◌*◌, ◌/◌, ◌≤◌, Bool, true, false, cond, not, ◌&&◌, nat_eq, nat_lt, nat_le, List, [], ◌∷◌, ◌++◌, length, map, refl, sym, ap, ◌∙◌, arith, Option, Some, count_by, slice_get, is_some, zero}
use Rattle.lfs_check.proofs.KeepsAll.{either-way}
use Rattle.std.specs.List.{find}
use Rattle.std.specs.Option.{option_map}
use Rattle.std.proofs.lemmas.Option.{slice_get-map}
use Rattle.std.proofs.lemmas.List.Sums.{sum_by-cons}
use Rattle.std.proofs.lemmas.Bool.{and_parts}
use Rattle.std.proofs.lemmas.Bool.Decides.{nat_tests}
use Rattle.lfs_format.specs.declared.Entry.{Entry}
use Rattle.lfs_format.specs.declared.Index.{Index}
use Rattle.lfs_check.specs.declared.geometry.Geometry.{Geometry}
use Rattle.lfs_check.specs.Rules.{entry_is_used, is_name, text_length}
use Rattle.lfs_check.specs.Fields.{geometry_of, fields_of, directory_entries, entries_2}
use Rattle.lfs_check.proofs.Images.{whole_blocks}
use Rattle.lfs_layout.specs.Files.{File, bare_name, content_of, files_in, placed_files, files_of, listing, is_before, names_before, is_among, names_right, names_of}
use Rattle.lfs_layout.specs.Images.{IsCleanImage}
use Rattle.lfs_layout.proofs.CleanRoom.{AllWhole, length_bytes}
use Rattle.lfs_layout.proofs.CleanOpens.{all_whole, placed_names}
use Rattle.lfs_layout.proofs.Ordered.{sorted_at}

-- what a listing shows of an entry
abbrev entry_shown : Entry → List ℕ × ℕ
entry_shown e = (bare_name e.name, e.size)

-- what a listing shows of a file
abbrev file_shown : File → List ℕ × ℕ
file_shown f = (bare_name f.name, length f.bytes)

-- the names of used entries are those of the files
names_counted : (g : Geometry) (ix : List Index) (image name : List ℕ) (es : List Entry)
    → names_before es name ≡ count_by (λ (f : File). is_before f.name name) (files_in g ix image es)
names_counted g ix image name [] = refl
names_counted g ix image name (e ∷ es) =
    let i = names_counted g ix image name es in
    let f : File = record { name = e.name; bytes = content_of g ix image e } in let rest = files_in g ix image es in
    sum_by-cons (λ (h : Entry). cond (entry_is_used h && is_before h.name name) 1 0) e es
    ∙ either-way (entry_is_used e) (λ u. cond (u && is_before e.name name) 1 0 + names_before es name ≡ count_by (λ (h : File). is_before h.name name) (cond u (f ∷ rest) rest))
    (λ s. ap (λ n. cond (is_before e.name name) 1 0 + n) i ∙ sym (sum_by-cons (λ (h : File). cond (is_before h.name name) 1 0) f rest))
    (λ s. (let z : 0 + names_before es name ≡ names_before es name = omega arith in z) ∙ i)

-- what an entry that is found shows is what its file shows
found_shows : (g : Geometry) (ix : List Index) (image : List ℕ) (n : ℕ) (q : List ℕ → Bool) (es : List Entry) → length image ≡ 512 * n → AllWhole g ix n es
    → option_map file_shown (find (λ (f : File). q f.name) (files_in g ix image es)) ≡ option_map entry_shown (find (λ (e : Entry). entry_is_used e && q e.name) es)
found_shows g ix image n q [] l all = refl
found_shows g ix image n q (e ∷ es) l all =
    let i = found_shows g ix image n q es l (λ k h. all (suc k) (omega (arith, h))) in
    let f : File = record { name = e.name; bytes = content_of g ix image e } in let rest = files_in g ix image es in
    let later = find (λ (e : Entry). entry_is_used e && q e.name) es in
    either-way (entry_is_used e)
    (λ u. entry_is_used e ≡ u → option_map file_shown (find (λ (f : File). q f.name) (cond u (f ∷ rest) rest)) ≡ option_map entry_shown (cond (u && q e.name) (Some e) later))
    (λ _ u. either-way (q e.name)
    (λ v. option_map file_shown (cond v (Some f) (find (λ (f : File). q f.name) rest)) ≡ option_map entry_shown (cond v (Some e) later))
    (λ s. ap (λ m. Some (bare_name e.name, m)) (length_bytes g ix image n e l (all 0 (omega arith) u)))
    (λ s. i))
    (λ _ u. i)
    refl

-- an entry that is found has a name
found_named : (g : Geometry) (ix : List Index) (image : List ℕ) (longest : ℕ) (before : List (List ℕ)) (q : Entry → Bool) (es : List Entry) (x : Entry)
    → names_right longest before (names_of (files_in g ix image es)) ≡ true → find (λ (e : Entry). entry_is_used e && q e) es ≡ Some x → is_name longest x.name ≡ true
found_named g ix image longest before q [] x r e = absurd (cc)
found_named g ix image longest before q (y ∷ es) x r e =
    let f : File = record { name = y.name; bytes = content_of g ix image y } in let rest = files_in g ix image es in
    let later = find (λ (e : Entry). entry_is_used e && q e) es in
    either-way (entry_is_used y)
    (λ u. names_right longest before (names_of (cond u (f ∷ rest) rest)) ≡ true → cond (u && q y) (Some y) later ≡ Some x → is_name longest x.name ≡ true)
    (λ _ r e. (
    let one = and_parts (is_name longest y.name && not (is_among before y.name)) (names_right longest (before ++ y.name ∷ []) (names_of rest)) r in
    let mine = (and_parts (is_name longest y.name) (not (is_among before y.name)) one.0).0 in
    either-way (q y) (λ v. cond v (Some y) later ≡ Some x → is_name longest x.name ≡ true)
    (λ _ e. (let s : y ≡ x = cc in sym (ap (λ (z : Entry). is_name longest z.name) s) ∙ mine))
    (λ _ e. found_named g ix image longest (before ++ y.name ∷ []) q es x one.1 e)
    e))
    (λ _ r e. found_named g ix image longest before q es x r e)
    r e

-- a name that can be is no longer than the longest
name_short : (longest : ℕ) (name : List ℕ) → is_name longest name ≡ true → text_length name ≤ longest
unfolding is_name
name_short longest name e =
    let one = and_parts (nat_lt 0 (text_length name) && nat_le (text_length name) longest) _ e in
    let two = and_parts (nat_lt 0 (text_length name)) (nat_le (text_length name) longest) one.0 in
    let t = two.1 in grind (arith, nat_tests)

-- a clean image has the entries of version 2
pub clean_entries : (image : List ℕ) → IsCleanImage image → directory_entries (geometry_of image) image ≡ entries_2 image
clean_entries image c = ap (λ b. let g : Geometry = record { dirs = cond b 6 1; blocks = length image / 512 } in directory_entries g image) c.version

-- the entry that has exactly so many used names before it
abbrev pub nth : List Entry → ℕ → Option Entry
nth es k = find (λ (e : Entry). entry_is_used e && nat_eq (names_before es e.name) k) es

-- the k-th file shows what the entry shows that k names come before
pub listed_at : (image : List ℕ) (k : ℕ) → IsCleanImage image → slice_get (listing (files_of image)) k ≡ option_map (λ (e : Entry). (bare_name e.name, e.size)) (find (λ (e : Entry). entry_is_used e && nat_eq (names_before (entries_2 image) e.name) k) (entries_2 image))
listed_at image k c =
    let g = geometry_of image in let ix = (fields_of g image).indexes in let es = directory_entries g image in
    let files = placed_files image in
    let q : List ℕ → Bool = λ name. nat_eq (names_before es name) k in
    let same : (f : File) → nat_eq (count_by (λ (h : File). is_before h.name f.name) files) k ≡ q f.name = λ f. ap (λ m. nat_eq m k) (sym (names_counted g ix image f.name es)) in
    slice_get-map file_shown (files_of image) k
    ∙ ap (option_map file_shown) (sorted_at 27 files k (placed_names image c.faultless) ∙ find_alike (λ (f : File). nat_eq (count_by (λ (h : File). is_before h.name f.name) files) k) (λ (f : File). q f.name) files same)
    ∙ found_shows g ix image (length image / 512) q es (whole_blocks image c.faultless) (all_whole image c.faultless)
    ∙ ap (λ xs. option_map entry_shown (nth xs k)) (clean_entries image c)
  where
    find_alike : (p q : File → Bool) (files : List File) → ((f : File) → p f ≡ q f) → find p files ≡ find q files
    find_alike p q [] h = refl
    find_alike p q (f ∷ files) h = ap (λ v. cond v (Some f) (find p files)) (h f) ∙ ap (λ o. cond (q f) (Some f) o) (find_alike p q files h)

-- the name of the entry that is found fits
pub nth_short : (image : List ℕ) (k : ℕ) (x : Entry) → IsCleanImage image → find (λ (e : Entry). entry_is_used e && nat_eq (names_before (entries_2 image) e.name) k) (entries_2 image) ≡ Some x → text_length x.name ≤ 27
nth_short image k x c e =
    let g = geometry_of image in let ix = (fields_of g image).indexes in let es = directory_entries g image in
    let f : nth es k ≡ Some x = ap (λ xs. nth xs k) (clean_entries image c) ∙ e in
    name_short 27 x.name (found_named g ix image 27 [] (λ (e : Entry). nat_eq (names_before es e.name) k) es x (placed_names image c.faultless) f)

-- there is a k-th if k is below the number
shown_within : {A B : Type 0} (h : A → B) (xs : List A) (k : ℕ) → is_some (slice_get (map h xs) k) ≡ nat_lt k (length xs)
shown_within h [] k = (let l : nat_lt k 0 ≡ false = grind (arith, nat_tests) in sym l)
shown_within h (x ∷ xs) zero = (let l : nat_lt 0 (suc (length xs)) ≡ true = grind (arith, nat_tests) in sym l)
shown_within h (x ∷ xs) (suc k) = shown_within h xs k ∙ (let l : nat_lt k (length xs) ≡ nat_lt (suc k) (suc (length xs)) = grind (arith, nat_tests) in l)

-- the listing has a k-th line if there is a k-th file
pub listed_within : (files : List File) (k : ℕ) → is_some (slice_get (listing files) k) ≡ nat_lt k (length files)
listed_within files k = shown_within (λ (f : File). (bare_name f.name, length f.bytes)) files k

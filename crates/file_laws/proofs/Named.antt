-- The file of a name on a clean disk.
use Rattle.std.proofs.Common.{◌≡◌, ◌≢◌, ⊎_elim, ℕ, zero, suc, ◌/◌, ◌<◌, ◌≤◌, Bool, true, false, cond, not, ◌&&◌, ◌||◌, List, [], ◌∷◌, ◌++◌, length, map, refl, sym, ap, ◌∙◌, subst, arith, slice_index_or, bytes_eq, Option, Some, None}
use Rattle.std.specs.Option.{option_map}
use Rattle.std.specs.List.{find}
use Rattle.std.proofs.lemmas.Bool.{false≢true, cases_lt, and_parts, or_parts, not-true, not-false}
use Rattle.std.proofs.lemmas.List.Folds.{list_any-append}
use Rattle.std.proofs.lemmas.Slice.Eq.{bytes_eq-Decides}
use Rattle.std.proofs.Math.Bool.{or-true}
use Rattle.lfs_format.specs.declared.Entry.{Entry}
use Rattle.lfs_format.specs.declared.Index.{Index}
use Rattle.lfs_format.specs.Directory.{void_entry}
use Rattle.lfs_check.specs.declared.geometry.Geometry.{Geometry}
use Rattle.lfs_check.specs.Geometries.{longest_name}
use Rattle.lfs_check.specs.Rules.{entry_is_used, is_name, has_name, first_failing, has_bad_name}
use Rattle.lfs_check.specs.Fields.{geometry_of, fields_of, directory_entries}
use Rattle.lfs_check.proofs.Images.{image_names, whole_blocks, image_blocks}
use Rattle.lfs_check.specs.Disks.{entries, entry_at, is_this}
use Rattle.lfs_check.proofs.Directories.{entries_wide, entries_are, geometry_is}
use Rattle.lfs_check.proofs.KeepsAll.{passed, either-way, none-failing}
use Rattle.lfs_layout.specs.Files.{File, bare_name, content_of, files_in, placed_files, is_before, with_file, sorted, files_of, names_right, names_of, is_among}
use Rattle.lfs_layout.specs.Images.{IsCleanImage}
use Rattle.lfs_layout.proofs.CleanRoom.{files_wide, length_bytes}
use Rattle.lfs_layout.specs.Made.{no_file}
use Rattle.lfs_layout.proofs.CleanOpens.{all_whole, placed_names}
use Rattle.lfs_layout.proofs.Ordered.{bytes-swap}
use Rattle.xinu_model.specs.Files.Stored.{file_named, precedes}
use Rattle.file_laws.specs.StoredFiles.{stored, stored_files, entry_bytes}
use Rattle.file_laws.proofs.Names.{IsPadded, name_padded, bare_same, bare_order}

-- the first file of a name with zeros after it
abbrev pub file_by : List ℕ → List File → Option File
file_by n files = find (λ (f : File). bytes_eq f.name n) files

-- the first used entry of a name with zeros after it
abbrev pub entry_by : List ℕ → List Entry → Option Entry
entry_by n es = find (is_this n) es

-- a name of 28 bytes: a text, and zeros after it
pub record IsName (n : List ℕ) : Type 0 where
  pub padded : IsPadded n
  pub long : length n ≡ 28

-- each file has a name
abbrev pub AreNames : List File → Type 0
AreNames [] = Unit {0}
AreNames (f ∷ files) = IsName f.name × AreNames files

-- no name is that of a later file
abbrev pub AreApartFiles : List File → Type 0
AreApartFiles [] = Unit {0}
AreApartFiles (f ∷ files) = (file_by f.name files ≡ None) × AreApartFiles files

-- the name of a file of the abstract machine is that of the disk
pub named_stored : (n : List ℕ) (files : List File) → IsName n → AreNames files
    → file_named (bare_name n) (map stored files) ≡ option_map stored (file_by n files)
named_stored n [] h a = refl
named_stored n (f ∷ files) h a =
    let same : bytes_eq (bare_name f.name) (bare_name n) ≡ bytes_eq f.name n =
    bare_same f.name n (a.0.long ∙ sym h.long) a.0.padded h.padded in
    let i = named_stored n files h a.1 in
    ap (λ v. cond v (Some (stored f)) (file_named (bare_name n) (map stored files))) same
    ∙ either-way (bytes_eq f.name n) (λ v.
    cond v (Some (stored f)) (file_named (bare_name n) (map stored files)) ≡ option_map stored (cond v (Some f) (file_by n files))) (λ _.
    refl) (λ _. i)

-- a file put in its place among others without its name
pub by_with : (n : List ℕ) (f : File) (files : List File) → file_by f.name files ≡ None
    → file_by n (with_file f files) ≡ file_by n (f ∷ files)
by_with n f [] away = refl
by_with n f (g ∷ files) away =
    let P : Bool → Type 0 = λ b. cond b (Some g) (file_by f.name files) ≡ None → (b ≡ false) × (file_by f.name files ≡ None) in
    let split : (b : Bool) → P b = λ b. elim b as (λ b. P b) [ true ↦ (λ e. absurd (cc (e))) | false ↦ (λ e. (refl, e)) ] in
    let two = split (bytes_eq g.name f.name) away in
    let i = by_with n f files two.1 in
    either-way (is_before f.name g.name) (λ v. file_by n (cond v (f ∷ g ∷ files) (g ∷ with_file f files)) ≡ file_by n (f ∷ g ∷ files)) (λ _.
    refl)
    (λ _. ap (λ o. cond (bytes_eq g.name n) (Some g) o) i ∙
    either-way (bytes_eq g.name n) (λ v. bytes_eq g.name n ≡ v
    → cond v (Some g) (cond (bytes_eq f.name n) (Some f) (file_by n files)) ≡ cond (bytes_eq f.name n) (Some f)
    (cond v (Some g) (file_by n files)))
    (λ _ t. (let other : bytes_eq f.name n ≡ false = ap (λ m. bytes_eq f.name m) (sym ((bytes_eq-Decides g.name n).0 t))
    ∙ bytes-swap f.name g.name ∙ two.0 in
    sym (ap (λ v. cond v (Some f) (Some g)) other)))
    (λ _ t. refl) refl)

-- the order does not change which file has a name
pub by_sorted : (n : List ℕ) (files : List File) → AreApartFiles files → file_by n (sorted files) ≡ file_by n files
by_sorted n [] a = refl
by_sorted n (f ∷ files) a =
    by_with n f (sorted files) (by_sorted f.name files a.1 ∙ a.0) ∙ ap (λ o. cond (bytes_eq f.name n) (Some f) o) (by_sorted n files a.1)

-- the file of an entry
abbrev pub file_in : Geometry → List Index → List ℕ → Entry → File
file_in g ix image e = record { name = e.name; bytes = content_of g ix image e }

-- the file of a name is that of the first used entry of the name
pub by_entries : (g : Geometry) (ix : List Index) (image n : List ℕ) (es : List Entry)
    → file_by n (files_in g ix image es) ≡ option_map (file_in g ix image) (entry_by n es)
by_entries g ix image n [] = refl
by_entries g ix image n (e ∷ es) =
    let i = by_entries g ix image n es in
    let rest = files_in g ix image es in
    either-way (entry_is_used e) (λ v. file_by n (cond v (file_in g ix image e ∷ rest) rest) ≡ option_map (file_in g ix image)
    (cond (v && bytes_eq e.name n) (Some e) (entry_by n es)))
    (λ _. ap (λ o. cond (bytes_eq e.name n) (Some (file_in g ix image e)) o) i
    ∙ either-way (bytes_eq e.name n) (λ v.
    cond v (Some (file_in g ix image e)) (option_map (file_in g ix image) (entry_by n es)) ≡ option_map (file_in g ix image)
    (cond v (Some e) (entry_by n es))) (λ _. refl) (λ _. refl))
    (λ _. i)

-- no file has a name that is among those before
among-absent : (before : List (List ℕ)) (n : List ℕ) (files : List File) → names_right 27 before (names_of files) ≡ true
    → is_among before n ≡ true → file_by n files ≡ None
among-absent before n [] e h = refl
among-absent before n (f ∷ files) e h =
    let parts = and_parts (is_name 27 f.name && not (is_among before f.name)) (names_right 27 (before ++ f.name ∷ []) (names_of files)) e in
    let fresh = not-true (is_among before f.name) (and_parts (is_name 27 f.name) (not (is_among before f.name)) parts.0).1 in
    let other : bytes_eq f.name n ≡ false = either-way (bytes_eq f.name n) (λ v. bytes_eq f.name n ≡ v → v ≡ false)
    (λ _ t. absurd (false≢true (sym fresh ∙ ap (is_among before) ((bytes_eq-Decides f.name n).0 t) ∙ h))) (λ _ t. refl) refl in
    let more : is_among (before ++ f.name ∷ []) n ≡ true = list_any-append (λ m. bytes_eq m n) before (f.name ∷ [])
    ∙ ap (λ v. v || (bytes_eq f.name n || false)) h in
    ap (λ v. cond v (Some f) (file_by n files)) other ∙ among-absent (before ++ f.name ∷ []) n files parts.1 more

-- bytes are the same as themselves
pub bytes-self : (xs : List ℕ) → bytes_eq xs xs ≡ true
bytes-self xs = (bytes_eq-Decides xs xs).1 refl

-- files whose names are right are apart
pub names_apart : (before : List (List ℕ)) (files : List File) → names_right 27 before (names_of files) ≡ true → AreApartFiles files
names_apart before [] e = tt
names_apart before (f ∷ files) e =
    let parts = and_parts (is_name 27 f.name && not (is_among before f.name)) (names_right 27 (before ++ f.name ∷ []) (names_of files)) e in
    let here : is_among (before ++ f.name ∷ []) f.name ≡ true = list_any-append (λ m. bytes_eq m f.name) before (f.name ∷ [])
    ∙ ap (λ v. is_among before f.name || (v || false)) (bytes-self f.name) ∙ or-true (is_among before f.name) in
    (among-absent (before ++ f.name ∷ []) f.name files parts.1 here, names_apart (before ++ f.name ∷ []) files parts.1)

-- files whose names are right have names
pub names_names : (before : List (List ℕ)) (files : List File) → names_right 27 before (names_of files) ≡ true
    → ((k : ℕ) → k < length files → length (slice_index_or files k no_file).name ≡ 28) → AreNames files
names_names before [] e w = tt
names_names before (f ∷ files) e w =
    let parts = and_parts (is_name 27 f.name && not (is_among before f.name)) (names_right 27 (before ++ f.name ∷ []) (names_of files)) e in (
      record {
        padded = name_padded 27 f.name (and_parts (is_name 27 f.name) (not (is_among before f.name)) parts.0).0;
        long = w 0 (omega arith);
      },
      names_names (before ++ f.name ∷ []) files parts.1 (λ k h. w (suc k) (omega (arith, h))),
    )

-- the first that passes a test
pub find_at : (test : Entry → Bool) (es : List Entry) (k : ℕ) → k < length es
    → ((j : ℕ) → j < k → test (slice_index_or es j void_entry) ≡ false) → test (slice_index_or es k void_entry) ≡ true
    → find test es ≡ Some (slice_index_or es k void_entry)
find_at test [] k h before here = absurd (omega (arith, h))
find_at test (e ∷ es) zero h before here = ap (λ v. cond v (Some e) (find test es)) here
find_at test (e ∷ es) (suc k) h before here =
    ap (λ v. cond v (Some e) (find test es)) (before 0 (omega arith))
    ∙ find_at test es k (omega (arith, h)) (λ j l. before (suc j) (omega (arith, l))) here

-- none passes a test
pub find_none : (test : Entry → Bool) (es : List Entry) → ((k : ℕ) → k < length es → test (slice_index_or es k void_entry) ≡ false)
    → find test es ≡ None
find_none test [] none = refl
find_none test (e ∷ es) none = ap (λ v. cond v (Some e) (find test es)) (none 0 (omega arith))
    ∙ find_none test es (λ k h. none (suc k) (omega (arith, h)))

-- the names of used entries are names, and none is that of an earlier one
pub record HasRightName (longest : ℕ) (before es : List Entry) (k : ℕ) : Type 0 where
  pub name : is_name longest (slice_index_or es k void_entry).name ≡ true
  pub fresh : has_name before (slice_index_or es k void_entry).name ≡ false
  pub first : (j : ℕ) → j < k → is_this (slice_index_or es k void_entry).name (slice_index_or es j void_entry) ≡ false

-- entries that pass the test of names have such names
pub right_at : (g : Geometry) (before es : List Entry) → first_failing (has_bad_name g) before es ≡ None → (k : ℕ) → k < length es
    → entry_is_used (slice_index_or es k void_entry) ≡ true → HasRightName (longest_name g) before es k
unfolding first_failing has_name
right_at g before [] e k h u = absurd (omega (arith, h))
right_at g before (x ∷ es) e zero h u =
    let parts = passed (has_bad_name g before x) (length before) (first_failing (has_bad_name g) (before ++ x ∷ []) es) e in
    let bad : not (is_name (longest_name g) x.name) || has_name before x.name ≡ false =
    sym (ap (λ v. v && (not (is_name (longest_name g) x.name) || has_name before x.name)) u) ∙ parts.0 in
    let two = or_parts (not (is_name (longest_name g) x.name)) (has_name before x.name) bad in
    record { name = not-false (is_name (longest_name g) x.name) two.0; fresh = two.1; first = λ j l. absurd (omega (arith, l)) }
right_at g before (x ∷ es) e (suc k) h u =
    let parts = passed (has_bad_name g before x) (length before) (first_failing (has_bad_name g) (before ++ x ∷ []) es) e in
    let i = right_at g (before ++ x ∷ []) es parts.1 k (omega (arith, h)) u in
    let n = (slice_index_or es k void_entry).name in
    let both = or_parts (has_name before n) (is_this n x || false) (sym (list_any-append (is_this n) before (x ∷ [])) ∙ i.fresh) in
    let here = or_parts (is_this n x) false both.1 in
    record { name = i.name; fresh = both.0; first = λ j l. earlier g x es k (λ m q. i.first m q) here.0 j l }
  where
    earlier : (g : Geometry) (x : Entry) (es : List Entry) (k : ℕ)
        → ((j : ℕ) → j < k → is_this (slice_index_or es k void_entry).name (slice_index_or es j void_entry) ≡ false)
        → is_this (slice_index_or es k void_entry).name x ≡ false → (j : ℕ) → j < suc k
        → is_this (slice_index_or es k void_entry).name (slice_index_or (x ∷ es) j void_entry) ≡ false
    earlier g x es k rest here zero l = here
    earlier g x es k rest here (suc j) l = rest j (omega (arith, l))

-- A clean disk.

-- it has 78 entries, each with a name of 28 bytes
pub length_entries : (base : List ℕ) → IsCleanImage base → (length (entries base) ≡ 78)
    × ((k : ℕ) → k < 78 → length (entry_at base k).name ≡ 28)
unfolding entries
length_entries base c =
    let n = length base / 512 in
    let size = image_blocks base c.faultless in
    let low : 14 ≤ n = (let P : Bool → Type 0 = λ b. cond b 14 8 ≤ n in subst P c.version size.0) in
    let w = entries_wide base n (whole_blocks base c.faultless) (omega (arith, low)) in
    let len = w.0 in
    (len, λ k h. w.1 k (omega (arith, len, h)))

-- a used entry of a clean disk has a name that no earlier entry has
pub entry_right : (base : List ℕ) → IsCleanImage base → (k : ℕ) → k < 78 → entry_is_used (entry_at base k) ≡ true
    → HasRightName 27 [] (entries base) k
entry_right base c k h u =
    let g = geometry_of base in
    let len = (length_entries base c).0 in
    let r : first_failing (has_bad_name g) [] (entries base) ≡ None =
    ap (first_failing (has_bad_name g) []) (sym (entries_are base c.version))
    ∙ none-failing g (first_failing (has_bad_name g) [] (directory_entries g base)) (image_names base c.faultless) in
    let P : Geometry → Type 0 = λ x. HasRightName (longest_name x) [] (entries base) k in
    subst P (geometry_is base c.version) (right_at g [] (entries base) r k (omega (arith, h, len)) u)

-- and it is a name
pub entry_name : (base : List ℕ) → IsCleanImage base → (k : ℕ) → k < 78 → entry_is_used (entry_at base k) ≡ true
    → IsName (entry_at base k).name
entry_name base c k h u = record {
  padded = name_padded 27 (entry_at base k).name (entry_right base c k h u).name;
  long = (length_entries base c).1 k h;
}

-- two used entries of a clean disk have different names
pub names_differ : (base : List ℕ) → IsCleanImage base → (j k : ℕ) → j < 78 → k < 78 → k ≢ j → entry_is_used (entry_at base j) ≡ true
    → entry_is_used (entry_at base k) ≡ true
    → bytes_eq (entry_at base k).name (entry_at base j).name ≡ false
names_differ base c j k hj hk ne uj uk =
    let later : (a b : ℕ) → a < b → b < 78 → entry_is_used (entry_at base a) ≡ true → entry_is_used (entry_at base b) ≡ true
    → bytes_eq (entry_at base a).name (entry_at base b).name ≡ false = λ a b l h ua ub.
    sym (ap (λ v. v && bytes_eq (entry_at base a).name (entry_at base b).name) ua) ∙ (entry_right base c b h ub).first a l in
    ⊎_elim (λ lt. later k j lt hj uk uj)
    (λ ge. bytes-swap (entry_at base k).name (entry_at base j).name
    ∙ later j k (let q : j < k = ⊎_elim (λ lt. lt) (λ le. absurd (ne (omega (arith, ge, le)))) (cases_lt j k) in q) hk uj uk)
    (cases_lt k j)

-- a file put among files with names
with_names : (f : File) (files : List File) → IsName f.name → AreNames files → AreNames (with_file f files)
with_names f [] h a = (h, tt)
with_names f (g ∷ files) h a = either-way (is_before f.name g.name) (λ v. AreNames (cond v (f ∷ g ∷ files) (g ∷ with_file f files))) (λ _.
    (h, a)) (λ _. (a.0, with_names f files h a.1))

-- files with names in their order
pub sorted_names : (files : List File) → AreNames files → AreNames (sorted files)
sorted_names [] a = tt
sorted_names (f ∷ files) a = with_names f (sorted files) a.0 (sorted_names files a.1)

-- the files of a clean disk have names
pub clean_names : (base : List ℕ) → IsCleanImage base → AreNames (files_of base)
clean_names base c =
    let g = geometry_of base in let ix = (fields_of g base).indexes in
    let len = length_entries base c in let count = len.0 in
    let dir = directory_entries g base in
    let P : List Entry → Type 0 = λ es. (k : ℕ) → k < length es → length (slice_index_or es k void_entry).name ≡ 28 in
    let wide : P dir = subst P (sym (entries_are base c.version)) (λ k l. len.1 k (omega (arith, l, count))) in
    sorted_names (placed_files base) (names_names [] (placed_files base) (placed_names base c.faultless) (files_wide g ix base dir wide))

-- the file of a name: that of the first used entry of the name
pub named_by : (base n : List ℕ) → IsCleanImage base → IsName n
    → file_named (bare_name n) (stored_files base) ≡ option_map stored
    (option_map (file_in (geometry_of base) (fields_of (geometry_of base) base).indexes base) (entry_by n (entries base)))
unfolding stored_files
named_by base n c h =
    let g = geometry_of base in let ix = (fields_of g base).indexes in
    let right = placed_names base c.faultless in
    let dir = directory_entries g base in
    named_stored n (files_of base) h (clean_names base c)
    ∙ ap (option_map stored) (by_sorted n (placed_files base) (names_apart [] (placed_files base) right)
    ∙ by_entries g ix base n dir ∙ ap (λ es. option_map (file_in g ix base) (entry_by n es)) (entries_are base c.version))

-- The file of a used entry.
pub named_at : (base : List ℕ) → IsCleanImage base → (k : ℕ) → k < 78 → entry_is_used (entry_at base k) ≡ true
    → file_named (bare_name (entry_at base k).name) (stored_files base) ≡ Some (record {
      name = bare_name (entry_at base k).name;
      bytes = entry_bytes base (entry_at base k);
    })
named_at base c k h u =
    let e = entry_at base k in
    let len = (length_entries base c).0 in
    let this : is_this e.name e ≡ true = ap (λ v. v && bytes_eq e.name e.name) u ∙ bytes-self e.name in
    named_by base e.name c (entry_name base c k h u)
    ∙ ap (λ o. option_map stored (option_map (file_in (geometry_of base) (fields_of (geometry_of base) base).indexes base) o))
    (find_at (is_this e.name) (entries base) k (omega (arith, h, len)) (entry_right base c k h u).first this)

-- It has as many bytes as its size says.
pub bytes_sized : (base : List ℕ) → IsCleanImage base → (k : ℕ) → k < 78 → entry_is_used (entry_at base k) ≡ true
    → length (entry_bytes base (entry_at base k)) ≡ (entry_at base k).size
bytes_sized base c k h u =
    let g = geometry_of base in let ix = (fields_of g base).indexes in
    let len = (length_entries base c).0 in
    let P : List Entry → Type 0 = λ es. k < length es → entry_is_used (slice_index_or es k void_entry) ≡ true
    → length (content_of g ix base (slice_index_or es k void_entry)) ≡ (slice_index_or es k void_entry).size in
    subst P (entries_are base c.version) (λ l v.
    length_bytes g ix base (length base / 512) (slice_index_or (directory_entries g base) k void_entry) (whole_blocks base c.faultless)
    (all_whole base c.faultless k l v)) (omega (arith, h, len)) u

-- There is no file of a name that no used entry has.
pub named_none : (base n : List ℕ) → IsCleanImage base → IsName n → ((k : ℕ) → k < 78 → is_this n (entry_at base k) ≡ false)
    → file_named (bare_name n) (stored_files base) ≡ None
named_none base n c h none =
    let len = (length_entries base c).0 in
    named_by base n c h ∙ ap (λ o. option_map stored
    (option_map (file_in (geometry_of base) (fields_of (geometry_of base) base).indexes base) o))
    (find_none (is_this n) (entries base) (λ k l. none k (omega (arith, l, len))))

-- Names of 28 bytes are the same if their texts are.
pub names_same : (x y : List ℕ) → is_name 27 x ≡ true → is_name 27 y ≡ true → length x ≡ 28 → length y ≡ 28
    → bytes_eq (bare_name x) (bare_name y) ≡ bytes_eq x y
names_same x y a b k l = bare_same x y (k ∙ sym l) (name_padded 27 x a) (name_padded 27 y b)

-- They are in the order of their texts.
pub names_order : (x y : List ℕ) → is_name 27 x ≡ true → is_name 27 y ≡ true → length x ≡ 28 → length y ≡ 28
    → precedes (bare_name x) (bare_name y) ≡ is_before x y
names_order x y a b k l = bare_order x y (k ∙ sym l) (name_padded 27 x a) (name_padded 27 y b)

-- There is no file of a text that no used entry has.
pub no_file_named : (disk name : List ℕ) → IsCleanImage disk → is_name 27 name ≡ true → length name ≡ 28
    → ((k : ℕ) → k < 78 → is_this name (entry_at disk k) ≡ false) → file_named (bare_name name) (stored_files disk) ≡ None
no_file_named disk name c is long none = named_none disk name c (record { padded = name_padded 27 name is; long = long }) none

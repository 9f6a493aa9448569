-- The files of an image need no more room than it has, and have names.
use Rattle.std.proofs.Common.{◌≡◌, ℕ, zero, suc, ◌*◌, ◌<◌, ◌≤◌, Bool, true, false, cond, not, ◌&&◌, ◌||◌, nat_lt, nat_le, List, [], ◌∷◌, ◌++◌, length, get_or, slice_index, take, drop, refl, sym, ap, ◌∙◌, arith, length-append, length-take, None, bytes_eq}
use Rattle.lfs_check.proofs.KeptRead.{or_or_false}
use Rattle.std.proofs.Math.Bool.{or-false}
use Rattle.std.specs.List.{flat_map}
use Rattle.std.proofs.lemmas.List.Folds.{list_any-append}
use Rattle.std.proofs.lemmas.Bool.{false≢true, and_parts}
use Rattle.std.proofs.lemmas.Bool.Decides.{nat_tests}
use Rattle.lfs_format.specs.declared.Entry.{Entry}
use Rattle.lfs_format.specs.declared.Index.{Index}
use Rattle.lfs_format.specs.Directory.{void_entry}
use Rattle.lfs_check.specs.declared.geometry.Geometry.{Geometry}
use Rattle.lfs_check.specs.Geometries.{longest_name}
use Rattle.lfs_check.specs.Rules.{entry_is_used, is_name, has_name, text_length, are_zeros, first_failing, has_bad_name, block_in}
use Rattle.lfs_check.specs.Checks.{need_index, need_data, met_of, data_row}
use Rattle.lfs_check.specs.Clean.{chain_in, data_in}
use Rattle.lfs_check.proofs.Directories.{length_block}
use Rattle.lfs_check.proofs.KeepsAll.{passed}
use Rattle.lfs_layout.specs.Files.{File, content_of, files_in, total_for, is_among, names_right, names_of}
use Rattle.lfs_layout.specs.Made.{no_file}

-- an entry whose chain and data are as long as its size needs, in blocks below n
pub record Whole (g : Geometry) (ix : List Index) (n : ℕ) (e : Entry) : Type 0 where
  pub indexes : length (chain_in g ix e) ≡ need_index e
  pub datas : length (data_in g ix e) ≡ need_data e
  pub below : (j : ℕ) → j < length (data_in g ix e) → slice_index (data_in g ix e) j < n

-- each used entry is whole
abbrev pub AllWhole : Geometry → List Index → ℕ → List Entry → Type 0
AllWhole g ix n es = (k : ℕ) → k < length es → entry_is_used (get_or es k void_entry) ≡ true → Whole g ix n (get_or es k void_entry)

-- blocks of an image have 512 bytes each
length_blocks : (image : List ℕ) (n : ℕ) (bs : List ℕ) → length image ≡ 512 * n → ((j : ℕ) → j < length bs → slice_index bs j < n) → length (flat_map (block_in image) bs) ≡ 512 * length bs
length_blocks image n [] l all = refl
length_blocks image n (b ∷ bs) l all =
    let i = length_blocks image n bs l (λ j h. all (suc j) (omega (arith, h))) in let o = length_block image n b l (all 0 (omega arith)) in
    let a = length-append (block_in image b) (flat_map (block_in image) bs) in omega (arith, i, o, a)

-- a file has as many bytes as its size says
pub length_bytes : (g : Geometry) (ix : List Index) (image : List ℕ) (n : ℕ) (e : Entry) → length image ≡ 512 * n → Whole g ix n e → length (content_of g ix image e) ≡ e.size
length_bytes g ix image n e l w =
    let b = length_blocks image n (data_in g ix e) l w.below in let t = length-take e.size (flat_map (block_in image) (data_in g ix e)) in
    let d = w.datas in omega (arith, b, t, d)

-- an unused entry has no data blocks
no_data : (g : Geometry) (ix : List Index) (e : Entry) → entry_is_used e ≡ false → length (data_in g ix e) ≡ 0
no_data g ix e u = ap (λ b. length (cond b (take (need_data e) (flat_map (data_row ix) (met_of g ix e))) [])) u

-- an unused entry has no index blocks
no_chain : (g : Geometry) (ix : List Index) (e : Entry) → entry_is_used e ≡ false → length (chain_in g ix e) ≡ 0
no_chain g ix e u = ap (λ b. length (cond b (met_of g ix e) [])) u

-- so its needs are those of its entry
pub totals : (g : Geometry) (ix : List Index) (image : List ℕ) (n : ℕ) (es : List Entry) → length image ≡ 512 * n → AllWhole g ix n es
    → (total_for 512 (files_in g ix image es) ≡ length (flat_map (data_in g ix) es)) × (total_for 8192 (files_in g ix image es) ≡ length (flat_map (chain_in g ix) es))
totals g ix image n [] l all = (refl, refl)
totals g ix image n (e ∷ es) l all =
    let i = totals g ix image n es l (λ k h. all (suc k) (omega (arith, h))) in
    let one = i.0 in let two = i.1 in
    let rest = files_in g ix image es in
    let f : File = record { name = e.name; bytes = content_of g ix image e } in
    let da = length-append (data_in g ix e) (flat_map (data_in g ix) es) in let ca = length-append (chain_in g ix e) (flat_map (chain_in g ix) es) in
    let P : Bool → Type 0 = λ b. entry_is_used e ≡ b →
    (total_for 512 (cond b (f ∷ rest) rest) ≡ length (flat_map (data_in g ix) (e ∷ es))) × (total_for 8192 (cond b (f ∷ rest) rest) ≡ length (flat_map (chain_in g ix) (e ∷ es))) in
    let yes : P true = λ u. (let w = all 0 (omega arith) u in let s = length_bytes g ix image n e l w in let d = w.datas in let c = w.indexes in (omega (arith, one, da, s, d), omega (arith, two, ca, s, c))) in
    let no : P false = λ u. (let d = no_data g ix e u in let c = no_chain g ix e u in (omega (arith, one, da, d), omega (arith, two, ca, c))) in
    let split : (b : Bool) → P b = λ b. elim b as (λ b. P b) [ true ↦ yes | false ↦ no ] in
    split (entry_is_used e) refl

-- names

-- the parts of a refuted implication
not_or_parts : (a b : Bool) → not a || b ≡ false → (a ≡ true) × (b ≡ false)
not_or_parts true b e = (refl, e)
not_or_parts false b e = absurd (false≢true (sym e))

-- the used names of entries that break no rule are names, and apart
pub names_from : (g : Geometry) (ix : List Index) (image : List ℕ) (before : List Entry) (names : List (List ℕ)) (es : List Entry) → ((x : List ℕ) → has_name before x ≡ is_among names x)
    → first_failing (has_bad_name g) before es ≡ None → names_right (longest_name g) names (names_of (files_in g ix image es)) ≡ true
unfolding first_failing has_name
names_from g ix image before names [] same e = refl
names_from g ix image before names (x ∷ es) same e =
    let parts = passed (has_bad_name g before x) (length before) (first_failing (has_bad_name g) (before ++ x ∷ []) es) e in
    let rest = files_in g ix image es in
    let f : File = record { name = x.name; bytes = content_of g ix image x } in
    let P : Bool → Type 0 = λ b. entry_is_used x ≡ b → b && (not (is_name (longest_name g) x.name) || has_name before x.name) ≡ false
    → names_right (longest_name g) names (names_of (cond b (f ∷ rest) rest)) ≡ true in
    let yes : P true = λ u h. (let two = not_or_parts (is_name (longest_name g) x.name) (has_name before x.name) h in
    let more : (y : List ℕ) → has_name (before ++ x ∷ []) y ≡ is_among (names ++ x.name ∷ []) y = λ y.
    list_any-append (λ (z : Entry). entry_is_used z && bytes_eq z.name y) before (x ∷ []) ∙ or_or_false (has_name before y) (entry_is_used x && bytes_eq x.name y)
    ∙ ap (λ v. has_name before y || (v && bytes_eq x.name y)) u ∙ ap (λ v. v || bytes_eq x.name y) (same y)
    ∙ sym (list_any-append (λ z. bytes_eq z y) names (x.name ∷ []) ∙ or_or_false (is_among names y) (bytes_eq x.name y)) in
    let fresh : is_among names x.name ≡ false = sym (same x.name) ∙ two.1 in
    ap (λ v. v && not (is_among names x.name) && names_right (longest_name g) (names ++ x.name ∷ []) (names_of rest)) two.0
    ∙ ap (λ v. not v && names_right (longest_name g) (names ++ x.name ∷ []) (names_of rest)) fresh
    ∙ names_from g ix image (before ++ x ∷ []) (names ++ x.name ∷ []) es more parts.1) in
    let no : P false = λ u h. (let more : (y : List ℕ) → has_name (before ++ x ∷ []) y ≡ is_among names y = λ y.
    list_any-append (λ (z : Entry). entry_is_used z && bytes_eq z.name y) before (x ∷ []) ∙ or_or_false (has_name before y) (entry_is_used x && bytes_eq x.name y)
    ∙ ap (λ v. has_name before y || (v && bytes_eq x.name y)) u ∙ or-false (has_name before y) ∙ same y in
    names_from g ix image (before ++ x ∷ []) names es more parts.1) in
    let split : (b : Bool) → P b = λ b. elim b as (λ b. P b) [ true ↦ yes | false ↦ no ] in
    split (entry_is_used x) refl parts.0

-- a name that is short enough is short enough for more
name_longer : (a b : ℕ) (name : List ℕ) → a ≤ b → is_name a name ≡ true → is_name b name ≡ true
unfolding is_name
name_longer a b name h e =
    let n = text_length name in
    let one = and_parts (nat_lt 0 n && nat_le n a) (are_zeros (drop n name)) e in
    let two = and_parts (nat_lt 0 n) (nat_le n a) one.0 in
    let low : n ≤ a = (let t = two.1 in grind (arith, nat_tests)) in
    let t : nat_le n b ≡ true = (let q : n ≤ b = omega (arith, low, h) in grind (arith, nat_tests)) in
    ap (λ v. v && nat_le n b && are_zeros (drop n name)) two.0 ∙ ap (λ v. v && are_zeros (drop n name)) t ∙ one.1

-- names that can be in one version can be in one with longer names
pub names_longer : (a b : ℕ) (before names : List (List ℕ)) → a ≤ b → names_right a before names ≡ true → names_right b before names ≡ true
names_longer a b before [] h e = refl
names_longer a b before (n ∷ names) h e =
    let one = and_parts (is_name a n && not (is_among before n)) (names_right a (before ++ n ∷ []) names) e in
    let two = and_parts (is_name a n) (not (is_among before n)) one.0 in
    ap (λ v. v && not (is_among before n) && names_right b (before ++ n ∷ []) names) (name_longer a b n h two.0)
    ∙ ap (λ v. v && names_right b (before ++ n ∷ []) names) two.1 ∙ names_longer a b (before ++ n ∷ []) names h one.1

-- the files are no more than the entries, and their names as wide
pub files_few : (g : Geometry) (ix : List Index) (image : List ℕ) (es : List Entry) → length (files_in g ix image es) ≤ length es
files_few g ix image [] = omega arith
files_few g ix image (e ∷ es) =
    let i = files_few g ix image es in
    let f : File = record { name = e.name; bytes = content_of g ix image e } in
    let P : Bool → Type 0 = λ b. length (cond b (f ∷ files_in g ix image es) (files_in g ix image es)) ≤ suc (length es) in
    let split : (b : Bool) → P b = λ b. elim b as (λ b. P b) [ true ↦ omega (arith, i) | false ↦ omega (arith, i) ] in
    split (entry_is_used e)

-- the files of entries have names as wide as theirs
pub files_wide : (g : Geometry) (ix : List Index) (image : List ℕ) (es : List Entry) → ((k : ℕ) → k < length es → length (get_or es k void_entry).name ≡ 28)
    → (k : ℕ) → k < length (files_in g ix image es) → length (get_or (files_in g ix image es) k no_file).name ≡ 28
files_wide g ix image [] all k h = absurd (omega (arith, h))
files_wide g ix image (e ∷ es) all k h =
    let i = files_wide g ix image es (λ k h. all (suc k) (omega (arith, h))) in
    let f : File = record { name = e.name; bytes = content_of g ix image e } in
    let rest = files_in g ix image es in
    let P : Bool → Type 0 = λ b. (k : ℕ) → k < length (cond b (f ∷ rest) rest) → length (get_or (cond b (f ∷ rest) rest) k no_file).name ≡ 28 in
    let yes : P true = here f rest (all 0 (omega arith)) i in
    let split : (b : Bool) → P b = λ b. elim b as (λ b. P b) [ true ↦ yes | false ↦ i ] in
    split (entry_is_used e) k h
  where
    here : (f : File) (rest : List File) → length f.name ≡ 28 → ((k : ℕ) → k < length rest → length (get_or rest k no_file).name ≡ 28)
        → (k : ℕ) → k < length (f ∷ rest) → length (get_or (f ∷ rest) k no_file).name ≡ 28
    here f rest w all zero h = w
    here f rest w all (suc k) h = all k (omega (arith, h))

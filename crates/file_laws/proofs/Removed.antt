-- A file is removed.
use Rattle.std.proofs.Common.{◌≡◌, ◌≢◌, ℕ, zero, suc, ◌+◌, ◌*◌, ◌/◌, ◌<◌, ◌≤◌, Bool, true, false, cond, not, ◌&&◌, List, [], ◌∷◌, ◌++◌, length, map, take, drop, refl, sym, ap, ◌∙◌, subst, arith, slice_index, slice_index_or, slice_set, get_or-set_same, get_or-set_other, length-set, ⊎_elim, count_by, bytes_eq}
use Rattle.std.specs.List.{flat_map}
use Rattle.std.proofs.lemmas.List.{set-set, set-get_or}
use Rattle.std.proofs.lemmas.List.Sums.{sum_by-cons}
use Rattle.std.proofs.lemmas.Bool.{cases_eq, false≢true}
use Rattle.std.proofs.lemmas.Slice.Eq.{bytes_eq-Decides}
use Rattle.lfs_format.specs.declared.Entry.{Entry}
use Rattle.lfs_format.specs.declared.Index.{Index}
use Rattle.lfs_format.specs.Directory.{dir_of, void_entry}
use Rattle.lfs_check.specs.declared.geometry.Geometry.{Geometry}
use Rattle.lfs_check.specs.declared.fields.Header.{Header}
use Rattle.lfs_check.specs.Geometries.{index_count, first_data, IsGeometry}
use Rattle.lfs_check.specs.Rules.{entry_is_used, is_name, block_in, are_zeros}
use Rattle.lfs_check.specs.Laid.{Shape, Places, numbers_at}
use Rattle.lfs_check.specs.Clean.{LaidIn}
use Rattle.lfs_check.specs.Fields.{geometry_of, fields_of, link_in_bytes}
use Rattle.lfs_check.proofs.Lies.{datas-read}
use Rattle.lfs_check.proofs.Numbered.{numbered-at}
use Rattle.lfs_check.proofs.Changed.{Laid-changed}
use Rattle.lfs_check.proofs.Instances.{dropped}
use Rattle.lfs_check.specs.Disks.{is_this, entries, entry_at, header_on, disk_geometry, IsDirectory, IsRight}
use Rattle.lfs_check.proofs.Directories.{geometry_is, joined_same}
use Rattle.lfs_check.proofs.Moved.{IsMoved, Laid-moved, data_range}
use Rattle.lfs_check.proofs.KeepsAll.{either-way}
use Rattle.lfs_layout.specs.Files.{File, bare_name, content_of, files_in, sorted, with_file, files_of, is_before}
use Rattle.xinu_model.specs.Files.Stored.{without_file, is_named}
use Rattle.file_laws.specs.StoredFiles.{stored, stored_files, entry_bytes}
use Rattle.file_laws.specs.Middle.{shape_with, content_at, IsMiddle}
use Rattle.file_laws.proofs.Names.{bare_same}
use Rattle.file_laws.proofs.Named.{names_differ, IsName, AreNames, length_entries, entry_right, entry_name, clean_names, file_in}
use Rattle.file_laws.proofs.Counted.{entry_fits, base_counted}
use Rattle.file_laws.specs.Rewriting.{IsRemoved, IsCleared, IsRewriting, rewritten}
use Rattle.file_laws.proofs.Rewritten.{rewritten_long, rewritten_other, rewritten_entries, rewritten_header, rewritten_indexes, rewritten_link}
use Rattle.file_laws.proofs.Right.{base_directory, rewritten_directory, right_clean}
use Rattle.file_laws.proofs.Created.{flat_same, placed}
use Rattle.file_laws.proofs.Sorting.{files_put}

-- no file has this name
abbrev pub AreOthers : List ℕ → List File → Type 0
AreOthers name [] = Unit {0}
AreOthers name (f ∷ files) = (bytes_eq f.name name ≡ false) × AreOthers name files

-- the abstract machine goes by the same names
named_is : (name : List ℕ) (f : File) → IsName name → IsName f.name → is_named (bare_name name) (stored f) ≡ bytes_eq f.name name
named_is name f h hf = bare_same f.name name (hf.long ∙ sym h.long) hf.padded h.padded

-- the file of the name is left out
drop_named : (name : List ℕ) (f : File) (files : List File) → IsName name → IsName f.name → bytes_eq f.name name ≡ true
    → without_file (bare_name name) (map stored (f ∷ files)) ≡ without_file (bare_name name) (map stored files)
drop_named name f files h hf same = ap (λ v.
    cond (not v) (stored f ∷ without_file (bare_name name) (map stored files)) (without_file (bare_name name) (map stored files)))
    (named_is name f h hf ∙ same)

-- a file of another name stays
keep_named : (name : List ℕ) (f : File) (files : List File) → IsName name → IsName f.name → bytes_eq f.name name ≡ false
    → without_file (bare_name name) (map stored (f ∷ files)) ≡ stored f ∷ without_file (bare_name name) (map stored files)
keep_named name f files h hf other = ap (λ v.
    cond (not v) (stored f ∷ without_file (bare_name name) (map stored files)) (without_file (bare_name name) (map stored files)))
    (named_is name f h hf ∙ other)

-- files of other names stay
keep_all : (name : List ℕ) (files : List File) → IsName name → AreNames files → AreOthers name files
    → without_file (bare_name name) (map stored files) ≡ map stored files
keep_all name [] h a o = refl
keep_all name (f ∷ files) h a o = keep_named name f files h a.0 o.0 ∙ ap (λ l. stored f ∷ l) (keep_all name files h a.1 o.1)

-- A file that was put among others that haven't its name is taken out again.
without_put : (name : List ℕ) (f : File) (files : List File) → IsName name → IsName f.name → AreNames files → bytes_eq f.name name ≡ true
    → AreOthers name files → without_file (bare_name name) (map stored (with_file f files)) ≡ map stored files
without_put name f [] h hf a same others = drop_named name f [] h hf same
without_put name f (g ∷ files) h hf a same others =
    let i = without_put name f files h hf a.1 same others.1 in
    either-way (is_before f.name g.name) (λ v.
    without_file (bare_name name) (map stored (cond v (f ∷ g ∷ files) (g ∷ with_file f files))) ≡ stored g ∷ map stored files)
    (λ _. drop_named name f (g ∷ files) h hf same ∙ keep_all name (g ∷ files) h a others)
    (λ _. keep_named name g (with_file f files) h a.0 others.0 ∙ ap (λ l. stored g ∷ l) i)

-- a file of another name comes among others
others_with : (name : List ℕ) (f : File) (files : List File) → bytes_eq f.name name ≡ false → AreOthers name files
    → AreOthers name (with_file f files)
others_with name f [] h o = (h, tt)
others_with name f (g ∷ files) h o = either-way (is_before f.name g.name) (λ v.
    AreOthers name (cond v (f ∷ g ∷ files) (g ∷ with_file f files))) (λ _. (h, o)) (λ _. (o.0, others_with name f files h o.1))

-- files of other names in their order
others_sorted : (name : List ℕ) (files : List File) → AreOthers name files → AreOthers name (sorted files)
others_sorted name [] o = tt
others_sorted name (f ∷ files) o = others_with name f (sorted files) o.0 (others_sorted name files o.1)

-- the files of entries of other names
others_in : (g : Geometry) (ix : List Index) (disk name : List ℕ) (es : List Entry)
    → ((k : ℕ) → k < length es → entry_is_used (slice_index_or es k void_entry) ≡ true
    → bytes_eq (slice_index_or es k void_entry).name name ≡ false) → AreOthers name (files_in g ix disk es)
others_in g ix disk name [] all = tt
others_in g ix disk name (e ∷ es) all =
    let i = others_in g ix disk name es (λ k h u. all (suc k) (omega (arith, h)) u) in
    either-way (entry_is_used e) (λ v. entry_is_used e ≡ v
    → AreOthers name (cond v (file_in g ix disk e ∷ files_in g ix disk es) (files_in g ix disk es))) (λ _ u.
    (all 0 (omega arith) u, i)) (λ _ u. i) refl

-- an entry that fails a test comes in the place of one that passes it
count_less_one : (test : Entry → Bool) (es : List Entry) (k : ℕ) (new : Entry) → k < length es
    → test (slice_index_or es k void_entry) ≡ true → test new ≡ false → count_by test (slice_set es k new) + 1 ≡ count_by test es
count_less_one test [] k new h a b = absurd (omega (arith, h))
count_less_one test (e ∷ es) zero new h a b =
    let p = sum_by-cons (λ x. cond (test x) 1 0) new es in let q = sum_by-cons (λ x. cond (test x) 1 0) e es in
    let u : ◌≡◌ {A = ℕ} (cond (test e) 1 0) 1 = ap (λ v. cond v 1 0) a in
    let z : ◌≡◌ {A = ℕ} (cond (test new) 1 0) 0 = ap (λ v. cond v 1 0) b in
    omega (arith, p, q, u, z)
count_less_one test (e ∷ es) (suc k) new h a b =
    let i = count_less_one test es k new (omega (arith, h)) a b in
    let p = sum_by-cons (λ x. cond (test x) 1 0) e (slice_set es k new) in let q = sum_by-cons (λ x. cond (test x) 1 0) e es in
    omega (arith, p, q, i)

-- The directory is written with the entry cleared and one file less: the file is gone.
pub middle_removed : (n : ℕ) (base disk : List ℕ) (header : Header) (slot : ℕ) (entry cleared : Entry) (p : Places) (bytes eb hb : List ℕ)
    → IsMiddle n base disk header slot entry p bytes → IsCleared cleared
    → numbers_at p.chains slot ≡ [] → numbers_at p.datas slot ≡ [] → p.held_index ≡ [] → p.held_data ≡ []
    → header.files + 1 ≡ (header_on base).files → IsRewriting disk n slot cleared header eb hb
    → IsRemoved base slot (rewritten disk slot eb hb)
unfolding entries header_on stored_files
middle_removed n base disk header slot entry cleared p bytes eb hb m gone no_chain no_datas no_index no_data counts r = record {
  clean = right_clean made n p' right;
  size = longs ∙ sym m.base_long;
  files = files;
  others = at_other;
}
  where
    made : List ℕ
    made = rewritten disk slot eb hb

    g : Geometry
    g = disk_geometry n

    longs : length made ≡ 512 * n
    longs = (rewritten_long disk n slot cleared header eb hb r).1

    count_78 : length (entries base) ≡ 78
    count_78 = (length_entries base m.clean).0

    same_entries : entries disk ≡ entries base
    same_entries = joined_same (λ d. (dir_of (block_in disk d)).entries) (λ d. (dir_of (block_in base d)).entries) 6 (λ d l.
        ap (λ b. (dir_of b).entries) (m.directory d l))

    es_is : entries made ≡ slice_set (entries base) slot cleared
    es_is = rewritten_entries disk n slot cleared header eb hb r ∙ ap (λ es. slice_set es slot cleared) same_entries

    below : slot < length (entries base)
    below = let c = count_78 in let s = m.slot_is in omega (arith, c, s)

    len_made : length (entries made) ≡ length (entries base)
    len_made = ap length es_is ∙ length-set (entries base) slot cleared

    at_slot : entry_at made slot ≡ cleared
    at_slot = ap (λ es. slice_index_or es slot void_entry) es_is ∙ get_or-set_same (entries base) slot cleared void_entry below

    at_other : (k : ℕ) → k ≢ slot → entry_at made k ≡ entry_at base k
    at_other k ne = ap (λ es. slice_index_or es k void_entry) es_is ∙ get_or-set_other (entries base) slot k cleared void_entry ne

    -- a used entry of the made disk isn't that of the slot
    used_other : (k : ℕ) → entry_is_used (entry_at made k) ≡ true → k ≢ slot
    used_other k u q = false≢true (sym gone.unused ∙ ap entry_is_used (sym at_slot) ∙ ap (λ i. entry_is_used (entry_at made i)) (sym q) ∙ u)

    d : Shape
    d = shape_with n disk header slot entry

    inside : slot < length d.entries
    inside = let t = length-set (entries disk) slot entry in let s = ap length same_entries in let b = below in omega (arith, t, s, b)

    p' : Places
    p' = record p {
      chains = slice_set p.chains slot [];
      datas = slice_set p.datas slot [];
      held_index = numbers_at p.chains slot ++ p.held_index;
      held_data = numbers_at p.datas slot ++ p.held_data;
    }

    laid_cleared : LaidIn g (shape_with n disk header slot cleared) p'
    laid_cleared =
        let lies = Laid-changed (index_count g) (first_data g) n d _ p slot cleared [] [] _ _
        (dropped d p slot cleared inside gone.size gone.first) m.laid in
        let R : List Entry → Type 0 = λ es. LaidIn g (let s : Shape =
        record { header = header; entries = es; indexes = d.indexes; links = d.links } in s) p' in
        subst R (set-set (entries disk) slot entry cleared) lies

    moved : IsMoved (first_data g) n (shape_with n disk header slot cleared) (fields_of g made)
    moved = record {
      entries = rewritten_entries disk n slot cleared header eb hb r;
      indexes = rewritten_indexes disk n slot cleared header eb hb r;
      free_index = ap (λ (x : Header). x.free_index) (rewritten_header disk n slot cleared header eb hb r);
      free_data = ap (λ (x : Header). x.free_data) (rewritten_header disk n slot cleared header eb hb r);
      links = λ b low high. numbered-at (link_in_bytes made) n b 0 high
          ∙ rewritten_link disk n slot cleared header eb hb r b (omega (arith, low)) ∙ sym (numbered-at (link_in_bytes disk) n b 0 high);
    }

    laid_made : LaidIn g (fields_of g made) p'
    laid_made = Laid-moved (index_count g) (first_data g) n (shape_with n disk header slot cleared) (fields_of g made) p' moved laid_cleared

    directory : IsDirectory disk
    directory =
        let b = base_directory base m.clean in
        record {
          begins = λ d z l. ap (λ x. are_zeros (take 12 x)) (m.directory d l)
              ∙ b.begins d z l;
          ends = λ d l. ap (drop 480) (m.directory d l) ∙ b.ends d l;
        }

    right : IsRight made n p'
    right = record {
      long = longs;
      low = m.low;
      high = m.high;
      laid = laid_made;
      no_index = ap (λ x. x ++ p.held_index) no_chain ∙ no_index;
      no_data = ap (λ x. x ++ p.held_data) no_datas ∙ no_data;
      directory = rewritten_directory disk n slot cleared header eb hb directory r;
      names = λ k h u. (let other = used_other k u in let here = at_other k other in
          let q = entry_right base m.clean k h (ap entry_is_used (sym here) ∙ u) in (
            ap (λ (x : Entry). is_name 27 x.name) here ∙ q.name,
            λ j l. ap (λ (x : Entry). is_this x.name (entry_at made j)) here ∙
                ⊎_elim
                (λ s. ap (λ i. is_this (entry_at base k).name (entry_at made i)) s ∙ ap (is_this (entry_at base k).name) at_slot
                ∙ ap (λ v. v && bytes_eq cleared.name (entry_at base k).name) gone.unused)
                (λ s. ap (is_this (entry_at base k).name) (at_other j s) ∙ q.first j l)
                (cases_eq j slot),
          ));
      counted = (let b = base_counted base m.clean in let l =
          count_less_one entry_is_used (entries base) slot cleared below m.was_used gone.unused in
          ap (count_by entry_is_used) es_is ∙ (let e : count_by entry_is_used (slice_set (entries base) slot cleared) ≡ header.files =
          omega (arith, b, l, counts) in e)
          ∙ sym (ap (λ (x : Header). x.files) (rewritten_header disk n slot cleared header eb hb r)));
      sizes = λ k h u. (let here = at_other k (used_other k u) in let e = ap (λ (x : Entry). x.size) here in
          let f = entry_fits base m.clean k h (ap entry_is_used (sym here) ∙ u) in
          let l = m.base_long in omega (arith, e, f, l));
    }

    is_geometry : IsGeometry g
    is_geometry = let a = m.low in let b = m.high in record { dirs = omega arith; few = omega (arith, a); many = omega (arith, b) }

    ix : List Index
    ix = (fields_of g base).indexes

    ix' : List Index
    ix' = (fields_of g made).indexes

    geo_base : geometry_of base ≡ g
    geo_base = geometry_is base m.clean.version ∙ ap disk_geometry (let l = m.base_long in
        let e : length base / 512 ≡ n = omega (arith, l) in e)

    geo_made : geometry_of made ≡ g
    geo_made = geometry_is made (right_clean made n p' right).version
        ∙ ap disk_geometry (let l = longs in let e : length made / 512 ≡ n = omega (arith, l) in e)

    read_at : (k : ℕ) → k < length (entries made) → k ≢ slot
        → content_of g ix' made (entry_at made k) ≡ content_at disk p k (entry_at made k).size
    read_at k h ne =
        let range : (j : ℕ) → j < length (numbers_at p'.datas k)
        → (first_data g ≤ slice_index (numbers_at p'.datas k) j)
        × (slice_index (numbers_at p'.datas k) j < n) = λ j l.
        data_range (index_count g) (first_data g) n (fields_of g made) p' k j laid_made l in
        ap (λ bs. take (entry_at made k).size (flat_map (block_in made) bs)) (datas-read g (fields_of g made) p' is_geometry laid_made k h)
        ∙ ap (take (entry_at made k).size) (flat_same (block_in made) (block_in disk) (numbers_at p'.datas k) (λ j l.
        (let low = (range j l).0 in rewritten_other disk n slot cleared header eb hb r (slice_index (numbers_at p'.datas k) j)
        (omega (arith, low)))))
        ∙ ap (λ bs. take (entry_at made k).size (flat_map (block_in disk) bs)) (get_or-set_other p.datas slot k [] [] ne)

    name : List ℕ
    name = (entry_at base slot).name

    other_name : (k : ℕ) → k < 78 → k ≢ slot → entry_is_used (entry_at base k) ≡ true → bytes_eq (entry_at base k).name name ≡ false
    other_name k h ne u = names_differ base m.clean slot k m.slot_is h ne m.was_used u

    -- put back, it is the base again
    back : slice_set (entries made) slot (entry_at base slot) ≡ entries base
    back = ap (λ es. slice_set es slot (entry_at base slot)) es_is ∙ set-set (entries base) slot cleared (entry_at base slot)
        ∙ set-get_or (entries base) slot void_entry

    base_at : (k : ℕ) → entry_bytes base (entry_at base k) ≡ content_of g ix base (entry_at base k)
    base_at k = ap (λ x. content_of x (fields_of x base).indexes base (entry_at base k)) geo_base

    file : File
    file = file_in g ix base (entry_at base slot)

    put : sorted (files_in g ix base (entries base)) ≡ with_file file (sorted (files_in g ix' made (entries made)))
    put = ap (λ es. sorted (files_in g ix base es)) (sym back)
        ∙ files_put g ix' ix made base (entries made) slot (entry_at base slot) (let l = len_made in let b = below in
        omega (arith, l, b)) (ap entry_is_used at_slot ∙ gone.unused) m.was_used
        (λ j h u. (let ne = used_other j u in let here = at_other j ne in
        let lt : j < 78 = (let c = count_78 in let l = len_made in omega (arith, h, c, l)) in let v = ap entry_is_used (sym here) ∙ u in (
          ap (λ (x : Entry). bytes_eq x.name name) here ∙ other_name j lt ne v,
          sym (read_at j h ne ∙ ap (λ (x : Entry). content_at disk p j x.size) here ∙ m.others j lt ne v ∙ base_at j
              ∙ ap (content_of g ix base) (sym here)),
        )))

    made_names : AreNames (files_of made)
    made_names = clean_names made (right_clean made n p' right)

    files : stored_files made ≡ without_file (bare_name name) (stored_files base)
    files =
        let base_is : files_of base ≡ sorted (files_in g ix base (entries base)) = ap (λ x. sorted (placed x base)) geo_base in
        let made_is : files_of made ≡ sorted (files_in g ix' made (entries made)) = ap (λ x. sorted (placed x made)) geo_made in
        let h = entry_name base m.clean slot m.slot_is m.was_used in
        let rest : AreOthers name (sorted (files_in g ix' made (entries made))) =
        others_sorted name (files_in g ix' made (entries made)) (others_in g ix' made name (entries made) (λ k l u. (
        let ne = used_other k u in let here = at_other k ne in
        ap (λ (x : Entry). bytes_eq x.name name) here ∙ other_name k (let c = count_78 in let q = len_made in
        omega (arith, l, c, q)) ne (ap entry_is_used (sym here) ∙ u)))) in
        let N : List File → Type 0 = AreNames in
        ap (map stored) made_is ∙ sym (ap (λ fs. without_file (bare_name name) (map stored fs)) (base_is ∙ put)
        ∙ without_put name file (sorted (files_in g ix' made (entries made))) h h (subst N made_is made_names)
        ((bytes_eq-Decides name name).1 refl) rest)

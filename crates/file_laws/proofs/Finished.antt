-- A call that changed a file writes the directory: the disk is clean, with that file changed.
use Rattle.std.proofs.Common.{◌≡◌, ◌≢◌, ℕ, zero, suc, ◌+◌, ◌*◌, ◌/◌, ◌<◌, ◌≤◌, Bool, true, false, cond, not, ◌&&◌, nat_eq, if◌then◌else◌, List, [], ◌∷◌, length, map, take, drop, refl, sym, ap, ◌∙◌, arith, slice_index, slice_index_or, slice_set, get_or-set_same, get_or-set_other, length-set, ⊎_elim, count_by, bytes_eq}
use Rattle.std.specs.List.{flat_map}
use Rattle.std.proofs.lemmas.List.Sums.{sum_by-cons}
use Rattle.std.proofs.lemmas.Bool.{cases_eq}
use Rattle.std.proofs.lemmas.Slice.Eq.{bytes_eq-Decides}
use Rattle.lfs_format.specs.declared.Entry.{Entry}
use Rattle.lfs_format.specs.declared.Index.{Index}
use Rattle.lfs_format.specs.Directory.{dir_of, void_entry}
use Rattle.lfs_check.specs.declared.geometry.Geometry.{Geometry}
use Rattle.lfs_check.specs.declared.fields.Header.{Header}
use Rattle.lfs_check.specs.Geometries.{index_count, first_data, room, IsGeometry}
use Rattle.lfs_check.specs.Rules.{entry_is_used, is_name, block_in, are_zeros}
use Rattle.lfs_check.specs.Laid.{Places, numbers_at}
use Rattle.lfs_check.specs.Clean.{LaidIn}
use Rattle.lfs_check.specs.Fields.{geometry_of, fields_of, link_in_bytes}
use Rattle.lfs_check.proofs.Lies.{datas-read}
use Rattle.lfs_check.proofs.Numbered.{numbered-at}
use Rattle.lfs_check.specs.Disks.{is_this, entries, entry_at, header_on, disk_geometry, IsDirectory, IsRight}
use Rattle.lfs_check.proofs.Directories.{geometry_is, joined_same}
use Rattle.lfs_check.proofs.Moved.{IsMoved, Laid-moved, data_range}
use Rattle.lfs_check.proofs.KeepsAll.{either-way}
use Rattle.lfs_layout.specs.Files.{File, bare_name, content_of, files_in, sorted, with_file, files_of, is_before}
use Rattle.xinu_model.specs.Files.Stored.{StoredFile, with_contents, rewritten as rewritten_file}
use Rattle.file_laws.specs.StoredFiles.{stored, stored_files, entry_bytes}
use Rattle.file_laws.specs.Middle.{shape_with, content_at, IsMiddle}
use Rattle.file_laws.proofs.Names.{bare_same}
use Rattle.file_laws.proofs.Named.{names_differ, IsName, AreNames, length_entries, entry_right, entry_name, clean_names, file_in}
use Rattle.file_laws.proofs.Counted.{entry_fits, base_counted}
use Rattle.file_laws.specs.Rewriting.{IsFinished, IsRewriting, rewritten}
use Rattle.file_laws.proofs.Rewritten.{rewritten_long, rewritten_other, rewritten_entries, rewritten_header, rewritten_indexes, rewritten_link}
use Rattle.file_laws.proofs.Right.{base_directory, rewritten_directory, right_clean}
use Rattle.file_laws.proofs.Created.{flat_same, placed}

-- a file with other bytes if it has this name
abbrev pub with_bytes : List ℕ → List ℕ → File → File
with_bytes name bytes f = let g : File = record { name = f.name; bytes = cond (bytes_eq f.name name) bytes f.bytes } in g

-- a file gets other bytes before or after it is put in its place
pub with_rewritten : (name bytes : List ℕ) (f : File) (files : List File)
    → map (with_bytes name bytes) (with_file f files) ≡ with_file (with_bytes name bytes f) (map (with_bytes name bytes) files)
with_rewritten name bytes f [] = refl
with_rewritten name bytes f (g ∷ files) =
    either-way (is_before f.name g.name) (λ v.
    map (with_bytes name bytes) (cond v (f ∷ g ∷ files) (g ∷ with_file f files)) ≡ cond v
    (with_bytes name bytes f ∷ with_bytes name bytes g ∷ map (with_bytes name bytes) files)
    (with_bytes name bytes g ∷ with_file (with_bytes name bytes f) (map (with_bytes name bytes) files)))
    (λ _. refl) (λ _. ap (λ l. with_bytes name bytes g ∷ l) (with_rewritten name bytes f files))

-- other bytes do not change the order
pub sorted_rewritten : (name bytes : List ℕ) (files : List File)
    → sorted (map (with_bytes name bytes) files) ≡ map (with_bytes name bytes) (sorted files)
sorted_rewritten name bytes [] = refl
sorted_rewritten name bytes (f ∷ files) = ap (with_file (with_bytes name bytes f)) (sorted_rewritten name bytes files)
    ∙ sym (with_rewritten name bytes f (sorted files))

-- the same of the files of the abstract machine
pub stored_rewritten : (name bytes : List ℕ) (files : List File) → IsName name → AreNames files
    → map stored (map (with_bytes name bytes) files) ≡ with_contents (bare_name name) bytes (map stored files)
stored_rewritten name bytes [] h a = refl
stored_rewritten name bytes (f ∷ files) h a =
    let i = stored_rewritten name bytes files h a.1 in
    let same : bytes_eq (bare_name f.name) (bare_name name) ≡ bytes_eq f.name name =
    bare_same f.name name (a.0.long ∙ sym h.long) a.0.padded h.padded in
    let to : Bool → StoredFile = λ v. if v then (let x : StoredFile = record { name = bare_name f.name; bytes = bytes } in
    x) else stored f in
    let one : stored (with_bytes name bytes f) ≡ to (bytes_eq f.name name) =
    either-way (bytes_eq f.name name) (λ v. (let x : StoredFile = record { name = bare_name f.name; bytes = cond v bytes f.bytes } in
    x) ≡ to v) (λ _. refl) (λ _. refl) in
    ap (λ x. x ∷ map stored (map (with_bytes name bytes) files)) (one ∙ ap to (sym same))
    ∙ ap (λ l. rewritten_file (bare_name name) bytes (stored f) ∷ l) i

-- entries of which one has other bytes
pub files_rewritten : (g : Geometry) (ix ix' : List Index) (disk made name bytes : List ℕ) (es es' : List Entry) → length es' ≡ length es
    → ((j : ℕ) → j < length es → (slice_index_or es' j void_entry).name ≡ (slice_index_or es j void_entry).name)
    → ((j : ℕ) → j < length es → entry_is_used (slice_index_or es j void_entry) ≡ true
    → content_of g ix' made (slice_index_or es' j void_entry) ≡ cond (bytes_eq (slice_index_or es j void_entry).name name) bytes
    (content_of g ix disk (slice_index_or es j void_entry)))
    → files_in g ix' made es' ≡ map (with_bytes name bytes) (files_in g ix disk es)
files_rewritten g ix ix' disk made name bytes [] [] l n c = refl
files_rewritten g ix ix' disk made name bytes [] (e' ∷ es') l n c = absurd (omega (arith, l))
files_rewritten g ix ix' disk made name bytes (e ∷ es) [] l n c = absurd (omega (arith, l))
files_rewritten g ix ix' disk made name bytes (e ∷ es) (e' ∷ es') l n c =
    let i = files_rewritten g ix ix' disk made name bytes es es' (omega (arith, l)) (λ j h. n (suc j) (omega (arith, h))) (λ j h u.
    c (suc j) (omega (arith, h)) u) in
    let same : e'.name ≡ e.name = n 0 (omega arith) in
    let rest' = files_in g ix' made es' in let rest = files_in g ix disk es in
    let used : entry_is_used e' ≡ entry_is_used e = ap (λ x. not (nat_eq (slice_index x 0) 0)) same in
    let file : List ℕ → List ℕ → File = λ x y. record { name = x; bytes = y } in
    ap (λ v. cond v (file_in g ix' made e' ∷ rest') rest') used ∙
    either-way (entry_is_used e) (λ v. entry_is_used e ≡ v
    → cond v (file_in g ix' made e' ∷ rest') rest' ≡ map (with_bytes name bytes) (cond v (file_in g ix disk e ∷ rest) rest))
    (λ _ u. ap (λ x. file x (content_of g ix' made e') ∷ rest') same ∙ ap (λ y. file e.name y ∷ rest') (c 0 (omega arith) u)
    ∙ ap (λ t. with_bytes name bytes (file_in g ix disk e) ∷ t) i)
    (λ _ u. i) refl

-- an entry comes in the place of one that the test treats alike
count_same : (test : Entry → Bool) (es : List Entry) (k : ℕ) (new : Entry) → test new ≡ test (slice_index_or es k void_entry)
    → count_by test (slice_set es k new) ≡ count_by test es
count_same test [] k new a = refl
count_same test (e ∷ es) zero new a =
    let p = sum_by-cons (λ x. cond (test x) 1 0) new es in let q = sum_by-cons (λ x. cond (test x) 1 0) e es in
    p ∙ ap (λ v. cond v 1 0 + count_by test es) a ∙ sym q
count_same test (e ∷ es) (suc k) new a =
    let i = count_same test es k new a in
    let p = sum_by-cons (λ x. cond (test x) 1 0) e (slice_set es k new) in let q = sum_by-cons (λ x. cond (test x) 1 0) e es in
    omega (arith, p, q, i)

-- The directory is written with the entry of the file in hand: the disk is clean, and that file has its bytes.
pub middle_ends : (n : ℕ) (base disk : List ℕ) (header : Header) (slot : ℕ) (entry : Entry) (p : Places) (bytes eb hb : List ℕ)
    → IsMiddle n base disk header slot entry p bytes
    → p.held_index ≡ [] → p.held_data ≡ [] → header.files ≡ (header_on base).files → entry.size ≤ room (disk_geometry n)
    → IsRewriting disk n slot entry header eb hb
    → IsFinished base slot entry bytes (rewritten disk slot eb hb)
unfolding entries header_on stored_files
middle_ends n base disk header slot entry p bytes eb hb m no_index no_data counts fits r = record {
  clean = right_clean made n p right;
  size = longs ∙ sym m.base_long;
  files = files;
  entry_is = at_slot;
  others = at_other;
}
  where
    made : List ℕ
    made = rewritten disk slot eb hb

    g : Geometry
    g = disk_geometry n

    longs : length made ≡ 512 * n
    longs = (rewritten_long disk n slot entry header eb hb r).1

    count_78 : length (entries base) ≡ 78
    count_78 = (length_entries base m.clean).0

    same_entries : entries disk ≡ entries base
    same_entries = joined_same (λ d. (dir_of (block_in disk d)).entries) (λ d. (dir_of (block_in base d)).entries) 6 (λ d l.
        ap (λ b. (dir_of b).entries) (m.directory d l))

    es_is : entries made ≡ slice_set (entries base) slot entry
    es_is = rewritten_entries disk n slot entry header eb hb r ∙ ap (λ es. slice_set es slot entry) same_entries

    below : slot < length (entries base)
    below = let c = count_78 in let s = m.slot_is in omega (arith, c, s)

    at_slot : entry_at made slot ≡ entry
    at_slot = ap (λ es. slice_index_or es slot void_entry) es_is ∙ get_or-set_same (entries base) slot entry void_entry below

    at_other : (k : ℕ) → k ≢ slot → entry_at made k ≡ entry_at base k
    at_other k ne = ap (λ es. slice_index_or es k void_entry) es_is ∙ get_or-set_other (entries base) slot k entry void_entry ne

    name_at : (k : ℕ) → (entry_at made k).name ≡ (entry_at base k).name
    name_at k = ⊎_elim (λ q. ap (λ i. (entry_at made i).name) q ∙ ap (λ (x : Entry). x.name) at_slot ∙ m.named
        ∙ ap (λ i. (entry_at base i).name) (sym q)) (λ q. ap (λ (x : Entry). x.name) (at_other k q)) (cases_eq k slot)

    used_at : (k : ℕ) → entry_is_used (entry_at made k) ≡ entry_is_used (entry_at base k)
    used_at k = ap (λ x. not (nat_eq (slice_index x 0) 0)) (name_at k)

    moved : IsMoved (first_data g) n (shape_with n disk header slot entry) (fields_of g made)
    moved = record {
      entries = rewritten_entries disk n slot entry header eb hb r;
      indexes = rewritten_indexes disk n slot entry header eb hb r;
      free_index = ap (λ (x : Header). x.free_index) (rewritten_header disk n slot entry header eb hb r);
      free_data = ap (λ (x : Header). x.free_data) (rewritten_header disk n slot entry header eb hb r);
      links = λ b low high. numbered-at (link_in_bytes made) n b 0 high
          ∙ rewritten_link disk n slot entry header eb hb r b (omega (arith, low)) ∙ sym (numbered-at (link_in_bytes disk) n b 0 high);
    }

    laid_made : LaidIn g (fields_of g made) p
    laid_made = Laid-moved (index_count g) (first_data g) n (shape_with n disk header slot entry) (fields_of g made) p moved m.laid

    directory : IsDirectory disk
    directory =
        let b = base_directory base m.clean in
        record {
          begins = λ d z l. ap (λ x. are_zeros (take 12 x)) (m.directory d l)
              ∙ b.begins d z l;
          ends = λ d l. ap (drop 480) (m.directory d l) ∙ b.ends d l;
        }

    right : IsRight made n p
    right = record {
      long = longs;
      low = m.low;
      high = m.high;
      laid = laid_made;
      no_index = no_index;
      no_data = no_data;
      directory = rewritten_directory disk n slot entry header eb hb directory r;
      names = λ k h u. (let q = entry_right base m.clean k h (sym (used_at k) ∙ u) in (
        ap (is_name 27) (name_at k) ∙ q.name,
        λ j l. ap (λ x. is_this x (entry_at made j)) (name_at k)
            ∙ ap (λ v. v && bytes_eq (entry_at made j).name (entry_at base k).name) (used_at j)
            ∙ ap (λ x. entry_is_used (entry_at base j) && bytes_eq x (entry_at base k).name) (name_at j) ∙ q.first j l,
      ));
      counted = ap (count_by entry_is_used) es_is ∙ count_same entry_is_used (entries base) slot entry (ap (λ x.
          not (nat_eq (slice_index x 0) 0)) m.named) ∙ base_counted base m.clean ∙ sym counts
          ∙ sym (ap (λ (x : Header). x.files) (rewritten_header disk n slot entry header eb hb r));
      sizes = λ k h u. ⊎_elim
          (λ same. (let e : (entry_at made k).size ≡ entry.size = ap (λ i. (entry_at made i).size) same
          ∙ ap (λ (x : Entry). x.size) at_slot in omega (arith, e, fits)))
          (λ other. (let here = at_other k other in let e = ap (λ (x : Entry). x.size) here in
          let f = entry_fits base m.clean k h (ap entry_is_used (sym here) ∙ u) in
          let l = m.base_long in omega (arith, e, f, l)))
          (cases_eq k slot);
    }

    is_geometry : IsGeometry g
    is_geometry = let a = m.low in let b = m.high in record { dirs = omega arith; few = omega (arith, a); many = omega (arith, b) }

    ix' : List Index
    ix' = (fields_of g made).indexes

    geo_base : geometry_of base ≡ g
    geo_base = geometry_is base m.clean.version ∙ ap disk_geometry (let l = m.base_long in
        let e : length base / 512 ≡ n = omega (arith, l) in e)

    geo_made : geometry_of made ≡ g
    geo_made = geometry_is made (right_clean made n p right).version
        ∙ ap disk_geometry (let l = longs in let e : length made / 512 ≡ n = omega (arith, l) in e)

    ix : List Index
    ix = (fields_of g base).indexes

    len_made : length (entries made) ≡ length (entries base)
    len_made = ap length es_is ∙ length-set (entries base) slot entry

    -- the bytes of a file, by whose the blocks are
    read_at : (k : ℕ) → k < length (entries base) → content_of g ix' made (entry_at made k) ≡ content_at disk p k (entry_at made k).size
    read_at k h =
        let range : (j : ℕ) → j < length (numbers_at p.datas k)
        → (first_data g ≤ slice_index (numbers_at p.datas k) j)
        × (slice_index (numbers_at p.datas k) j < n) = λ j l.
        data_range (index_count g) (first_data g) n (fields_of g made) p k j laid_made l in
        ap (λ bs. take (entry_at made k).size (flat_map (block_in made) bs))
        (datas-read g (fields_of g made) p is_geometry laid_made k (let l = len_made in omega (arith, h, l)))
        ∙ ap (take (entry_at made k).size) (flat_same (block_in made) (block_in disk) (numbers_at p.datas k) (λ j l.
        (let low = (range j l).0 in rewritten_other disk n slot entry header eb hb r (slice_index (numbers_at p.datas k) j)
        (omega (arith, low)))))

    base_at : (k : ℕ) → entry_bytes base (entry_at base k) ≡ content_of g ix base (entry_at base k)
    base_at k = ap (λ x. content_of x (fields_of x base).indexes base (entry_at base k)) geo_base

    name : List ℕ
    name = (entry_at base slot).name

    other_name : (k : ℕ) → k < 78 → k ≢ slot → entry_is_used (entry_at base k) ≡ true → bytes_eq (entry_at base k).name name ≡ false
    other_name k h ne u = names_differ base m.clean slot k m.slot_is h ne m.was_used u

    contents : (k : ℕ) → k < length (entries base) → entry_is_used (entry_at base k) ≡ true
        → content_of g ix' made (entry_at made k) ≡ cond (bytes_eq (entry_at base k).name name) bytes
        (content_of g ix base (entry_at base k))
    contents k h u = read_at k h ∙ ⊎_elim
        (λ same. (let self : bytes_eq (entry_at base k).name name ≡ true = ap (λ i. bytes_eq (entry_at base i).name name) same
        ∙ (bytes_eq-Decides name name).1 refl in
        ap (λ i. content_at disk p i (entry_at made i).size) same ∙ ap (λ (x : Entry). content_at disk p slot x.size) at_slot ∙ m.mine
        ∙ sym (ap (λ v. cond v bytes (content_of g ix base (entry_at base k))) self)))
        (λ other. (let lt : k < 78 = (let c = count_78 in omega (arith, h, c)) in
        ap (λ (x : Entry). content_at disk p k x.size) (at_other k other) ∙ m.others k lt other u ∙ base_at k
        ∙ sym (ap (λ v. cond v bytes (content_of g ix base (entry_at base k))) (other_name k lt other u))))
        (cases_eq k slot)

    files : stored_files made ≡ with_contents (bare_name name) bytes (stored_files base)
    files =
        let base_is : files_of base ≡ sorted (files_in g ix base (entries base)) = ap (λ x. sorted (placed x base)) geo_base in
        ap (map stored) (ap (λ x. sorted (placed x made)) geo_made
        ∙ ap sorted (files_rewritten g ix ix' base made name bytes (entries base) (entries made) len_made (λ j h. name_at j) contents)
        ∙ sorted_rewritten name bytes (files_in g ix base (entries base)) ∙ ap (map (with_bytes name bytes)) (sym base_is))
        ∙ stored_rewritten name bytes (files_of base) (entry_name base m.clean slot m.slot_is m.was_used) (clean_names base m.clean)

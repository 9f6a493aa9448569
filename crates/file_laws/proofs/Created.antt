-- An empty file is made on a clean disk.
use Rattle.std.proofs.Common.{◌≡◌, ◌≢◌, ℕ, suc, ◌+◌, ◌*◌, ◌/◌, ◌%◌, ◌<◌, ◌≤◌, Bool, true, false, cond, ◌&&◌, List, [], ◌∷◌, ◌++◌, length, map, take, refl, sym, ap, ◌∙◌, subst, arith, slice_index, slice_index_or, slice_set, get_or-set_same, get_or-set_other, ⊎_elim, count_by, bytes_eq}
use Rattle.std.specs.List.{flat_map}
use Rattle.std.proofs.lemmas.List.{get_or-map}
use Rattle.std.proofs.lemmas.Bool.{cases_eq}
use Rattle.lfs_format.specs.declared.Entry.{Entry}
use Rattle.lfs_format.specs.declared.Index.{Index}
use Rattle.lfs_format.specs.Directory.{dir_of, void_entry, IsDirBlock}
use Rattle.lfs_check.specs.declared.geometry.Geometry.{Geometry}
use Rattle.lfs_check.specs.declared.fields.Header.{Header}
use Rattle.lfs_check.specs.Geometries.{index_count, first_data}
use Rattle.lfs_check.specs.Rules.{entry_is_used, is_name, block_in}
use Rattle.lfs_check.specs.Laid.{Shape, Places, with_header, numbers_at}
use Rattle.lfs_check.specs.Clean.{places_of, LaidIn, data_in}
use Rattle.lfs_check.specs.Fields.{geometry_of, fields_of, directory_entries, link_in_bytes}
use Rattle.lfs_check.proofs.Images.{image_lies, image_blocks, whole_blocks}
use Rattle.lfs_check.proofs.Steps.{Laid-created}
use Rattle.lfs_check.proofs.Numbered.{numbered-at}
use Rattle.lfs_check.specs.Disks.{is_this, entries, entry_at, header_on, dir_with_entry, dir_with_header, block_put, disk_geometry, IsRight}
use Rattle.lfs_check.proofs.Directories.{geometry_is}
use Rattle.lfs_check.proofs.Moved.{IsMoved, Laid-moved, data_range}
use Rattle.lfs_layout.specs.Files.{File, bare_name, content_of, files_in, sorted, with_file, files_of}
use Rattle.lfs_layout.specs.Images.{IsCleanImage}
use Rattle.lfs_layout.proofs.MadeRules.{name_used}
use Rattle.lfs_layout.proofs.Ordered.{bytes-swap}
use Rattle.xinu_model.specs.Files.Stored.{StoredFile, with_stored, empty_file}
use Rattle.file_laws.specs.StoredFiles.{stored, stored_files, empty_entry, one_more}
use Rattle.file_laws.proofs.Names.{name_padded}
use Rattle.file_laws.proofs.Named.{length_entries, entry_right, clean_names, file_in}
use Rattle.file_laws.specs.Rewriting.{IsRewriting, rewritten, IsCreated}
use Rattle.file_laws.proofs.Counted.{count_put, count_most, base_counted, entry_fits}
use Rattle.file_laws.proofs.Rewritten.{rewritten_long, rewritten_other, rewritten_entry, rewritten_entries, rewritten_header, rewritten_indexes, rewritten_link}
use Rattle.file_laws.proofs.Right.{base_directory, rewritten_directory, right_clean}
use Rattle.file_laws.proofs.Sorting.{files_put, stored_with}
use Rattle.lfs_check.specs.Laid as laid

-- blocks that are the same one by one are the same one after another
pub flat_same : (f g : ℕ → List ℕ) (xs : List ℕ) → ((j : ℕ) → j < length xs → f (slice_index xs j) ≡ g (slice_index xs j))
    → flat_map f xs ≡ flat_map g xs
flat_same f g [] all = refl
flat_same f g (x ∷ xs) all = ap (λ r. r ++ flat_map f xs) (all 0 (omega arith))
    ∙ ap (λ r. g x ++ r) (flat_same f g xs (λ j h. all (suc j) (omega (arith, h))))

-- the files of a disk, in the order of its entries
abbrev pub placed : Geometry → List ℕ → List File
placed g image = files_in g (fields_of g image).indexes image (directory_entries g image)

-- An unused entry gets a name that no file has: the disk is clean, with an empty file more.
pub created : (base : List ℕ) (slot : ℕ) (name eb hb : List ℕ) → IsCleanImage base → slot < 78 → entry_is_used (entry_at base slot) ≡ false
    → is_name 27 name ≡ true → length name ≡ 28
    → ((k : ℕ) → k < 78 → is_this name (entry_at base k) ≡ false)
    → IsDirBlock (dir_with_entry (dir_of (block_in base (slot / 13))) (slot % 13) (empty_entry name)) eb
    → IsDirBlock (dir_with_header (dir_of (block_in (block_put base (slot / 13) eb) 0)) (one_more (header_on base))) hb
    → IsCreated base slot name (rewritten base slot eb hb)
unfolding entries header_on stored_files
created base slot name eb hb c low_slot free is long none ee hh = record {
  clean = right_clean made n p right;
  size = longs.1 ∙ sym whole;
  files = files;
  entry = rewritten_entry base n slot entry header eb hb r slot low_slot
      ∙ get_or-set_same (entries base) slot entry void_entry (let l = count_78 in omega (arith, l, low_slot));
  others = λ k ne. ap (λ es. slice_index_or es k void_entry) es_is ∙ get_or-set_other (entries base) slot k entry void_entry ne;
}
  where
    n : ℕ
    n = length base / 512

    entry : Entry
    entry = empty_entry name

    header : Header
    header = one_more (header_on base)

    made : List ℕ
    made = rewritten base slot eb hb

    g : Geometry
    g = disk_geometry n

    whole : length base ≡ 512 * n
    whole = whole_blocks base c.faultless

    sizes : (14 ≤ n) × (n ≤ 65542)
    sizes =
        let size = image_blocks base c.faultless in (
          let P : Bool → Type 0 = λ b. cond b 14 8 ≤ n in subst P c.version size.0,
          let P : Bool → Type 0 = λ b. n ≤ cond b 65542 65536 in
              subst P c.version size.1,
        )

    r : IsRewriting base n slot entry header eb hb
    r = record { long = whole; room = (let s = sizes.0 in omega (arith, s)); slot_is = low_slot; entry_block = ee; header_block = hh }

    longs : (length (block_put base (slot / 13) eb) ≡ 512 * n) × (length made ≡ 512 * n)
    longs = rewritten_long base n slot entry header eb hb r

    count_78 : length (entries base) ≡ 78
    count_78 = (length_entries base c).0

    es_is : entries made ≡ slice_set (entries base) slot entry
    es_is = rewritten_entries base n slot entry header eb hb r

    used : entry_is_used entry ≡ true
    used = name_used 27 name is

    d : Shape
    d = fields_of g base

    p : Places
    p = places_of g d

    laid_base : LaidIn g d p
    laid_base = let P : Geometry → Type 0 = λ x. LaidIn x (fields_of x base) (places_of x (fields_of x base)) in
        subst P (geometry_is base c.version) (image_lies base c.faultless)

    d1 : Shape
    d1 = with_header (laid.entry_put d slot entry) (record d.header { files = header.files })

    laid_1 : LaidIn g d1 p
    laid_1 = Laid-created (index_count g) (first_data g) n d p slot header.files entry laid_base (let l = count_78 in
        omega (arith, l, low_slot)) free refl refl

    moved : IsMoved (first_data g) n d1 (fields_of g made)
    moved = record {
      entries = es_is;
      indexes = rewritten_indexes base n slot entry header eb hb r;
      free_index = ap (λ (x : Header). x.free_index) (rewritten_header base n slot entry header eb hb r);
      free_data = ap (λ (x : Header). x.free_data) (rewritten_header base n slot entry header eb hb r);
      links = λ b low high. numbered-at (link_in_bytes made) n b 0 high
          ∙ rewritten_link base n slot entry header eb hb r b (omega (arith, low)) ∙ sym (numbered-at (link_in_bytes base) n b 0 high);
    }

    laid_made : LaidIn g (fields_of g made) p
    laid_made = Laid-moved (index_count g) (first_data g) n d1 (fields_of g made) p moved laid_1

    at_slot : entry_at made slot ≡ entry
    at_slot = rewritten_entry base n slot entry header eb hb r slot low_slot
        ∙ get_or-set_same (entries base) slot entry void_entry (let l = count_78 in omega (arith, l, low_slot))

    at_other : (k : ℕ) → k ≢ slot → entry_at made k ≡ entry_at base k
    at_other k ne = ap (λ es. slice_index_or es k void_entry) es_is ∙ get_or-set_other (entries base) slot k entry void_entry ne

    -- a used entry of the base has another name
    differs : (k : ℕ) → k < 78 → entry_is_used (entry_at base k) ≡ true → bytes_eq (entry_at base k).name name ≡ false
    differs k h u = sym (ap (λ v. v && bytes_eq (entry_at base k).name name) u) ∙ none k h

    names : (k : ℕ) → k < 78 → entry_is_used (entry_at made k) ≡ true
        → (is_name 27 (entry_at made k).name ≡ true) × ((j : ℕ) → j < k → is_this (entry_at made k).name (entry_at made j) ≡ false)
    names k h u = ⊎_elim
        (λ same. (let here : entry_at made k ≡ entry = ap (entry_at made) same ∙ at_slot in (
          ap (λ (x : Entry). is_name 27 x.name) here ∙ is,
          λ j l. ap (λ (x : Entry). is_this x.name (entry_at made j)) here ∙ ap (is_this name) (at_other j (λ e. omega (arith, e, same, l)))
              ∙ none j (omega (arith, l, h)),
        )))
        (λ other. (let here = at_other k other in
        let u' : entry_is_used (entry_at base k) ≡ true = ap entry_is_used (sym here) ∙ u in
        let q = entry_right base c k h u' in (
          ap (λ (x : Entry). is_name 27 x.name) here ∙ q.name,
          λ j l. ap (λ (x : Entry). is_this x.name (entry_at made j)) here ∙
              ⊎_elim
              (λ s. ap (λ m. is_this (entry_at base k).name (entry_at made m)) s ∙ ap (is_this (entry_at base k).name) at_slot
              ∙ ap (λ v. v && bytes_eq name (entry_at base k).name) used ∙ bytes-swap name (entry_at base k).name ∙ differs k h u')
              (λ s. ap (is_this (entry_at base k).name) (at_other j s) ∙ q.first j l)
              (cases_eq j slot),
        )))
        (cases_eq k slot)

    counted : count_by entry_is_used (entries made) ≡ (header_on made).files
    counted =
        let b = base_counted base c in let l = count_78 in
        let plus = count_put entry_is_used (entries base) slot entry (omega (arith, l, low_slot)) free used in
        let few : (header_on base).files ≤ 78 = (let m = count_most_78 in omega (arith, b, m)) in
        ap (count_by entry_is_used) es_is ∙ (let f = (header_on base).files in
        let e : count_by entry_is_used (slice_set (entries base) slot entry) ≡ (f + 1) % 4294967296 = omega (arith, plus, b, few) in e)
        ∙ sym (ap (λ (x : Header). x.files) (rewritten_header base n slot entry header eb hb r))
      where
        count_most_78 : count_by entry_is_used (entries base) ≤ 78
        count_most_78 = let l = count_78 in let m = count_most entry_is_used (entries base) in omega (arith, l, m)

    right : IsRight made n p
    right = record {
      long = longs.1;
      low = sizes.0;
      high = sizes.1;
      laid = laid_made;
      no_index = refl;
      no_data = refl;
      directory = rewritten_directory base n slot entry header eb hb (base_directory base c) r;
      names = names;
      counted = counted;
      sizes = λ k h u. ⊎_elim
          (λ same. (let e : (entry_at made k).size ≡ 0 = ap (λ m. (entry_at made m).size) same ∙ ap (λ (x : Entry). x.size) at_slot in
          omega (arith, e)))
          (λ other. (let here = at_other k other in let e = ap (λ (x : Entry). x.size) here in
          let f = entry_fits base c k h (ap entry_is_used (sym here) ∙ u) in omega (arith, e, f)))
          (cases_eq k slot);
    }

    ix : List Index
    ix = d.indexes

    contents : (j : ℕ) → j < length (entries base) → entry_is_used (entry_at base j) ≡ true
        → content_of g ix made (entry_at base j) ≡ content_of g ix base (entry_at base j)
    contents j h u =
        let e = entry_at base j in
        let datas : numbers_at p.datas j ≡ data_in g ix e = get_or-map (data_in g ix) (entries base) j void_entry [] h in
        let P : List ℕ → Type 0 = λ xs. (i : ℕ) → i < length xs → (first_data g ≤ slice_index xs i) × (slice_index xs i < n) in
        let range : P (data_in g ix e) = subst P datas (λ i l. data_range (index_count g) (first_data g) n d p j i laid_base l) in
        ap (take e.size) (flat_same (block_in made) (block_in base) (data_in g ix e) (λ i l.
        (let low = (range i l).0 in rewritten_other base n slot entry header eb hb r (slice_index (data_in g ix e) i)
        (omega (arith, low)))))

    geo_made : geometry_of made ≡ g
    geo_made = geometry_is made (right_clean made n p right).version
        ∙ ap disk_geometry (let l = longs.1 in let e : length made / 512 ≡ n = omega (arith, l) in e)

    new_file : file_in g ix made entry ≡ (let f : File = record { name = name; bytes = [] } in f)
    new_file = refl

    files : stored_files made ≡ with_stored (empty_file (bare_name name)) (stored_files base)
    files =
        let f : File = record { name = name; bytes = [] } in
        let base_is : files_of base ≡ sorted (files_in g ix base (entries base)) =
        ap (λ x. sorted (placed x base)) (geometry_is base c.version) in
        ap (map stored) (ap (λ x. sorted (placed x made)) geo_made
        ∙ ap (λ i. sorted (files_in g i made (entries made))) (rewritten_indexes base n slot entry header eb hb r)
        ∙ ap (λ es. sorted (files_in g ix made es)) es_is
        ∙ files_put g ix ix base made (entries base) slot entry (let l = count_78 in
        omega (arith, l, low_slot)) free used (λ j h u. (differs j (let l = count_78 in omega (arith, l, h)) u, contents j h u))
        ∙ ap (with_file f) (sym base_is))
        ∙ stored_with f (files_of base) (record { padded = name_padded 27 name is; long = long }) (clean_names base c)
        ∙ ap (λ b. with_stored (let x : StoredFile = record { name = b; bytes = [] } in x) (map stored (files_of base))) refl

-- A disk holds the files at rest: between calls, in the middle of one, and between the two writes of the directory.
use Rattle.std.proofs.Common.{◌≡◌, ◌≢◌, ℕ, ◌+◌, ◌-◌, ◌*◌, ◌/◌, ◌%◌, ◌<◌, ◌≤◌, Bool, true, cond, not, ◌&&◌, nat_lt, List, [], length, take, drop, refl, sym, ap, ◌∙◌, subst, arith, slice_index, slice_index_or, get_or-set_other, length-set, ⊎_elim}
use Rattle.std.specs.List.{flat_map}
use Rattle.std.proofs.lemmas.Bool.{cases_eq}
use Rattle.std.proofs.lemmas.List.{get_or-map}
use Rattle.lfs_format.specs.declared.Entry.{Entry}
use Rattle.lfs_format.specs.declared.Dir.{Dir}
use Rattle.lfs_format.specs.Indexes.{index_of}
use Rattle.lfs_format.specs.Directory.{dir_of, dir_ending, void_entry, IsDirBlock}
use Rattle.lfs_check.specs.declared.geometry.Geometry.{Geometry}
use Rattle.lfs_check.specs.declared.fields.Header.{Header}
use Rattle.lfs_check.specs.Geometries.{index_count, first_data, IsGeometry}
use Rattle.lfs_check.specs.Rules.{entry_is_used, block_in}
use Rattle.lfs_check.specs.Laid.{FileLies, Shape, Places, no_index, numbers_at, entry_in, times_in}
use Rattle.lfs_check.specs.Clean.{chain_in, data_in, places_of, LaidIn}
use Rattle.lfs_check.specs.Fields.{is_version_2, geometry_of, fields_of, numbered_values, index_in_bytes, index_place}
use Rattle.lfs_check.specs.Disks.{disk_geometry, block_put, entries, entry_at, dir_with_entry}
use Rattle.lfs_check.proofs.Lies.{chains-read, datas-read}
use Rattle.lfs_check.proofs.Steps.{at_most_one}
use Rattle.lfs_check.proofs.Images.{image_lies, image_blocks, whole_blocks}
use Rattle.lfs_check.proofs.Moved.{data_range}
use Rattle.lfs_check.proofs.BlockPuts.{length_put, put_same, put_other, put_after}
use Rattle.lfs_check.proofs.Directories.{geometry_is, numbered_same, entry_of_block}
use Rattle.lfs_check.proofs.Right.{version_is}
use Rattle.lfs_layout.specs.Images.{IsCleanImage}
use Rattle.file_laws.specs.StoredFiles.{entry_bytes, entry_chain, entry_data}
use Rattle.file_laws.specs.Middle.{shape_with, content_at, IsMiddle}
use Rattle.file_laws.proofs.Named.{length_entries}
use Rattle.file_laws.proofs.Right.{base_directory}
use Rattle.file_laws.proofs.Rewritten.{entry_count}
use Rattle.file_laws.proofs.Created.{flat_same}
use Rattle.file_laws.proofs.Needs.{same_entries}

-- all files of a base but that of a slot are on the disk as they were, in these blocks
pub record IsKept (n : ℕ) (base disk : List ℕ) (slot : ℕ) (p : Places) : Type 0 where
  pub long : length disk ≡ 512 * n
  pub low : 14 ≤ n
  pub ends : drop 480 (block_in disk 0) ≡ dir_ending
  pub entry : (k : ℕ) → k < 78 → k ≢ slot → entry_at disk k ≡ entry_at base k
  pub chain : (k : ℕ) → k < 78 → k ≢ slot → entry_chain disk (entry_at disk k) ≡ numbers_at p.chains k
  pub data_is : (k : ℕ) → k < 78 → k ≢ slot → entry_data disk (entry_at disk k) ≡ numbers_at p.datas k
  pub bytes : (k : ℕ) → k < 78 → k ≢ slot → entry_is_used (entry_at base k) ≡ true
      → entry_bytes disk (entry_at disk k) ≡ entry_bytes base (entry_at base k)
  pub lies : (k : ℕ) → k < 78 → k ≢ slot → entry_is_used (entry_at base k) ≡ true
      → FileLies (fields_of (disk_geometry n) disk) (entry_at disk k) (numbers_at p.chains k) (numbers_at p.datas k)
  pub after : (k j : ℕ) → k < 78 → k ≢ slot → j < length (numbers_at p.datas k) → 6 ≤ slice_index (numbers_at p.datas k) j
  pub one_index : (i : ℕ) → times_in i p.chains ≤ 1
  pub one_data : (b : ℕ) → times_in b p.datas ≤ 1

-- the geometry of a disk that ends its first block as one of version 2
pub ended_geometry : (n : ℕ) (disk : List ℕ) → length disk ≡ 512 * n → 14 ≤ n → drop 480 (block_in disk 0) ≡ dir_ending
    → geometry_of disk ≡ disk_geometry n
ended_geometry n disk long least ends = geometry_is disk (version_is disk n long least ends)
    ∙ ap disk_geometry (let e : length disk / 512 ≡ n = omega (arith, long) in e)

-- a file lies as it lay where entry and index blocks are the same
lies_alike : (d x : Shape) (e y : Entry) (chain blocks : List ℕ) → x.indexes ≡ d.indexes → e ≡ y → FileLies d e chain blocks → FileLies x y chain blocks
lies_alike d x e y chain blocks same is lies =
    let P : Entry → Type 0 = λ entry. FileLies x entry chain blocks in
    subst P is (record {
      indexes = lies.indexes;
      datas = lies.datas;
      first = lies.first;
      each = λ j h. ap (λ xs. slice_index_or xs (slice_index chain j) no_index) same ∙ lies.each j h;
    })

-- in the middle of a call all files but that in hand are kept
pub middle_kept : (n : ℕ) (base disk : List ℕ) (header : Header) (slot : ℕ) (entry : Entry) (p : Places) (bytes : List ℕ)
    → IsMiddle n base disk header slot entry p bytes → IsKept n base disk slot p
unfolding entries
middle_kept n base disk header slot entry p bytes m = record {
  long = m.long;
  low = m.low;
  ends = ends;
  entry = λ k h ne. same k;
  chain = chain;
  data_is = data_is;
  bytes = λ k h ne u. ap (λ bs. take (entry_at disk k).size (flat_map (block_in disk) bs)) (data_is k h ne)
      ∙ ap (λ (x : Entry). content_at disk p k x.size) (same k) ∙ m.others k h ne u;
  lies = λ k h ne u. (let used = ap entry_is_used (here k ne ∙ same k) ∙ u in
      lies_alike d (fields_of g disk) (entry_in d k) (entry_at disk k) (numbers_at p.chains k) (numbers_at p.datas k) refl (here k ne)
      (m.laid.file k (inside k h) used));
  after = λ k j h ne l. (let low = (data_range (index_count g) (first_data g) n d p k j m.laid l).0 in omega (arith, low));
  one_index = λ i. (let one = m.laid.one_index i in let most = at_most_one (nat_lt i (index_count g)) in omega (arith, one, most));
  one_data = λ b. (let one = m.laid.one_data b in let most = at_most_one (nat_lt b n && not (nat_lt b (first_data g))) in
      omega (arith, one, most));
}
  where
    g : Geometry
    g = disk_geometry n

    d : Shape
    d = shape_with n disk header slot entry

    ends : drop 480 (block_in disk 0) ≡ dir_ending
    ends = ap (drop 480) (m.directory 0 (omega arith)) ∙ (base_directory base m.clean).ends 0 (omega arith)

    is : geometry_of disk ≡ g
    is = ended_geometry n disk m.long m.low ends

    geo : IsGeometry g
    geo = let low = m.low in let high = m.high in record { dirs = omega arith; few = omega (arith, low); many = omega (arith, high) }

    same : (k : ℕ) → entry_at disk k ≡ entry_at base k
    same k = ap (λ es. slice_index_or es k void_entry) (same_entries n base disk header slot entry p bytes m)

    inside : (k : ℕ) → k < 78 → k < length d.entries
    inside k h = let low = m.low in let count = entry_count disk n m.long (omega (arith, low)) in
        let t = length-set (entries disk) slot entry in omega (arith, count, h, t)

    here : (k : ℕ) → k ≢ slot → entry_in d k ≡ entry_at disk k
    here k ne = get_or-set_other (entries disk) slot k entry void_entry ne

    chain : (k : ℕ) → k < 78 → k ≢ slot → entry_chain disk (entry_at disk k) ≡ numbers_at p.chains k
    chain k h ne = ap (λ x. chain_in x (fields_of x disk).indexes (entry_at disk k)) is ∙ ap (chain_in g d.indexes) (sym (here k ne))
        ∙ chains-read g d p geo m.laid k (inside k h)

    data_is : (k : ℕ) → k < 78 → k ≢ slot → entry_data disk (entry_at disk k) ≡ numbers_at p.datas k
    data_is k h ne = ap (λ x. data_in x (fields_of x disk).indexes (entry_at disk k)) is ∙ ap (data_in g d.indexes) (sym (here k ne))
        ∙ datas-read g d p geo m.laid k (inside k h)

-- on a clean disk all files are kept
pub clean_kept : (base : List ℕ) (slot : ℕ) → IsCleanImage base
    → IsKept (length base / 512) base base slot
    (places_of (disk_geometry (length base / 512)) (fields_of (disk_geometry (length base / 512)) base))
unfolding entries
clean_kept base slot c = record {
  long = whole_blocks base c.faultless;
  low = (let P : Bool → Type 0 = λ b. cond b 14 8 ≤ n in subst P c.version size.0);
  ends = (base_directory base c).ends 0 (omega arith);
  entry = λ k h ne. refl;
  chain = λ k h ne. ap (λ x. chain_in x (fields_of x base).indexes (entry_at base k)) is
      ∙ sym (get_or-map (chain_in g d.indexes) (entries base) k void_entry [] (inside k h));
  data_is = λ k h ne. ap (λ x. data_in x (fields_of x base).indexes (entry_at base k)) is
      ∙ sym (get_or-map (data_in g d.indexes) (entries base) k void_entry [] (inside k h));
  bytes = λ k h ne u. refl;
  lies = λ k h ne u. lies.file k (inside k h) u;
  after = λ k j h ne l. (let low = (data_range (index_count g) (first_data g) n d p k j lies l).0 in omega (arith, low));
  one_index = λ i. (let one = lies.one_index i in let most = at_most_one (nat_lt i (index_count g)) in omega (arith, one, most));
  one_data = λ b. (let one = lies.one_data b in let most = at_most_one (nat_lt b n && not (nat_lt b (first_data g))) in
      omega (arith, one, most));
}
  where
    n : ℕ
    n = length base / 512

    g : Geometry
    g = disk_geometry n

    d : Shape
    d = fields_of g base

    p : Places
    p = places_of g d

    is : geometry_of base ≡ g
    is = geometry_is base c.version

    size : (cond (is_version_2 base) 14 8 ≤ n) × (n ≤ cond (is_version_2 base) 65542 65536)
    size = image_blocks base c.faultless

    lies : LaidIn g d p
    lies = let P : Geometry → Type 0 = λ x. LaidIn x (fields_of x base) (places_of x (fields_of x base)) in
        subst P is (image_lies base c.faultless)

    inside : (k : ℕ) → k < 78 → k < length (entries base)
    inside k h = let l = (length_entries base c).0 in omega (arith, h, l)

-- The directory block of the slot is written: the other files are still kept.
pub kept_written : (n : ℕ) (base disk : List ℕ) (slot : ℕ) (entry : Entry) (p : Places) (block : List ℕ) → IsKept n base disk slot p
    → slot < 78
    → IsDirBlock (dir_with_entry (dir_of (block_in disk (slot / 13))) (slot % 13) entry) block
    → IsKept n base (block_put disk (slot / 13) block) slot p
kept_written n base disk slot entry p block kept in_dir put = record {
  long = long;
  low = kept.low;
  ends = ends;
  entry = λ k h ne. same k h ne ∙ kept.entry k h ne;
  chain = λ k h ne. fields_chain (entry_at made k) ∙ ap (entry_chain disk) (same k h ne) ∙ kept.chain k h ne;
  data_is = data_is;
  bytes = λ k h ne u. ap (λ bs. take (entry_at made k).size (flat_map (block_in made) bs)) (data_is k h ne)
      ∙ ap (take (entry_at made k).size) (flat_same (block_in made) (block_in disk) (numbers_at p.datas k) (λ j l.
      (let low = kept.after k j h ne l in other (slice_index (numbers_at p.datas k) j) (λ e. omega (arith, e, low, in_dir)))))
      ∙ ap (λ bs. take (entry_at made k).size (flat_map (block_in disk) bs)) (sym (kept.data_is k h ne))
      ∙ ap (λ (x : Entry). take x.size (flat_map (block_in disk) (entry_data disk (entry_at disk k)))) (same k h ne) ∙ kept.bytes k h ne u;
  lies = λ k h ne u.
      lies_alike (fields_of g disk) (fields_of g made) (entry_at disk k) (entry_at made k) (numbers_at p.chains k) (numbers_at p.datas k) indexes
      (sym (same k h ne)) (kept.lies k h ne u);
  after = kept.after;
  one_index = kept.one_index;
  one_data = kept.one_data;
}
  where
    b : ℕ
    b = slot / 13

    made : List ℕ
    made = block_put disk b block

    g : Geometry
    g = disk_geometry n

    in_n : b < n
    in_n = let low = kept.low in omega (arith, low, in_dir)

    long : length made ≡ 512 * n
    long = length_put disk b n block kept.long in_n put.long ∙ kept.long

    other : (m : ℕ) → m ≢ b → block_in made m ≡ block_in disk m
    other m ne = put_other disk b n block m kept.long in_n put.long ne

    here : block_in made b ≡ block
    here = put_same disk b n block kept.long in_n put.long

    ends : drop 480 (block_in made 0) ≡ dir_ending
    ends = ⊎_elim (λ e. ap (λ m. drop 480 (block_in made m)) e ∙ ap (drop 480) here ∙ put.ends) (λ ne. ap (drop 480) (other 0 ne)
        ∙ kept.ends) (cases_eq 0 b)

    indexes : numbered_values (index_in_bytes g made) (index_count g) ≡ numbered_values (index_in_bytes g disk) (index_count g)
    indexes = numbered_same (index_in_bytes g made) (index_in_bytes g disk) (index_count g)
        (λ i h. ap index_of (let at = index_place g i in let e : at ≡ 512 * b + 512 + (at - (512 * b + 512)) = omega (arith, in_dir) in
        ap (λ j. drop j made) e ∙ put_after disk b n block (at - (512 * b + 512)) kept.long in_n put.long ∙ ap (λ j. drop j disk) (sym e)))

    is_made : geometry_of made ≡ g
    is_made = ended_geometry n made long kept.low ends

    is_disk : geometry_of disk ≡ g
    is_disk = ended_geometry n disk kept.long kept.low kept.ends

    fields_chain : (e : Entry) → entry_chain made e ≡ entry_chain disk e
    fields_chain e = ap (λ x. chain_in x (fields_of x made).indexes e) is_made ∙ ap (λ xs. chain_in g xs e) indexes
        ∙ sym (ap (λ x. chain_in x (fields_of x disk).indexes e) is_disk)

    fields_data : (e : Entry) → entry_data made e ≡ entry_data disk e
    fields_data e = ap (λ x. data_in x (fields_of x made).indexes e) is_made ∙ ap (λ xs. data_in g xs e) indexes
        ∙ sym (ap (λ x. data_in x (fields_of x disk).indexes e) is_disk)

    same : (k : ℕ) → k < 78 → k ≢ slot → entry_at made k ≡ entry_at disk k
    same k h ne =
        let low = kept.low in let r = k / 13 in let j = k % 13 in
        let k_is : 13 * r + j ≡ k = omega arith in let in_six : r < 6 = omega (arith, h) in let small : j < 13 = omega arith in
        let at : (x : List ℕ) → length x ≡ 512 * n → slice_index_or (dir_of (block_in x r)).entries j void_entry ≡ entry_at x k = λ x l.
        entry_of_block x n r j l (omega (arith, low)) in_six small ∙ ap (entry_at x) k_is in
        sym (at made long) ∙ ⊎_elim
        (λ e. (let dir = dir_of (block_in disk b) in
        ap (λ m. slice_index_or (dir_of (block_in made m)).entries j void_entry) e
        ∙ ap (λ x. slice_index_or (dir_of x).entries j void_entry) here ∙ ap (λ (x : Dir). slice_index_or x.entries j void_entry) put.is
        ∙ get_or-set_other dir.entries (slot % 13) j entry void_entry (λ q. ne (omega (arith, e, q)))
        ∙ ap (λ m. slice_index_or (dir_of (block_in disk m)).entries j void_entry) (sym e)))
        (λ ne. ap (λ x. slice_index_or (dir_of x).entries j void_entry) (other r ne))
        (cases_eq r b) ∙ at disk kept.long

    data_is : (k : ℕ) → k < 78 → k ≢ slot → entry_data made (entry_at made k) ≡ numbers_at p.datas k
    data_is k h ne = fields_data (entry_at made k) ∙ ap (entry_data disk) (same k h ne) ∙ kept.data_is k h ne

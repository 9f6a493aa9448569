-- The steps of a call that changes a file.
use Rattle.std.proofs.Common.{◌≡◌, ◌≢◌, ℕ, suc, ◌+◌, ◌*◌, ◌/◌, ◌%◌, ◌<◌, ◌≤◌, Bool, true, false, cond, not, ◌&&◌, nat_lt, nat_eq, List, [], ◌∷◌, ◌++◌, length, take, refl, sym, ap, ◌∙◌, subst, arith, slice_index, slice_index_or, slice_set, get_or-set_same, get_or-set_other, length-set}
use Rattle.std.specs.List.{flat_map}
use Rattle.std.proofs.lemmas.List.{get_or-map, set-get_or, set-set}
use Rattle.std.proofs.lemmas.Bool.Decides.{nat_tests}
use Rattle.lfs_format.specs.declared.Entry.{Entry}
use Rattle.lfs_format.specs.declared.Index.{Index}
use Rattle.lfs_format.specs.Words.{word_of}
use Rattle.lfs_format.specs.Directory.{void_entry}
use Rattle.lfs_format.specs.Indexes.{IsIndexPut}
use Rattle.lfs_check.proofs.Numbered.{length_numbered}
use Rattle.lfs_check.specs.declared.geometry.Geometry.{Geometry}
use Rattle.lfs_check.specs.declared.fields.Header.{Header}
use Rattle.lfs_check.specs.Geometries.{index_count, first_data}
use Rattle.lfs_check.specs.Rules.{entry_is_used, block_in}
use Rattle.lfs_check.specs.Meets.{times_met}
use Rattle.lfs_check.specs.Laid.{Shape, Places, numbers_at, times_in, data_put, index_for, index_put}
use Rattle.lfs_check.specs.Clean.{LaidIn, places_of, data_in}
use Rattle.lfs_check.specs.Fields.{fields_of, numbered_values, index_in_bytes, link_in_bytes}
use Rattle.lfs_check.proofs.Images.{image_lies, image_blocks, whole_blocks}
use Rattle.lfs_check.proofs.Steps.{times-at, times_in-part, times_in-two, at_most_one, differs, Laid-link, Laid-data_put, Laid-data_taken, Laid-data_added, held_data_alone}
use Rattle.lfs_check.specs.Disks.{block_put, entries, entry_at, header_on, disk_geometry}
use Rattle.lfs_check.proofs.Directories.{geometry_is}
use Rattle.lfs_check.proofs.BlockPuts.{length_put, put_other}
use Rattle.lfs_check.proofs.Moved.{data_range, in_range}
use Rattle.lfs_check.proofs.Writes.{entries_kept, links_put, indexes_kept, indexes_put}
use Rattle.lfs_layout.specs.Images.{IsCleanImage}
use Rattle.file_laws.proofs.Rewritten.{entry_count}
use Rattle.file_laws.specs.Middle.{shape_with, content_at, IsMiddle}
use Rattle.file_laws.specs.StoredFiles.{entry_bytes}
use Rattle.file_laws.proofs.Named.{length_entries}
use Rattle.file_laws.proofs.Created.{flat_same}

-- A call begins on a clean disk.
pub middle_begins : (base : List ℕ) (slot : ℕ) → IsCleanImage base → slot < 78 → entry_is_used (entry_at base slot) ≡ true
    → IsMiddle (length base / 512) base base (header_on base) slot (entry_at base slot)
    (places_of (disk_geometry (length base / 512)) (fields_of (disk_geometry (length base / 512)) base))
    (entry_bytes base (entry_at base slot))
unfolding entries header_on
middle_begins base slot c h u =
    let n = length base / 512 in let g = disk_geometry n in let d = fields_of g base in let p = places_of g d in
    let size = image_blocks base c.faultless in
    let P : Geometry → Type 0 = λ x. LaidIn x (fields_of x base) (places_of x (fields_of x base)) in
    let lies : LaidIn g d p = subst P (geometry_is base c.version) (image_lies base c.faultless) in
    let Q : List Entry → Type 0 = λ es. LaidIn g (let s : Shape = record d { entries = es } in s) p in
    let len = (length_entries base c).0 in
    let bytes : (k : ℕ) → k < 78 → content_at base p k (entry_at base k).size ≡ entry_bytes base (entry_at base k) = λ k l. (
    let e = entry_at base k in
    ap (λ bs. take e.size (flat_map (block_in base) bs))
    (get_or-map (data_in g d.indexes) (entries base) k void_entry [] (omega (arith, l, len)))
    ∙ ap (λ x. take e.size (flat_map (block_in base) (data_in x (fields_of x base).indexes e))) (sym (geometry_is base c.version))) in
    record {
      from = record {
        clean = c;
        base_long = whole_blocks base c.faultless;
        low = (let R : Bool → Type 0 = λ b. cond b 14 8 ≤ n in subst R c.version size.0);
        high = (let R : Bool → Type 0 = λ b. n ≤ cond b 65542 65536 in subst R c.version size.1);
        slot_is = h;
        was_used = u;
      };
      long = whole_blocks base c.faultless;
      directory = λ k l. refl;
      laid = subst Q (sym (set-get_or (entries base) slot void_entry)) lies;
      named = refl;
      others = λ k l ne v. bytes k l;
      mine = bytes slot h;
    }

-- A block is written that is no data block of another file: what is to be shown besides is how files lie.
pub middle_put : (n : ℕ) (base disk : List ℕ) (header header' : Header) (slot : ℕ) (entry entry' : Entry) (p p' : Places) (bytes : List ℕ)
    (b : ℕ) (block : List ℕ) → IsMiddle n base disk header slot entry p bytes
    → 6 ≤ b → b < n → length block ≡ 512 → ((k : ℕ) → k ≢ slot → times_met b (numbers_at p.datas k) ≡ 0)
    → ((k : ℕ) → k ≢ slot → numbers_at p'.datas k ≡ numbers_at p.datas k)
    → entry'.name ≡ entry.name → LaidIn (disk_geometry n) (shape_with n (block_put disk b block) header' slot entry') p'
    → IsMiddle n base (block_put disk b block) header' slot entry' p' (content_at (block_put disk b block) p' slot entry'.size)
middle_put n base disk header header' slot entry entry' p p' bytes b block m low h w away same name laid = record {
  from = m.from;
  long = length_put disk b n block m.long h w ∙ m.long;
  directory = λ d l. put_other disk b n block d m.long h w (λ e. omega (arith, e, l, low)) ∙ m.directory d l;
  laid = laid;
  named = name ∙ m.named;
  others = λ k l ne u. ap (λ bs. take (entry_at base k).size (flat_map (block_in (block_put disk b block)) bs)) (same k ne)
      ∙ ap (take (entry_at base k).size) (flat_same (block_in (block_put disk b block)) (block_in disk) (numbers_at p.datas k) (λ j q.
      put_other disk b n block (slice_index (numbers_at p.datas k) j) m.long h w (differs (numbers_at p.datas k) j b (away k ne) q)))
      ∙ m.others k l ne u;
  mine = refl;
}

-- the fields of a disk of which a data block was written
pub shape_data : (n : ℕ) (disk : List ℕ) (header : Header) (slot : ℕ) (entry : Entry) (b : ℕ) (block : List ℕ) → length disk ≡ 512 * n
    → b < n → length block ≡ 512 → first_data (disk_geometry n) ≤ b
    → shape_with n (block_put disk b block) header slot entry ≡ data_put (shape_with n disk header slot entry) b (word_of block)
shape_data n disk header slot entry b block l h w low =
    let made : List Entry → List Index → List ℕ → Shape = λ es xs ls.
    record { header = header; entries = slice_set es slot entry; indexes = xs; links = ls } in
    let g = disk_geometry n in
    ap (λ es. made es (numbered_values (index_in_bytes g (block_put disk b block)) (index_count g))
    (numbered_values (link_in_bytes (block_put disk b block)) n)) (entries_kept disk n b block l h w (omega (arith, low)))
    ∙ ap (λ xs. made (entries disk) xs (numbered_values (link_in_bytes (block_put disk b block)) n)) (indexes_kept disk n b block l h w low)
    ∙ ap (made (entries disk) (numbered_values (index_in_bytes g disk) (index_count g))) (links_put disk n b block l h w)

-- A data block of the file is written in place.
pub middle_in_place : (n : ℕ) (base disk : List ℕ) (header : Header) (slot : ℕ) (entry : Entry) (p : Places) (bytes : List ℕ) (j : ℕ)
    (block : List ℕ) → IsMiddle n base disk header slot entry p bytes
    → j < length (numbers_at p.datas slot) → length block ≡ 512
    → IsMiddle n base (block_put disk (slice_index (numbers_at p.datas slot) j) block) header slot entry p
    (content_at (block_put disk (slice_index (numbers_at p.datas slot) j) block) p slot entry.size)
middle_in_place n base disk header slot entry p bytes j block m h w =
    let g = disk_geometry n in let b = slice_index (numbers_at p.datas slot) j in
    let range = data_range (index_count g) (first_data g) n (shape_with n disk header slot entry) p slot j m.laid h in
    let has = times-at (numbers_at p.datas slot) j b h refl in
    let one = m.laid.one_data b in let most = at_most_one (nat_lt b n && not (nat_lt b (first_data g))) in
    let part = times_in-part b p.datas slot in
    let P : Shape → Type 0 = λ d. LaidIn g d p in
    let low = range.0 in
    middle_put n base disk header header slot entry entry p p bytes b block m (omega (arith, low)) range.1 w
    (λ k ne. (let two = times_in-two b p.datas slot k (λ e. ne (sym e)) in omega (arith, two, has, one, most))) (λ k ne. refl) refl
    (subst P (sym (shape_data n disk header slot entry b block m.long range.1 w low))
    (Laid-link (index_count g) (first_data g) n (shape_with n disk header slot entry) p b (word_of block)
    (omega (arith, part, has, one, most)) m.laid))

-- The first free data block is taken, in memory.
pub middle_taken : (n : ℕ) (base disk : List ℕ) (header : Header) (slot : ℕ) (entry : Entry) (p : Places) (bytes : List ℕ) (b : ℕ)
    (rest : List ℕ) → IsMiddle n base disk header slot entry p bytes → p.free_data ≡ b ∷ rest
    → IsMiddle n base disk (record header { free_data = slice_index (numbered_values (link_in_bytes disk) n) header.free_data }) slot entry
    (record p { free_data = rest; held_data = b ∷ p.held_data }) bytes
middle_taken n base disk header slot entry p bytes b rest m e = record {
  from = m.from;
  long = m.long;
  directory = m.directory;
  laid = Laid-data_taken (index_count (disk_geometry n)) (first_data (disk_geometry n)) n
      (shape_with n disk header slot entry) p b rest e m.laid;
  named = m.named;
  others = m.others;
  mine = m.mine;
}

-- A block that the call holds is written. The file's bytes stay.
pub middle_held : (n : ℕ) (base disk : List ℕ) (header : Header) (slot : ℕ) (entry : Entry) (p : Places) (bytes : List ℕ) (b : ℕ)
    (block : List ℕ) → IsMiddle n base disk header slot entry p bytes
    → 1 ≤ times_met b p.held_data → length block ≡ 512 → IsMiddle n base (block_put disk b block) header slot entry p bytes
middle_held n base disk header slot entry p bytes b block m h w =
    let g = disk_geometry n in
    let alone = held_data_alone (index_count g) (first_data g) n (shape_with n disk header slot entry) p b m.laid h in
    let one = m.laid.one_data b in
    let range = in_range (first_data g) n b (omega (arith, one, h)) in let low = range.0 in
    let none : (k : ℕ) → times_met b (numbers_at p.datas k) ≡ 0 = λ k.
    (let part = times_in-part b p.datas k in let z = alone.1 in omega (arith, part, z)) in
    let P : Shape → Type 0 = λ d. LaidIn g d p in
    let Q : List ℕ → Type 0 = λ x. IsMiddle n base (block_put disk b block) header slot entry p x in
    subst Q (ap (take entry.size) (flat_same (block_in (block_put disk b block)) (block_in disk) (numbers_at p.datas slot) (λ j q.
    put_other disk b n block (slice_index (numbers_at p.datas slot) j) m.long range.1 w
    (differs (numbers_at p.datas slot) j b (none slot) q))) ∙ m.mine)
    (middle_put n base disk header header slot entry entry p p bytes b block m (omega (arith, low)) range.1 w (λ k ne. none k) (λ k ne.
    refl) refl
    (subst P (sym (shape_data n disk header slot entry b block m.long range.1 w low))
    (Laid-data_put (index_count g) (first_data g) n (shape_with n disk header slot entry) p b (word_of block) h m.laid)))

-- the fields of a disk of which an index block was written
pub shape_index : (n : ℕ) (disk : List ℕ) (header : Header) (slot : ℕ) (entry : Entry) (i : ℕ) (index : Index) (block : List ℕ)
    → length disk ≡ 512 * n → 6 + i / 7 < n → i < index_count (disk_geometry n) → IsIndexPut (block_in disk (6 + i / 7)) (i % 7) index block
    → shape_with n (block_put disk (6 + i / 7) block) header slot entry ≡ data_put (index_put (shape_with n disk header slot entry) i index)
    (6 + i / 7) (word_of block)
shape_index n disk header slot entry i index block l h below q =
    let b = 6 + i / 7 in
    let made : List Entry → List Index → List ℕ → Shape = λ es xs ls.
    record { header = header; entries = slice_set es slot entry; indexes = xs; links = ls } in
    let g = disk_geometry n in
    ap (λ es. made es (numbered_values (index_in_bytes g (block_put disk b block)) (index_count g))
    (numbered_values (link_in_bytes (block_put disk b block)) n)) (entries_kept disk n b block l h q.long (omega arith))
    ∙ ap (λ xs. made (entries disk) xs (numbered_values (link_in_bytes (block_put disk b block)) n))
    (indexes_put disk n i index block l h below q)
    ∙ ap (made (entries disk) (slice_set (numbered_values (index_in_bytes g disk) (index_count g)) i index))
    (links_put disk n b block l h q.long)

-- a disk block of index blocks is no data block
pub no_data : (n : ℕ) (d : Shape) (p : Places) (b : ℕ) → LaidIn (disk_geometry n) d p → b < first_data (disk_geometry n)
    → (times_in b p.datas ≡ 0) × (times_met b p.free_data ≡ 0)
no_data n d p b l h =
    let one = l.one_data b in
    let t : nat_lt b (first_data (disk_geometry n)) ≡ true = grind (arith, nat_tests) in
    let z : ◌≡◌ {A = ℕ} (cond (nat_lt b n && not (nat_lt b (first_data (disk_geometry n)))) 1 0) 0 =
    ap (λ v. cond (nat_lt b n && not v) 1 0) t ∙ none (nat_lt b n) in
    (omega (arith, one, z), omega (arith, one, z))
  where
    none : (v : Bool) → ◌≡◌ {A = ℕ} (cond (v && false) 1 0) 0
    none true = refl
    none false = refl

-- The number of a data block that the call holds is put into the file's last index block, which has room.
pub middle_added : (n : ℕ) (base disk : List ℕ) (header : Header) (slot : ℕ) (entry entry' : Entry) (p : Places) (bytes : List ℕ) (j b : ℕ)
    (rest : List ℕ) (block : List ℕ) → IsMiddle n base disk header slot entry p bytes
    → p.held_data ≡ b ∷ rest → suc j ≡ length (numbers_at p.chains slot)
    → length (numbers_at p.datas slot) < 16 * length (numbers_at p.chains slot)
    → entry'.name ≡ entry.name → entry'.first ≡ entry.first → (entry'.size + 8191) / 8192 ≡ length (numbers_at p.chains slot)
    → (entry'.size + 511) / 512 ≡ length (numbers_at p.datas slot) + 1
    → slice_index (numbers_at p.chains slot) j < index_count (disk_geometry n)
    → IsIndexPut (block_in disk (6 + slice_index (numbers_at p.chains slot) j / 7)) (slice_index (numbers_at p.chains slot) j % 7)
    (index_for j (numbers_at p.chains slot) (numbers_at p.datas slot ++ b ∷ [])) block
    → IsMiddle n base (block_put disk (6 + slice_index (numbers_at p.chains slot) j / 7) block) header slot entry' (record p {
      datas =
          slice_set p.datas slot (numbers_at p.datas slot ++ b ∷ []);
      held_data = rest;
    })
    (content_at (block_put disk (6 + slice_index (numbers_at p.chains slot) j / 7) block) (record p {
      datas =
          slice_set p.datas slot (numbers_at p.datas slot ++ b ∷ []);
      held_data = rest;
    }) slot entry'.size)
middle_added n base disk header slot entry entry' p bytes j b rest block m held last space name first i_size d_size below q =
    let g = disk_geometry n in
    let chain = numbers_at p.chains slot in let blocks = numbers_at p.datas slot in let i = slice_index chain j in let at = 6 + i / 7 in
    let index = index_for j chain (blocks ++ b ∷ []) in
    let d = shape_with n disk header slot entry in
    let p' : Places = record p { datas = slice_set p.datas slot (blocks ++ b ∷ []); held_data = rest } in
    let low = m.low in
    let in_disk : at < first_data g = omega (arith, below) in
    let in_n : at < n = omega (arith, in_disk, low) in
    let len = (length_entries base m.clean).0 in
    let count : length (entries disk) ≡ 78 = entry_count disk n m.long (omega (arith, low)) in
    let inside : slot < length (entries disk) = (let s = m.slot_is in omega (arith, count, s)) in
    let inside' : slot < length d.entries = (let t = length-set (entries disk) slot entry in omega (arith, inside, t)) in
    let here : slice_index_or d.entries slot void_entry ≡ entry = get_or-set_same (entries disk) slot entry void_entry inside in
    let used : entry_is_used entry ≡ true = ap (λ x. not (nat_eq (slice_index x 0) 0)) m.named ∙ m.was_used in
    let used' : entry_is_used entry' ≡ true = ap (λ x. not (nat_eq (slice_index x 0) 0)) name ∙ used in
    let below' : i < length d.indexes = (let t = length_numbered (index_in_bytes g disk) (index_count g) in omega (arith, below, t)) in
    let added_is = Laid-data_added (index_count g) (first_data g) n d p slot j b rest entry' m.laid inside' (ap entry_is_used here
    ∙ used) used' held last space below' (first ∙ ap (λ (x : Entry). x.first) (sym here)) i_size d_size in
    let twice : slice_set d.entries slot entry' ≡ slice_set (entries disk) slot entry' = set-set (entries disk) slot entry entry' in
    let R : List Entry → Type 0 = λ es. LaidIn g (let s : Shape =
    record { header = header; entries = es; indexes = slice_set d.indexes i index; links = d.links } in s) p' in
    let lies = subst R twice added_is in
    let none = no_data n d p at m.laid in_disk in
    let P : Shape → Type 0 = λ x. LaidIn g x p' in
    middle_put n base disk header header slot entry entry' p p' bytes at block m (omega arith) in_n q.long
    (λ k ne. (let part = times_in-part at p.datas k in let z = none.0 in omega (arith, part, z)))
    (λ k ne. get_or-set_other p.datas slot k (blocks ++ b ∷ []) [] ne) name
    (subst P (sym (shape_index n disk header slot entry' i index block m.long in_n below q))
    (Laid-link (index_count g) (first_data g) n (index_put (shape_with n disk header slot entry') i index) p' at
    (word_of block) none.1 lies))

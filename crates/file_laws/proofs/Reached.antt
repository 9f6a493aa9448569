-- What a call finds on the disk of the file in hand, and of the free blocks.
use Rattle.std.proofs.Common.{◌≡◌, ◌≢◌, ℕ, ◌+◌, ◌/◌, ◌%◌, ◌<◌, ◌≤◌, true, cond, not, nat_lt, nat_eq, List, [], ◌∷◌, length, drop, refl, sym, ap, ◌∙◌, subst, arith, slice_index, slice_index_or, slice_set, get_or-set_same, length-set}
use Rattle.std.proofs.lemmas.List.{set-set, set-get_or}
use Rattle.std.proofs.lemmas.Bool.{false≢true}
use Rattle.std.proofs.lemmas.Bool.Decides.{nat_tests}
use Rattle.lfs_format.specs.declared.Entry.{Entry}
use Rattle.lfs_format.specs.declared.Index.{Index}
use Rattle.lfs_format.specs.Words.{word_of}
use Rattle.lfs_format.specs.Indexes.{index_at}
use Rattle.lfs_format.specs.Directory.{void_entry}
use Rattle.lfs_check.specs.declared.fields.Header.{Header}
use Rattle.lfs_check.specs.Geometries.{index_count, first_data}
use Rattle.lfs_check.specs.Rules.{entry_is_used, block_in}
use Rattle.lfs_check.specs.Meets.{null, times_met}
use Rattle.lfs_check.specs.Laid.{Shape, Places, FileLies, no_index, numbers_at, index_in, entry_in}
use Rattle.lfs_check.specs.Laid as laid
use Rattle.lfs_check.specs.Clean.{LaidIn}
use Rattle.lfs_check.specs.Fields.{numbered_values, index_in_bytes, link_in_bytes}
use Rattle.lfs_check.specs.Disks.{disk_geometry, entries}
use Rattle.lfs_check.proofs.Numbered.{numbered-at}
use Rattle.lfs_check.proofs.Steps.{times-at, times_in-part}
use Rattle.lfs_check.proofs.Changed.{Changes, Laid-changed}
use Rattle.lfs_check.proofs.Moved.{data_range, in_range}
use Rattle.lfs_check.proofs.Writes.{index_read, link_read}
use Rattle.lfs_check.proofs.KeepsAll.{either-way}
use Rattle.file_laws.specs.Middle.{shape_with, content_at, IsMiddle}
use Rattle.file_laws.specs.Changing.{IsReadBy}
use Rattle.file_laws.proofs.Rewritten.{entry_count}
use Rattle.file_laws.proofs.Middles.{middle_taken}
use Rattle.file_laws.proofs.Freed.{middle_index_taken}

-- the entry in memory is the one of the fields, and it is used
middle_entry : (n : ℕ) (base disk : List ℕ) (header : Header) (slot : ℕ) (entry : Entry) (p : Places) (bytes : List ℕ)
    → IsMiddle n base disk header slot entry p bytes
    → (slot < length (shape_with n disk header slot entry).entries) × (entry_in (shape_with n disk header slot entry) slot ≡ entry)
    × (entry_is_used entry ≡ true)
middle_entry n base disk header slot entry p bytes m =
    let low = m.low in let s = m.slot_is in
    let count = entry_count disk n m.long (omega (arith, low)) in
    let t = length-set (entries disk) slot entry in (
      omega (arith, count, s, t),
      get_or-set_same (entries disk) slot entry void_entry (omega (arith, count, s)),
      ap (λ x.
          not (nat_eq (slice_index x 0) 0)) m.named ∙ m.was_used,
    )

-- a number that has an owner is below the number of index blocks
pub index_below : (many i : ℕ) → 1 ≤ cond (nat_lt i many) 1 0 → i < many
index_below many i h =
    either-way (nat_lt i many) (λ v. nat_lt i many ≡ v → 1 ≤ cond v 1 0
    → i < many) (λ _ t _. grind (arith, nat_tests)) (λ _ t z. absurd (omega (arith, z))) refl h

-- an index block of the fields is read off its disk block
pub index_on : (n : ℕ) (disk : List ℕ) (header : Header) (slot : ℕ) (entry : Entry) (i : ℕ) → i < index_count (disk_geometry n)
    → index_in (shape_with n disk header slot entry) i ≡ index_at (i % 7) (block_in disk (6 + i / 7))
index_on n disk header slot entry i h = numbered-at (index_in_bytes (disk_geometry n) disk) (index_count (disk_geometry n)) i no_index h
    ∙ index_read n disk i

-- The file in hand is read off the disk.
pub middle_read : (n : ℕ) (base disk : List ℕ) (header : Header) (slot : ℕ) (entry : Entry) (p : Places) (bytes : List ℕ)
    → IsMiddle n base disk header slot entry p bytes → IsReadBy n disk entry (numbers_at p.chains slot) (numbers_at p.datas slot)
middle_read n base disk header slot entry p bytes m =
    let d = shape_with n disk header slot entry in
    let e = middle_entry n base disk header slot entry p bytes m in
    let chain = numbers_at p.chains slot in let blocks = numbers_at p.datas slot in
    let P : Entry → Type 0 = λ x. FileLies d x chain blocks in
    let f = subst P e.1 (m.laid.file slot e.0 (ap entry_is_used e.1 ∙ e.2)) in
    record {
      chain_long = f.indexes;
      blocks_long = f.datas;
      first = f.first;
      index = λ j h. (let i = slice_index chain j in
          let t = times-at chain j i h refl in let part = times_in-part i p.chains slot in let one = m.laid.one_index i in
          let below : i < index_count (disk_geometry n) = index_below (index_count (disk_geometry n)) i (omega (arith, t, part, one)) in
          record { below = below; read = sym (index_on n disk header slot entry i below) ∙ f.each j h });
      block = λ j h. data_range (index_count (disk_geometry n)) (first_data (disk_geometry n)) n d p slot j m.laid h;
    }

-- A free data block is first: it is on the disk, no file has it, and its first word names the next.
pub record IsFreeData (n : ℕ) (disk : List ℕ) (header : Header) (p : Places) (b : ℕ) : Type 0 where
  pub head : header.free_data ≡ b
  pub low : first_data (disk_geometry n) ≤ b
  pub high : b < n
  pub link : slice_index (numbered_values (link_in_bytes disk) n) b ≡ word_of (block_in disk b)

pub free_data_first : (n : ℕ) (base disk : List ℕ) (header : Header) (slot : ℕ) (entry : Entry) (p : Places) (bytes : List ℕ) (b : ℕ)
    (rest : List ℕ)
    → IsMiddle n base disk header slot entry p bytes → p.free_data ≡ b ∷ rest → IsFreeData n disk header p b
free_data_first n base disk header slot entry p bytes b rest m e =
    let one = m.laid.one_data b in
    let t : times_met b p.free_data ≡ times_met b (b ∷ rest) = ap (times_met b) e in
    let u = times-at (b ∷ rest) 0 b (omega arith) refl in
    let range = in_range (first_data (disk_geometry n)) n b (omega (arith, one, t, u)) in
    record {
      head = m.laid.free_data.starts ∙ ap (λ xs. slice_index_or xs 0 null) e;
      low = range.0;
      high = range.1;
      link = numbered-at (link_in_bytes disk) n b 0 range.1 ∙ link_read disk b;
    }

-- The same of a free index block.
pub record IsFreeIndex (n : ℕ) (header : Header) (i : ℕ) : Type 0 where
  pub head : header.free_index ≡ i
  pub below : i < index_count (disk_geometry n)

pub free_index_first : (n : ℕ) (base disk : List ℕ) (header : Header) (slot : ℕ) (entry : Entry) (p : Places) (bytes : List ℕ) (i : ℕ)
    (rest : List ℕ)
    → IsMiddle n base disk header slot entry p bytes → p.free_index ≡ i ∷ rest → IsFreeIndex n header i
free_index_first n base disk header slot entry p bytes i rest m e =
    let one = m.laid.one_index i in
    let t : times_met i p.free_index ≡ times_met i (i ∷ rest) = ap (times_met i) e in
    let u = times-at (i ∷ rest) 0 i (omega arith) refl in
    record {
      head = m.laid.free_index.starts ∙ ap (λ xs. slice_index_or xs 0 null) e;
      below = index_below (index_count (disk_geometry n)) i (omega (arith, one, t, u));
    }

-- a chain whose head is not null has a first
by_list : (head : ℕ) (chain : List ℕ) → head ≡ slice_index_or chain 0 null → head ≢ null → chain ≡ head ∷ drop 1 chain
by_list head [] starts ne = absurd (ne starts)
by_list head (x ∷ xs) starts ne = ap (λ h. h ∷ xs) (sym starts)

-- a list that has no first is empty
by_range : (chain : List ℕ) → ((x : ℕ) (xs : List ℕ) → chain ≡ x ∷ xs → ⊥) → chain ≡ []
by_range [] never = refl
by_range (x ∷ xs) never = absurd (never x xs refl)

-- Unless the head is null, it is the first free data block.
pub free_data_some : (n : ℕ) (base disk : List ℕ) (header : Header) (slot : ℕ) (entry : Entry) (p : Places) (bytes : List ℕ)
    → IsMiddle n base disk header slot entry p bytes → header.free_data ≢ null → p.free_data ≡ header.free_data ∷ drop 1 p.free_data
free_data_some n base disk header slot entry p bytes m ne = by_list header.free_data p.free_data m.laid.free_data.starts ne

-- If it is null, no data block is free.
pub free_data_none : (n : ℕ) (base disk : List ℕ) (header : Header) (slot : ℕ) (entry : Entry) (p : Places) (bytes : List ℕ)
    → IsMiddle n base disk header slot entry p bytes → header.free_data ≡ null → p.free_data ≡ []
free_data_none n base disk header slot entry p bytes m none =
    by_range p.free_data (λ b rest e. (let f = free_data_first n base disk header slot entry p bytes b rest m e in let h = f.head in
    let high = f.high in let most = m.high in
    omega (arith, h, high, most, none)))

-- Unless the head is null, it is the first free index block.
pub free_index_some : (n : ℕ) (base disk : List ℕ) (header : Header) (slot : ℕ) (entry : Entry) (p : Places) (bytes : List ℕ)
    → IsMiddle n base disk header slot entry p bytes → header.free_index ≢ null → p.free_index ≡ header.free_index ∷ drop 1 p.free_index
free_index_some n base disk header slot entry p bytes m ne = by_list header.free_index p.free_index m.laid.free_index.starts ne

-- If it is null, no index block is free.
pub free_index_none : (n : ℕ) (base disk : List ℕ) (header : Header) (slot : ℕ) (entry : Entry) (p : Places) (bytes : List ℕ)
    → IsMiddle n base disk header slot entry p bytes → header.free_index ≡ null → p.free_index ≡ []
free_index_none n base disk header slot entry p bytes m none =
    by_range p.free_index (λ i rest e. (let f = free_index_first n base disk header slot entry p bytes i rest m e in let h = f.head in
    let below = f.below in let most = m.high in
    omega (arith, h, below, most, none)))

-- The first free data block is taken, once it is read.
pub middle_data_taken : (n : ℕ) (base disk : List ℕ) (header : Header) (slot : ℕ) (entry : Entry) (p : Places) (bytes : List ℕ) (b : ℕ)
    (rest : List ℕ)
    → IsMiddle n base disk header slot entry p bytes → p.free_data ≡ b ∷ rest
    → IsMiddle n base disk (record header { free_data = word_of (block_in disk b) }) slot entry (record p {
      free_data = rest;
      held_data = b ∷ p.held_data;
    }) bytes
middle_data_taken n base disk header slot entry p bytes b rest m e =
    let f = free_data_first n base disk header slot entry p bytes b rest m e in
    let P : ℕ → Type 0 = λ k. IsMiddle n base disk (record header { free_data = k }) slot entry (record p {
      free_data = rest;
      held_data = b ∷ p.held_data;
    }) bytes in
    subst P (ap (slice_index (numbered_values (link_in_bytes disk) n)) f.head
    ∙ f.link) (middle_taken n base disk header slot entry p bytes b rest m e)

-- The first free index block is taken, once it is read.
pub middle_index_got : (n : ℕ) (base disk : List ℕ) (header : Header) (slot : ℕ) (entry : Entry) (p : Places) (bytes : List ℕ) (i : ℕ)
    (rest : List ℕ)
    → IsMiddle n base disk header slot entry p bytes → p.free_index ≡ i ∷ rest
    → IsMiddle n base disk (record header { free_index = (index_at (i % 7) (block_in disk (6 + i / 7))).next }) slot entry
    (record p { free_index = rest; held_index = i ∷ p.held_index }) bytes
middle_index_got n base disk header slot entry p bytes i rest m e =
    let f = free_index_first n base disk header slot entry p bytes i rest m e in
    let P : ℕ → Type 0 = λ k. IsMiddle n base disk (record header { free_index = k }) slot entry (record p {
      free_index = rest;
      held_index = i ∷ p.held_index;
    }) bytes in
    subst P (ap (λ k. (index_in (shape_with n disk header slot entry) k).next) f.head
    ∙ ap (λ (x : Index). x.next) (index_on n disk header slot entry i f.below))
    (middle_index_taken n base disk header slot entry p bytes i rest m e)

-- The file in hand is larger, within its last data block, in memory.
pub middle_grown : (n : ℕ) (base disk : List ℕ) (header : Header) (slot : ℕ) (entry after : Entry) (p : Places) (bytes : List ℕ)
    → IsMiddle n base disk header slot entry p bytes → after.name ≡ entry.name → after.first ≡ entry.first
    → (after.size + 8191) / 8192 ≡ (entry.size + 8191) / 8192
    → (after.size + 511) / 512 ≡ (entry.size + 511) / 512 → IsMiddle n base disk header slot after p (content_at disk p slot after.size)
middle_grown n base disk header slot entry after p bytes m name first i_size d_size =
    let g = disk_geometry n in let d = shape_with n disk header slot entry in
    let e = middle_entry n base disk header slot entry p bytes m in
    let chain = numbers_at p.chains slot in let blocks = numbers_at p.datas slot in
    let P : Entry → Type 0 = λ x. FileLies d x chain blocks in
    let f = subst P e.1 (m.laid.file slot e.0 (ap entry_is_used e.1 ∙ e.2)) in
    let used : entry_is_used after ≡ true = ap (λ x. not (nat_eq (slice_index x 0) 0)) name ∙ e.2 in
    let change : Changes d (laid.entry_put d slot after) p slot after chain blocks p.held_index p.held_data = record {
      in_range = e.0;
      entries = refl;
      free_index = refl;
      free_data = refl;
      links = refl;
      others = λ k a c. refl;
      used = λ u. record {
        indexes = f.indexes ∙ sym i_size;
        datas = f.datas ∙ sym d_size;
        first = first
            ∙ f.first;
        each = λ j h. f.each j h;
      };
      unused = λ u. absurd (false≢true (sym u ∙ used));
      same_index = λ k. refl;
      same_data = λ k. refl;
    } in
    let lies = Laid-changed (index_count g) (first_data g) n d
    (laid.entry_put d slot after) p slot after chain blocks p.held_index p.held_data change m.laid in
    let R : List Entry → Type 0 = λ es. LaidIn g (let s : Shape =
    record { header = header; entries = es; indexes = d.indexes; links = d.links } in s) p in
    let S : List (List ℕ) → Type 0 = λ xs. LaidIn g (laid.entry_put d slot after) (let q : Places =
    record p { chains = xs; datas = slice_set p.datas slot blocks } in q) in
    let T : List (List ℕ) → Type 0 = λ ys. LaidIn g (laid.entry_put d slot after) (let q : Places = record p { datas = ys } in q) in
    let same = subst T (set-get_or p.datas slot []) (subst S (set-get_or p.chains slot []) lies) in
    record {
      from = m.from;
      long = m.long;
      directory = m.directory;
      laid = subst R (set-set (entries disk) slot entry after) same;
      named = name ∙ m.named;
      others = m.others;
      mine = refl;
    }

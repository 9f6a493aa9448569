-- How many blocks files need, and that a call that finds none free has put all that fits.
use Rattle.std.proofs.Common.{◌≡◌, ◌≢◌, ℕ, zero, suc, ◌+◌, ◌-◌, ◌<◌, ◌≤◌, Bool, true, false, cond, not, ◌&&◌, nat_lt, nat_le, nat_eq, List, [], ◌∷◌, ◌++◌, length, map, refl, sym, ap, ◌∙◌, arith, slice_index, slice_index_or, slice_set, length-append, bytes_eq}
use Rattle.std.proofs.lemmas.Bool.Decides.{nat_tests}
use Rattle.std.proofs.lemmas.Slice.Eq.{bytes_eq-Decides}
use Rattle.lfs_format.specs.declared.Entry.{Entry}
use Rattle.lfs_format.specs.declared.Index.{Index}
use Rattle.lfs_format.specs.Directory.{dir_of, void_entry}
use Rattle.lfs_check.proofs.Directories.{joined_same, entries_are}
use Rattle.lfs_check.specs.declared.geometry.Geometry.{Geometry}
use Rattle.lfs_check.specs.declared.fields.Header.{Header}
use Rattle.lfs_check.specs.Geometries.{index_count, first_data}
use Rattle.lfs_check.specs.Rules.{entry_is_used, block_in}
use Rattle.lfs_check.specs.Laid.{Shape, Places, Laid, numbers_at, entry_in}
use Rattle.lfs_check.specs.Clean.{LaidIn}
use Rattle.lfs_check.specs.Fields.{geometry_of, fields_of}
use Rattle.lfs_check.specs.Disks.{entries, entry_at, disk_geometry}
use Rattle.lfs_layout.specs.Files.{File, bare_name, content_of, files_in, is_before, with_file, sorted, files_of}
use Rattle.lfs_layout.specs.Images.{IsCleanImage}
use Rattle.xinu_model.specs.Files.Stored.{StoredFile, with_contents}
use Rattle.xinu_model.specs.Sound.Tables.{total}
use Rattle.file_laws.specs.StoredFiles.{stored, stored_files}
use Rattle.file_laws.specs.Middle.{shape_with, IsMiddle}
use Rattle.file_laws.proofs.Created.{placed}
use Rattle.file_laws.proofs.Finished.{with_bytes, sorted_rewritten, stored_rewritten}
use Rattle.lfs_check.specs.Checks.{need_data, need_index}
use Rattle.lfs_check.proofs.Steps.{times-append}
use Rattle.lfs_check.proofs.Counting.{joined, data_filled, length-once, times-joined, in_range}
use Rattle.lfs_check.proofs.KeepsAll.{either-way}
use Rattle.xinu_model.specs.Files.Room.{data_blocks, data_room, data_needed, they_fit, index_blocks, index_needed, index_room}
use Rattle.file_laws.proofs.Named.{names_differ, length_entries, entry_name, clean_names, bytes_sized, file_in}

-- how many blocks of a kind the file of an entry needs, by how many there are for so many bytes
abbrev pub need : (ℕ → ℕ) → Entry → ℕ
need blocks e = cond (entry_is_used e) (blocks e.size) 0

-- how many the files of entries need
abbrev pub needs : (ℕ → ℕ) → List Entry → ℕ
needs blocks [] = 0
needs blocks (e ∷ es) = need blocks e + needs blocks es

-- another entry in the place of one
needs_set : (blocks : ℕ → ℕ) (es : List Entry) (k : ℕ) (new : Entry) → k < length es
    → needs blocks (slice_set es k new) + need blocks (slice_index_or es k void_entry) ≡ needs blocks es + need blocks new
needs_set blocks [] k new h = absurd (omega (arith, h))
needs_set blocks (e ∷ es) zero new h = omega arith
needs_set blocks (e ∷ es) (suc k) new h = let i = needs_set blocks es k new (omega (arith, h)) in omega (arith, i)

-- lists as long as the files of entries need
joined_needs : (blocks : ℕ → ℕ) (lists : List (List ℕ)) (es : List Entry) → length lists ≡ length es
    → ((k : ℕ) → k < length es → length (numbers_at lists k) ≡ need blocks (slice_index_or es k void_entry))
    → length (joined lists) ≡ needs blocks es
joined_needs blocks [] [] l all = refl
joined_needs blocks [] (e ∷ es) l all = absurd (omega (arith, l))
joined_needs blocks (x ∷ lists) [] l all = absurd (omega (arith, l))
joined_needs blocks (x ∷ lists) (e ∷ es) l all =
    let i = joined_needs blocks lists es (omega (arith, l)) (λ k h. all (suc k) (omega (arith, h))) in
    let a = all 0 (omega arith) in omega (arith, i, a, length-append x (joined lists))

-- files lie in as many data blocks as they need
data_laid : (g : Geometry) (d : Shape) (p : Places) → LaidIn g d p → length (joined p.datas) ≡ needs data_blocks d.entries
data_laid g d p l = joined_needs data_blocks p.datas d.entries l.datas (λ k h. (let e = entry_in d k in
    either-way (entry_is_used e) (λ v. entry_is_used e ≡ v → length (numbers_at p.datas k) ≡ cond v (need_data e) 0)
    (λ _ u. (l.file k h u).datas) (λ _ u. ap length (l.no_file k h u).1) refl))

-- and in as many index blocks
index_laid : (g : Geometry) (d : Shape) (p : Places) → LaidIn g d p → length (joined p.chains) ≡ needs index_blocks d.entries
index_laid g d p l = joined_needs index_blocks p.chains d.entries l.chains (λ k h. (let e = entry_in d k in
    either-way (entry_is_used e) (λ v. entry_is_used e ≡ v → length (numbers_at p.chains k) ≡ cond v (need_index e) 0)
    (λ _ u. (l.file k h u).indexes) (λ _ u. ap length (l.no_file k h u).0) refl))

-- how many blocks of a kind a file of the abstract machine needs
abbrev pub need_of : (ℕ → ℕ) → StoredFile → ℕ
need_of blocks f = blocks (length f.bytes)

-- a file comes in its place among others
total_with : (blocks : ℕ → ℕ) (f : File) (files : List File)
    → total (need_of blocks) (map stored (with_file f files)) ≡ need_of blocks (stored f) + total (need_of blocks) (map stored files)
total_with blocks f [] = refl
total_with blocks f (g ∷ files) =
    let i = total_with blocks f files in
    either-way (is_before f.name g.name) (λ v.
    total (need_of blocks) (map stored (cond v (f ∷ g ∷ files) (g ∷ with_file f files))) ≡ need_of blocks (stored f) +
    (need_of blocks (stored g) + total (need_of blocks) (map stored files)))
    (λ _. refl) (λ _. omega (arith, i))

-- their order does not change what files need
total_sorted : (blocks : ℕ → ℕ) (files : List File)
    → total (need_of blocks) (map stored (sorted files)) ≡ total (need_of blocks) (map stored files)
total_sorted blocks [] = refl
total_sorted blocks (f ∷ files) = let i = total_sorted blocks files in let w = total_with blocks f (sorted files) in omega (arith, i, w)

-- of the files of entries one has other bytes
total_rewritten : (blocks : ℕ → ℕ) (g : Geometry) (ix : List Index) (disk name bytes : List ℕ) (es : List Entry) (slot : ℕ)
    → slot < length es → entry_is_used (slice_index_or es slot void_entry) ≡ true → (slice_index_or es slot void_entry).name ≡ name
    → ((k : ℕ) → k < length es → entry_is_used (slice_index_or es k void_entry) ≡ true
    → length (content_of g ix disk (slice_index_or es k void_entry)) ≡ (slice_index_or es k void_entry).size)
    → ((k : ℕ) → k < length es → k ≢ slot → entry_is_used (slice_index_or es k void_entry) ≡ true
    → bytes_eq (slice_index_or es k void_entry).name name ≡ false)
    → total (need_of blocks) (map stored (map (with_bytes name bytes) (files_in g ix disk es))) + need blocks
    (slice_index_or es slot void_entry) ≡ needs blocks es + blocks (length bytes)
total_rewritten blocks g ix disk name bytes [] slot h u n sized apart = absurd (omega (arith, h))
total_rewritten blocks g ix disk name bytes (e ∷ es) zero h u n sized apart =
    let rest = total_others es (λ k l v. sized (suc k) (omega (arith, l)) v) (λ k l v.
    apart (suc k) (omega (arith, l)) (λ q. omega (arith, q)) v) in
    let self : bytes_eq e.name name ≡ true = (bytes_eq-Decides e.name name).1 n in
    let row = files_in g ix disk es in let f = file_in g ix disk e in
    let start : total (need_of blocks) (map stored (map (with_bytes name bytes) (files_in g ix disk (e ∷ es)))) ≡ blocks
    (length bytes) + total (need_of blocks) (map stored (map (with_bytes name bytes) row)) =
    ap (λ v. total (need_of blocks) (map stored (map (with_bytes name bytes) (cond v (f ∷ row) row)))) u
    ∙ ap (λ v. blocks (length (cond v bytes f.bytes)) + total (need_of blocks) (map stored (map (with_bytes name bytes) row))) self in
    omega (arith, start, rest)
  where
    total_others : (es : List Entry) → ((k : ℕ) → k < length es → entry_is_used (slice_index_or es k void_entry) ≡ true
        → length (content_of g ix disk (slice_index_or es k void_entry)) ≡ (slice_index_or es k void_entry).size)
        → ((k : ℕ) → k < length es → entry_is_used (slice_index_or es k void_entry) ≡ true
        → bytes_eq (slice_index_or es k void_entry).name name ≡ false)
        → total (need_of blocks) (map stored (map (with_bytes name bytes) (files_in g ix disk es))) ≡ needs blocks es
    total_others [] sized apart = refl
    total_others (e ∷ es) sized apart =
        let i = total_others es (λ k l v. sized (suc k) (omega (arith, l)) v) (λ k l v. apart (suc k) (omega (arith, l)) v) in
        let row = files_in g ix disk es in let f = file_in g ix disk e in
        either-way (entry_is_used e) (λ v. entry_is_used e ≡ v
        → total (need_of blocks) (map stored (map (with_bytes name bytes) (cond v (f ∷ row) row))) ≡ cond v
        (blocks e.size) 0 + needs blocks es)
        (λ _ v. (let one : blocks (length (cond (bytes_eq e.name name) bytes f.bytes)) ≡ blocks e.size =
        ap (λ t. blocks (length (cond t bytes f.bytes))) (apart 0 (omega arith) v) ∙ ap blocks (sized 0 (omega arith) v) in
        omega (arith, i, one)))
        (λ _ v. omega (arith, i)) refl
total_rewritten blocks g ix disk name bytes (e ∷ es) (suc slot) h u n sized apart =
    let i = total_rewritten blocks g ix disk name bytes es slot (omega (arith, h)) u n (λ k l v.
    sized (suc k) (omega (arith, l)) v) (λ k l ne v. apart (suc k) (omega (arith, l)) (λ q. ne (omega (arith, q))) v) in
    let row = files_in g ix disk es in let f = file_in g ix disk e in
    let mine = need blocks (slice_index_or es slot void_entry) in
    either-way (entry_is_used e) (λ v. entry_is_used e ≡ v
    → total (need_of blocks) (map stored (map (with_bytes name bytes) (cond v (f ∷ row) row))) + mine ≡
    (cond v (blocks e.size) 0 + needs blocks es) + blocks (length bytes))
    (λ _ v. (let one : blocks (length (cond (bytes_eq e.name name) bytes f.bytes)) ≡ blocks e.size =
    ap (λ t. blocks (length (cond t bytes f.bytes))) (apart 0 (omega arith) (λ q. omega (arith, q)) v)
    ∙ ap blocks (sized 0 (omega arith) v) in
    omega (arith, i, one)))
    (λ _ v. omega (arith, i)) refl

-- the entries are those of the base
pub same_entries : (n : ℕ) (base disk : List ℕ) (header : Header) (slot : ℕ) (entry : Entry) (p : Places) (bytes : List ℕ)
    → IsMiddle n base disk header slot entry p bytes → entries disk ≡ entries base
unfolding entries
same_entries n base disk header slot entry p bytes m =
    joined_same (λ d. (dir_of (block_in disk d)).entries) (λ d. (dir_of (block_in base d)).entries) 6 (λ d l.
    ap (λ b. (dir_of b).entries) (m.directory d l))

-- the need of the files of a base, of which one has other bytes
pub contents_need : (blocks : ℕ → ℕ) (base bytes : List ℕ) (slot : ℕ) → IsCleanImage base → slot < 78
    → entry_is_used (entry_at base slot) ≡ true
    → total (need_of blocks) (with_contents (bare_name (entry_at base slot).name) bytes (stored_files base)) + need blocks
    (entry_at base slot) ≡ needs blocks (entries base) + blocks (length bytes)
unfolding stored_files
contents_need blocks base bytes slot c h u =
    let g = geometry_of base in let ix = (fields_of g base).indexes in
    let name = (entry_at base slot).name in
    let count = (length_entries base c).0 in
    let es_is = entries_are base c.version in
    let apart : (k : ℕ) → k < length (entries base) → k ≢ slot → entry_is_used (entry_at base k) ≡ true
    → bytes_eq (entry_at base k).name name ≡ false = λ k l ne v. names_differ base c slot k h (omega (arith, l, count)) ne u v in
    let all = total_rewritten blocks g ix base name bytes (entries base) slot (omega (arith, h, count)) u refl (λ k l v.
    bytes_sized base c k (omega (arith, l, count)) v) apart in
    let start : total (need_of blocks) (with_contents (bare_name name) bytes (map stored (files_of base))) ≡ total (need_of blocks)
    (map stored (map (with_bytes name bytes) (files_in g ix base (entries base)))) =
    ap (total (need_of blocks)) (sym (stored_rewritten name bytes (files_of base) (entry_name base c slot h u) (clean_names base c))
    ∙ ap (map stored) (sym (sorted_rewritten name bytes (placed g base))))
    ∙ total_sorted blocks (map (with_bytes name bytes) (placed g base))
    ∙ ap (λ es. total (need_of blocks) (map stored (map (with_bytes name bytes) (files_in g ix base es)))) es_is in
    omega (arith, start, all)

-- all index blocks are those of files, the free ones and those held
index_filled : (many low high : ℕ) (d : Shape) (p : Places) → Laid many low high d p
    → length (joined p.chains ++ (p.free_index ++ p.held_index)) ≡ many
index_filled many low high d p l =
    length-once 0 many (joined p.chains ++ (p.free_index ++ p.held_index))
    (λ i. (let one = l.one_index i in let a = times-append i (joined p.chains) (p.free_index ++ p.held_index) in
    let c = times-append i p.free_index p.held_index in let j = times-joined i p.chains in let z = low_range many i in
    omega (arith, one, a, c, j, z)))
    ∙ (let e : many - 0 ≡ many = omega arith in e)
  where
    and-true-right : (b : Bool) → b && true ≡ b
    and-true-right true = refl
    and-true-right false = refl

    low_range : (many i : ℕ) → in_range 0 many i ≡ cond (nat_lt i many) 1 0
    low_range many i = let f : nat_lt i 0 ≡ false = grind (arith, nat_tests) in ap (λ v. cond (nat_lt i many && not v) 1 0) f
        ∙ ap (λ v. cond v 1 0) (and-true-right (nat_lt i many))

-- what the files need in the middle of a call, with the file in hand as it is in memory
middle_needs : (blocks : ℕ → ℕ) (n : ℕ) (base disk : List ℕ) (header : Header) (slot : ℕ) (entry : Entry) (p : Places) (bytes : List ℕ)
    → IsMiddle n base disk header slot entry p bytes
    → needs blocks (shape_with n disk header slot entry).entries + need blocks (entry_at base slot) ≡ needs blocks
    (entries base) + blocks entry.size
middle_needs blocks n base disk header slot entry p bytes m =
    let count : length (entries base) ≡ 78 = (length_entries base m.clean).0 in
    let same : entries disk ≡ entries base = same_entries n base disk header slot entry p bytes m in
    let set = needs_set blocks (entries base) slot entry (let s = m.slot_is in omega (arith, count, s)) in
    let used : need blocks entry ≡ blocks entry.size = ap (λ v.
    cond v (blocks entry.size) 0) (ap (λ x. not (nat_eq (slice_index x 0) 0)) m.named ∙ m.was_used) in
    ap (λ es. needs blocks (slice_set es slot entry) + need blocks (entry_at base slot)) same ∙ set
    ∙ ap (λ k. needs blocks (entries base) + k) used

-- If no data block is free and none is held, no bytes fit that need more than the file has.
pub middle_full : (n : ℕ) (base disk : List ℕ) (header : Header) (slot : ℕ) (entry : Entry) (p : Places) (bytes more : List ℕ)
    → IsMiddle n base disk header slot entry p bytes
    → p.free_data ≡ [] → p.held_data ≡ [] → need_data entry < data_blocks (length more)
    → they_fit n (with_contents (bare_name (entry_at base slot).name) more (stored_files base)) ≡ false
middle_full n base disk header slot entry p bytes more m free held larger =
    let g = disk_geometry n in let d = shape_with n disk header slot entry in
    let filled = data_filled (index_count g) (first_data g) n d p m.laid in
    let rows = length-append (joined p.datas) (p.free_data ++ p.held_data) in
    let none : length (p.free_data ++ p.held_data) ≡ 0 = ap (λ x. length (x ++ p.held_data)) free ∙ ap length held in
    let laid = data_laid g d p m.laid in
    let now = middle_needs data_blocks n base disk header slot entry p bytes m in
    let all = contents_need data_blocks base more slot m.clean m.slot_is m.was_used in
    let files = with_contents (bare_name (entry_at base slot).name) more (stored_files base) in
    let over : data_room n < data_needed files = omega (arith, filled, rows, none, laid, now, all, larger) in
    let t : nat_le (data_needed files) (data_room n) ≡ false = grind (arith, nat_tests) in
    ap (λ v. v && nat_le (index_needed files) (index_room n)) t

-- The same of index blocks.
pub middle_index_full : (n : ℕ) (base disk : List ℕ) (header : Header) (slot : ℕ) (entry : Entry) (p : Places) (bytes more : List ℕ)
    → IsMiddle n base disk header slot entry p bytes
    → p.free_index ≡ [] → p.held_index ≡ [] → need_index entry < index_blocks (length more)
    → they_fit n (with_contents (bare_name (entry_at base slot).name) more (stored_files base)) ≡ false
middle_index_full n base disk header slot entry p bytes more m free held larger =
    let g = disk_geometry n in let d = shape_with n disk header slot entry in
    let filled = index_filled (index_count g) (first_data g) n d p m.laid in
    let rows = length-append (joined p.chains) (p.free_index ++ p.held_index) in
    let none : length (p.free_index ++ p.held_index) ≡ 0 = ap (λ x. length (x ++ p.held_index)) free ∙ ap length held in
    let laid = index_laid g d p m.laid in
    let now = middle_needs index_blocks n base disk header slot entry p bytes m in
    let all = contents_need index_blocks base more slot m.clean m.slot_is m.was_used in
    let files = with_contents (bare_name (entry_at base slot).name) more (stored_files base) in
    let over : index_room n < index_needed files = omega (arith, filled, rows, none, laid, now, all, larger) in
    let t : nat_le (index_needed files) (index_room n) ≡ false = grind (arith, nat_tests) in
    ap (λ v. nat_le (data_needed files) (data_room n) && v) t ∙ never (nat_le (data_needed files) (data_room n))
  where
    never : (b : Bool) → b && false ≡ false
    never true = refl
    never false = refl

-- With the blocks that are free and those that are held the file in hand has room for bytes that need no more than that.
pub middle_has_room : (n : ℕ) (base disk : List ℕ) (header : Header) (slot : ℕ) (entry : Entry) (p : Places) (bytes more : List ℕ)
    → IsMiddle n base disk header slot entry p bytes
    → data_blocks (length more) ≤ data_blocks entry.size + (length p.free_data + length p.held_data)
    → index_blocks (length more) ≤ index_blocks entry.size + (length p.free_index + length p.held_index)
    → they_fit n (with_contents (bare_name (entry_at base slot).name) more (stored_files base)) ≡ true
middle_has_room n base disk header slot entry p bytes more m datas indexes =
    let g = disk_geometry n in let d = shape_with n disk header slot entry in
    let files = with_contents (bare_name (entry_at base slot).name) more (stored_files base) in
    let data_all = data_filled (index_count g) (first_data g) n d p m.laid in
    let index_all = index_filled (index_count g) (first_data g) n d p m.laid in
    let data_rows = length-append (joined p.datas) (p.free_data ++ p.held_data) in
    let index_rows = length-append (joined p.chains) (p.free_index ++ p.held_index) in
    let data_left = length-append p.free_data p.held_data in let index_left = length-append p.free_index p.held_index in
    let data_is = data_laid g d p m.laid in let index_is = index_laid g d p m.laid in
    let data_now = middle_needs data_blocks n base disk header slot entry p bytes m in
    let index_now = middle_needs index_blocks n base disk header slot entry p bytes m in
    let data_then = contents_need data_blocks base more slot m.clean m.slot_is m.was_used in
    let index_then = contents_need index_blocks base more slot m.clean m.slot_is m.was_used in
    let data_low : data_needed files ≤ data_room n =
    omega (arith, data_all, data_rows, data_left, data_is, data_now, data_then, datas) in
    let index_low : index_needed files ≤ index_room n =
    omega (arith, index_all, index_rows, index_left, index_is, index_now, index_then, indexes) in
    let a : nat_le (data_needed files) (data_room n) ≡ true = grind (arith, nat_tests) in
    let b : nat_le (index_needed files) (index_room n) ≡ true = grind (arith, nat_tests) in
    ap (λ v. v && nat_le (index_needed files) (index_room n)) a ∙ b

-- What lies on the disk in the middle of a call fits on it, with the file in hand as large as its entry in memory says.
pub middle_fits : (n : ℕ) (base disk : List ℕ) (header : Header) (slot : ℕ) (entry : Entry) (p : Places) (bytes more : List ℕ)
    → IsMiddle n base disk header slot entry p bytes
    → length more ≡ entry.size → they_fit n (with_contents (bare_name (entry_at base slot).name) more (stored_files base)) ≡ true
middle_fits n base disk header slot entry p bytes more m size =
    middle_has_room n base disk header slot entry p bytes more m (omega (arith, size)) (omega (arith, size))

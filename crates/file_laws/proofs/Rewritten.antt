-- The fields of a disk of which directory blocks are written.
use Rattle.std.proofs.Common.{◌≡◌, ℕ, suc, ◌+◌, ◌-◌, ◌*◌, ◌/◌, ◌%◌, ◌<◌, ◌≤◌, List, [], ◌∷◌, length, drop, refl, sym, ap, ◌∙◌, arith, slice_index_or, slice_set, get_or-set_same, get_or-set_other, length-set, ⊎_elim}
use Rattle.std.proofs.lemmas.Bool.{cases_eq}
use Rattle.lfs_format.specs.declared.Entry.{Entry}
use Rattle.lfs_format.specs.declared.Dir.{Dir}
use Rattle.lfs_format.specs.Words.{word_of}
use Rattle.lfs_format.specs.Indexes.{index_of}
use Rattle.lfs_format.specs.Directory.{dir_of, void_entry}
use Rattle.lfs_check.specs.declared.fields.Header.{Header}
use Rattle.lfs_check.specs.Geometries.{index_count}
use Rattle.lfs_check.specs.Rules.{block_in}
use Rattle.lfs_check.specs.Fields.{numbered_values, header_2, index_in_bytes, index_place, link_in_bytes}
use Rattle.lfs_check.specs.Disks.{block_put, entries, entry_at, header_on, disk_geometry}
use Rattle.lfs_check.proofs.Directories.{entries_wide, block_wide, entry_of_block, numbered_same}
use Rattle.lfs_check.proofs.BlockPuts.{length_put, put_same, put_other, put_after}
use Rattle.file_laws.specs.Rewriting.{IsRewriting, rewritten}

-- the disk stays as long
pub rewritten_long : (disk : List ℕ) (n slot : ℕ) (entry : Entry) (header : Header) (eb hb : List ℕ)
    → IsRewriting disk n slot entry header eb hb
    → (length (block_put disk (slot / 13) eb) ≡ 512 * n) × (length (rewritten disk slot eb hb) ≡ 512 * n)
rewritten_long disk n slot entry header eb hb r =
    let room = r.room in let s = r.slot_is in
    let one = length_put disk (slot / 13) n eb r.long (omega (arith, room, s)) r.entry_block.long ∙ r.long in
    (one, length_put (block_put disk (slot / 13) eb) 0 n hb one (omega (arith, room)) r.header_block.long ∙ one)

-- the other blocks stay
pub rewritten_other : (disk : List ℕ) (n slot : ℕ) (entry : Entry) (header : Header) (eb hb : List ℕ)
    → IsRewriting disk n slot entry header eb hb
    → (m : ℕ) → 6 ≤ m → block_in (rewritten disk slot eb hb) m ≡ block_in disk m
rewritten_other disk n slot entry header eb hb r m h =
    let room = r.room in let s = r.slot_is in
    put_other (block_put disk (slot / 13) eb) 0 n hb m (rewritten_long disk n slot entry header eb hb r).0
    (omega (arith, room)) r.header_block.long (λ e. omega (arith, e, h))
    ∙ put_other disk (slot / 13) n eb m r.long (omega (arith, room, s)) r.entry_block.long (λ e. omega (arith, e, h, s))

-- the bytes after the directory stay
pub rewritten_after : (disk : List ℕ) (n slot : ℕ) (entry : Entry) (header : Header) (eb hb : List ℕ)
    → IsRewriting disk n slot entry header eb hb
    → (k : ℕ) → 3072 ≤ k → drop k (rewritten disk slot eb hb) ≡ drop k disk
rewritten_after disk n slot entry header eb hb r k h =
    let room = r.room in let s = r.slot_is in
    let b = slot / 13 in
    let one : k ≡ 512 * 0 + 512 + (k - 512) = omega (arith, h) in
    let two : k ≡ 512 * b + 512 + (k - (512 * b + 512)) = omega (arith, h, s) in
    ap (λ j. drop j (rewritten disk slot eb hb)) one
    ∙ put_after (block_put disk b eb) 0 n hb (k - 512) (rewritten_long disk n slot entry header eb hb r).0
    (omega (arith, room)) r.header_block.long
    ∙ ap (λ j. drop j (block_put disk b eb)) (sym one ∙ two)
    ∙ put_after disk b n eb (k - (512 * b + 512)) r.long (omega (arith, room, s)) r.entry_block.long ∙ ap (λ j. drop j disk) (sym two)

-- there are 78 entries
pub entry_count : (disk : List ℕ) (n : ℕ) → length disk ≡ 512 * n → 6 ≤ n → length (entries disk) ≡ 78
unfolding entries
entry_count disk n l h = (entries_wide disk n l h).0

-- the entries of each block are those after the first write
rewritten_dir : (disk : List ℕ) (n slot : ℕ) (entry : Entry) (header : Header) (eb hb : List ℕ) → IsRewriting disk n slot entry header eb hb
    → (d : ℕ) → d < 6 → (dir_of (block_in (rewritten disk slot eb hb) d)).entries ≡
    (dir_of (block_in (block_put disk (slot / 13) eb) d)).entries
rewritten_dir disk n slot entry header eb hb r d h =
    let mid = block_put disk (slot / 13) eb in
    let long = (rewritten_long disk n slot entry header eb hb r).0 in let room = r.room in
    let E : List ℕ → List Entry = λ b. (dir_of b).entries in
    ⊎_elim
    (λ same. ap (λ k. E (block_in (rewritten disk slot eb hb) k)) same
    ∙ ap E (put_same mid 0 n hb long (omega (arith, room)) r.header_block.long) ∙ ap (λ (x : Dir). x.entries) r.header_block.is
    ∙ ap (λ k. E (block_in mid k)) (sym same))
    (λ other. ap E (put_other mid 0 n hb d long (omega (arith, room)) r.header_block.long other))
    (cases_eq d 0)

-- an entry after both writes
pub rewritten_entry : (disk : List ℕ) (n slot : ℕ) (entry : Entry) (header : Header) (eb hb : List ℕ)
    → IsRewriting disk n slot entry header eb hb
    → (k : ℕ) → k < 78 → entry_at (rewritten disk slot eb hb) k ≡ slice_index_or (slice_set (entries disk) slot entry) k void_entry
rewritten_entry disk n slot entry header eb hb r k h =
    let made = rewritten disk slot eb hb in let mid = block_put disk (slot / 13) eb in
    let d = k / 13 in let j = k % 13 in let b = slot / 13 in
    let k_is : 13 * d + j ≡ k = omega arith in
    let long = rewritten_long disk n slot entry header eb hb r in let room = r.room in let s = r.slot_is in
    let low : d < 6 = omega (arith, h) in let small : j < 13 = omega arith in
    let E : List ℕ → List Entry = λ x. (dir_of x).entries in
    let at : (x : List ℕ) → length x ≡ 512 * n → slice_index_or (E (block_in x d)) j void_entry ≡ entry_at x k = λ x l.
    entry_of_block x n d j l room low small ∙ ap (entry_at x) k_is in
    let up : entry_at made k ≡ slice_index_or (E (block_in mid d)) j void_entry = sym (at made long.1)
    ∙ ap (λ es. slice_index_or es j void_entry) (rewritten_dir disk n slot entry header eb hb r d low) in
    let dir = dir_of (block_in disk b) in
    let wide : length dir.entries ≡ 13 = (block_wide disk n b r.long (omega (arith, room, s))).0 in
    let len : length (entries disk) ≡ 78 = entry_count disk n r.long room in
    up ∙ ⊎_elim
    (λ same. (let here : E (block_in mid d) ≡ slice_set dir.entries (slot % 13) entry =
    ap (λ m. E (block_in mid m)) same ∙ ap E (put_same disk b n eb r.long (omega (arith, room, s)) r.entry_block.long)
    ∙ ap (λ (x : Dir). x.entries) r.entry_block.is in
    ap (λ es. slice_index_or es j void_entry) here ∙
    ⊎_elim
    (λ q. (let all : k ≡ slot = omega (arith, same, q) in
    ap (λ m. slice_index_or (slice_set dir.entries (slot % 13) entry) m void_entry) q
    ∙ get_or-set_same dir.entries (slot % 13) entry void_entry (omega (arith, wide))
    ∙ sym (ap (λ m. slice_index_or (slice_set (entries disk) slot entry) m void_entry) all
    ∙ get_or-set_same (entries disk) slot entry void_entry (omega (arith, len, s)))))
    (λ q. get_or-set_other dir.entries (slot % 13) j entry void_entry q
    ∙ ap (λ m. slice_index_or (E (block_in disk m)) j void_entry) (sym same) ∙ at disk r.long
    ∙ sym (get_or-set_other (entries disk) slot k entry void_entry (λ e. q (ap (λ m. m % 13) e))))
    (cases_eq j (slot % 13))))
    (λ other. ap (λ x. slice_index_or (E x) j void_entry) (put_other disk b n eb d r.long (omega (arith, room, s)) r.entry_block.long other)
    ∙ at disk r.long
    ∙ sym (get_or-set_other (entries disk) slot k entry void_entry (λ e. other (ap (λ m. m / 13) e))))
    (cases_eq d b)

-- entries that are the same one by one
list_same : (xs ys : List Entry) (z : Entry) → length xs ≡ length ys
    → ((k : ℕ) → k < length xs → slice_index_or xs k z ≡ slice_index_or ys k z) → xs ≡ ys
list_same [] [] z l e = refl
list_same [] (y ∷ ys) z l e = absurd (omega (arith, l))
list_same (x ∷ xs) [] z l e = absurd (omega (arith, l))
list_same (x ∷ xs) (y ∷ ys) z l e = ap (λ h. h ∷ xs) (e 0 (omega arith))
    ∙ ap (λ t. y ∷ t) (list_same xs ys z (omega (arith, l)) (λ k h. e (suc k) (omega (arith, h))))

-- the entries after both writes
pub rewritten_entries : (disk : List ℕ) (n slot : ℕ) (entry : Entry) (header : Header) (eb hb : List ℕ)
    → IsRewriting disk n slot entry header eb hb
    → entries (rewritten disk slot eb hb) ≡ slice_set (entries disk) slot entry
rewritten_entries disk n slot entry header eb hb r =
    let made = rewritten disk slot eb hb in
    let a = entry_count made n (rewritten_long disk n slot entry header eb hb r).1 r.room in let b = entry_count disk n r.long r.room in
    let c = length-set (entries disk) slot entry in
    list_same (entries made) (slice_set (entries disk) slot entry) void_entry (a
    ∙ sym (c ∙ b)) (λ k h. rewritten_entry disk n slot entry header eb hb r k (omega (arith, h, a)))

-- the counts after both writes
pub rewritten_header : (disk : List ℕ) (n slot : ℕ) (entry : Entry) (header : Header) (eb hb : List ℕ)
    → IsRewriting disk n slot entry header eb hb → header_on (rewritten disk slot eb hb) ≡ header
unfolding header_on
rewritten_header disk n slot entry header eb hb r =
    let room = r.room in
    ap (λ b. header_2 (dir_of b)) (put_same (block_put disk (slot / 13) eb) 0 n hb (rewritten_long disk n slot entry header eb hb r).0
    (omega (arith, room)) r.header_block.long) ∙ ap header_2 r.header_block.is

-- the index blocks stay
pub rewritten_indexes : (disk : List ℕ) (n slot : ℕ) (entry : Entry) (header : Header) (eb hb : List ℕ)
    → IsRewriting disk n slot entry header eb hb
    → numbered_values (index_in_bytes (disk_geometry n) (rewritten disk slot eb hb)) (index_count (disk_geometry n)) ≡ numbered_values
    (index_in_bytes (disk_geometry n) disk) (index_count (disk_geometry n))
rewritten_indexes disk n slot entry header eb hb r =
    numbered_same (index_in_bytes (disk_geometry n) (rewritten disk slot eb hb)) (index_in_bytes (disk_geometry n) disk)
    (index_count (disk_geometry n))
    (λ i h. ap index_of (rewritten_after disk n slot entry header eb hb r (index_place (disk_geometry n) i) (omega arith)))

-- the links of the data blocks stay
pub rewritten_link : (disk : List ℕ) (n slot : ℕ) (entry : Entry) (header : Header) (eb hb : List ℕ)
    → IsRewriting disk n slot entry header eb hb
    → (b : ℕ) → 6 ≤ b → link_in_bytes (rewritten disk slot eb hb) b ≡ link_in_bytes disk b
rewritten_link disk n slot entry header eb hb r b h =
    ap word_of (rewritten_after disk n slot entry header eb hb r (512 * b) (omega (arith, h)))

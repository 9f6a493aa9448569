-- Bytes are put into the file in hand.
use Rattle.std.proofs.Common.{◌≡◌, ◌≢◌, ℕ, suc, ◌+◌, ◌*◌, ◌/◌, ◌%◌, ◌<◌, ◌≤◌, not, ◌&&◌, nat_lt, List, [], ◌∷◌, ◌++◌, length, take, drop, refl, sym, ap, ◌∙◌, subst, arith, slice_index, slice_set, get_or-set_same, length-set, length-append, length-take, length-drop, append_assoc, ⊎_elim}
use Rattle.std.specs.List.{flat_map}
use Rattle.std.proofs.lemmas.List.{take_all, append-nil}
use Rattle.std.proofs.Math.Seq.{take-append-add}
use Rattle.std.proofs.lemmas.Bool.{cases_lt}
use Rattle.lfs_format.specs.declared.Entry.{Entry}
use Rattle.lfs_format.specs.Indexes.{index_at, IsIndexPut}
use Rattle.lfs_check.specs.declared.fields.Header.{Header}
use Rattle.lfs_check.specs.Geometries.{index_count, first_data}
use Rattle.lfs_check.specs.Rules.{block_in}
use Rattle.lfs_check.specs.Meets.{times_met}
use Rattle.lfs_check.specs.Laid.{Places, numbers_at, index_for}
use Rattle.lfs_check.specs.Disks.{disk_geometry, block_put, entries}
use Rattle.lfs_check.proofs.Steps.{times-at, times-two, times_in-part, at_most_one}
use Rattle.lfs_check.proofs.BlockPuts.{put_same, put_other}
use Rattle.lfs_check.proofs.Moved.{in_range}
use Rattle.file_laws.specs.Middle.{content_at, IsMiddle}
use Rattle.file_laws.proofs.Rewritten.{entry_count}
use Rattle.file_laws.proofs.Created.{flat_same}
use Rattle.xinu_model.specs.Files.Writing.{overwritten}
use Rattle.file_laws.proofs.Overwrites.{patched_flat, overwritten_within, overwritten_past}
use Rattle.file_laws.proofs.Middles.{middle_in_place, middle_added}
use Rattle.file_laws.proofs.Linked.{middle_first, middle_linked}
use Rattle.file_laws.proofs.Fitting.{length_overwritten}
use Rattle.file_laws.proofs.Reached.{middle_read, middle_grown, index_below, index_on}

-- a block of a disk has 512 bytes
pub block_long : (n : ℕ) (disk : List ℕ) (b : ℕ) → length disk ≡ 512 * n → b < n → length (block_in disk b) ≡ 512
block_long n disk b l h = let t = length-take 512 (drop (512 * b) disk) in let d = length-drop (512 * b) disk in omega (arith, t, d, l, h)

-- blocks one after another are as long as there are blocks
length_flat : (f : ℕ → List ℕ) (xs : List ℕ) → ((j : ℕ) → j < length xs → length (f (slice_index xs j)) ≡ 512)
    → length (flat_map f xs) ≡ 512 * length xs
length_flat f [] all = refl
length_flat f (x ∷ xs) all =
    let i = length_flat f xs (λ j h. all (suc j) (omega (arith, h))) in let l = all 0 (omega arith) in
    let a = length-append (f x) (flat_map f xs) in omega (arith, i, l, a)

-- one block more
flat_more : (f : ℕ → List ℕ) (xs : List ℕ) (b : ℕ) → flat_map f (xs ++ b ∷ []) ≡ flat_map f xs ++ f b
flat_more f [] b = append-nil (f b)
flat_more f (x ∷ xs) b = ap (λ t. f x ++ t) (flat_more f xs b) ∙ sym (append_assoc (f x) (flat_map f xs) (f b))

-- the blocks of the file in hand are whole
pub middle_blocks : (n : ℕ) (base disk : List ℕ) (header : Header) (slot : ℕ) (entry : Entry) (p : Places) (bytes : List ℕ)
    → IsMiddle n base disk header slot entry p bytes → (j : ℕ) → j < length (numbers_at p.datas slot)
    → length (block_in disk (slice_index (numbers_at p.datas slot) j)) ≡ 512
middle_blocks n base disk header slot entry p bytes m j h =
    block_long n disk (slice_index (numbers_at p.datas slot) j) m.long ((middle_read n base disk header slot entry p bytes m).block j h).1

-- its bytes are as many as its entry in memory says
pub middle_sized : (n : ℕ) (base disk : List ℕ) (header : Header) (slot : ℕ) (entry : Entry) (p : Places) (bytes : List ℕ)
    → IsMiddle n base disk header slot entry p bytes → length bytes ≡ entry.size
middle_sized n base disk header slot entry p bytes m =
    let xs = numbers_at p.datas slot in
    let r = (middle_read n base disk header slot entry p bytes m).blocks_long in
    let l = length_flat (block_in disk) xs (middle_blocks n base disk header slot entry p bytes m) in
    let t = length-take entry.size (flat_map (block_in disk) xs) in
    sym (ap length m.mine) ∙ (omega (arith, r, l, t))

-- Bytes are put into a data block of the file: the file has them in their place, and grows if they go past its end.
pub middle_patched : (n : ℕ) (base disk : List ℕ) (header : Header) (slot : ℕ) (entry after : Entry) (p : Places) (bytes : List ℕ) (j r : ℕ)
    (new block : List ℕ)
    → IsMiddle n base disk header slot entry p bytes → j < length (numbers_at p.datas slot) → r + length new ≤ 512
    → 512 * j + r ≤ entry.size
    → block ≡ overwritten r new (block_in disk (slice_index (numbers_at p.datas slot) j)) → after.name ≡ entry.name
    → after.first ≡ entry.first
    → after.size ≡ length (overwritten (512 * j + r) new bytes)
    → IsMiddle n base (block_put disk (slice_index (numbers_at p.datas slot) j) block) header slot after p
    (overwritten (512 * j + r) new bytes)
middle_patched n base disk header slot entry after p bytes j r new block m h fits start put name first size =
    let xs = numbers_at p.datas slot in let b = slice_index xs j in let q = 512 * j + r in
    let made = block_put disk b block in
    let read = middle_read n base disk header slot entry p bytes m in
    let range = (read.block j h).1 in
    let long = middle_blocks n base disk header slot entry p bytes m in
    let here_long = long j h in
    let wide : length block ≡ 512 = ap length put ∙ (let o = length_overwritten r new (block_in disk b) (omega (arith, here_long, fits)) in
    omega (arith, o, here_long, fits)) in
    let sized = middle_sized n base disk header slot entry p bytes m in
    let whole = read.blocks_long in
    let o = length_overwritten q new bytes (omega (arith, sized, start)) in
    let moved = middle_in_place n base disk header slot entry p bytes j block m h wide in
    let grown = middle_grown n base made header slot entry after p (content_at made p slot entry.size) moved name first
    (omega (arith, size, o, sized, whole, h, fits)) (omega (arith, size, o, sized, whole, h, fits)) in
    let other : (i : ℕ) → i < length xs → i ≢ j → block_in made (slice_index xs i) ≡ block_in disk (slice_index xs i) = λ i l ne.
    put_other disk b n block (slice_index xs i) m.long range wide (λ e.
    (let two = times-two xs i j b ne l h e refl in let part = times_in-part b p.datas slot in let one = m.laid.one_data b in
    let most = at_most_one (nat_lt b n && not (nat_lt b (first_data (disk_geometry n)))) in omega (arith, two, part, one, most))) in
    let row = flat_map (block_in disk) xs in
    let row_long = length_flat (block_in disk) xs long in
    let flat : flat_map (block_in made) xs ≡ overwritten q new row =
    patched_flat (block_in disk) (block_in made) xs j r new long h fits (put_same disk b n block m.long range wide ∙ put) other in
    let P : List ℕ → Type 0 = λ x. IsMiddle n base made header slot after p x in
    let is : content_at made p slot after.size ≡ overwritten q new bytes = ap (take after.size) flat ∙
    ⊎_elim
    (λ (gt : entry.size < q + length new). (ap (λ k. take k (overwritten q new row)) (let e : after.size ≡ q + length new =
    omega (arith, size, o, sized, gt) in e)
    ∙ overwritten_past q entry.size new row start (omega (arith, gt)) (omega (arith, row_long, whole, start))
    ∙ ap (overwritten q new) m.mine))
    (λ (le : q + length new ≤ entry.size). (ap (λ k. take k (overwritten q new row)) (let e : after.size ≡ entry.size =
    omega (arith, size, o, sized, le) in e)
    ∙ overwritten_within q entry.size new row le (omega (arith, row_long, whole)) ∙ ap (overwritten q new) m.mine))
    (cases_lt entry.size (q + length new)) in
    subst P is grown

-- the bytes of the file after a data block is added to a file whose last one is full
more_bytes : (n : ℕ) (base disk made : List ℕ) (header : Header) (slot : ℕ) (entry : Entry) (p p' : Places) (bytes new : List ℕ) (b : ℕ)
    → IsMiddle n base disk header slot entry p bytes → entry.size ≡ 512 * length (numbers_at p.datas slot)
    → ((j : ℕ) → j < length (numbers_at p.datas slot)
    → block_in made (slice_index (numbers_at p.datas slot) j) ≡ block_in disk (slice_index (numbers_at p.datas slot) j))
    → take (length new) (block_in made b) ≡ new → numbers_at p'.datas slot ≡ numbers_at p.datas slot ++ b ∷ []
    → content_at made p' slot (entry.size + length new) ≡ bytes ++ new
more_bytes n base disk made header slot entry p p' bytes new b m size same put is =
    let xs = numbers_at p.datas slot in
    let row = flat_map (block_in disk) xs in
    let long = length_flat (block_in disk) xs (middle_blocks n base disk header slot entry p bytes m) in
    let whole : row ≡ bytes = sym (take_all entry.size row (omega (arith, long, size))) ∙ m.mine in
    ap (λ ys. take (entry.size + length new) (flat_map (block_in made) ys)) is
    ∙ ap (take (entry.size + length new)) (flat_more (block_in made) xs b
    ∙ ap (λ x. x ++ block_in made b) (flat_same (block_in made) (block_in disk) xs same))
    ∙ ap (λ k. take (k + length new) (row ++ block_in made b)) (let e : entry.size ≡ length row = omega (arith, long, size) in e)
    ∙ take-append-add row (block_in made b) (length new) ∙ ap (λ x. row ++ x) put ∙ ap (λ x. x ++ new) whole

-- a data block that the call holds is on the disk
pub held_range : (n : ℕ) (base disk : List ℕ) (header : Header) (slot : ℕ) (entry : Entry) (p : Places) (bytes : List ℕ) (b : ℕ)
    → IsMiddle n base disk header slot entry p bytes → 1 ≤ times_met b p.held_data → (first_data (disk_geometry n) ≤ b) × (b < n)
held_range n base disk header slot entry p bytes b m h = let one = m.laid.one_data b in
    in_range (first_data (disk_geometry n)) n b (omega (arith, one, h))

-- the first of a list is in it
pub times_first : (b : ℕ) (xs rest : List ℕ) → xs ≡ b ∷ rest → 1 ≤ times_met b xs
times_first b xs rest e = let t : times_met b xs ≡ times_met b (b ∷ rest) = ap (times_met b) e in
    let u = times-at (b ∷ rest) 0 b (omega arith) refl in omega (arith, t, u)

-- the slot has a list of data blocks
slot_data : (n : ℕ) (base disk : List ℕ) (header : Header) (slot : ℕ) (entry : Entry) (p : Places) (bytes : List ℕ)
    → IsMiddle n base disk header slot entry p bytes → slot < length p.datas
slot_data n base disk header slot entry p bytes m =
    let low = m.low in let s = m.slot_is in let d = m.laid.datas in
    let count = entry_count disk n m.long (omega (arith, low)) in let t = length-set (entries disk) slot entry in
    omega (arith, count, s, t, d)

-- A data block that the call holds is added to the file, whose last index block has room: the file ends with its first bytes.
pub middle_appended : (n : ℕ) (base disk : List ℕ) (header : Header) (slot : ℕ) (entry after : Entry) (p : Places) (bytes new : List ℕ)
    (j b : ℕ) (rest block : List ℕ)
    → IsMiddle n base disk header slot entry p bytes → p.held_data ≡ b ∷ rest → entry.size ≡ 512 * length (numbers_at p.datas slot)
    → take (length new) (block_in disk b) ≡ new → 0 < length new → length new ≤ 512
    → suc j ≡ length (numbers_at p.chains slot) → length (numbers_at p.datas slot) < 16 * length (numbers_at p.chains slot)
    → after.name ≡ entry.name → after.first ≡ entry.first → after.size ≡ entry.size + length new
    → IsIndexPut (block_in disk (6 + slice_index (numbers_at p.chains slot) j / 7)) (slice_index (numbers_at p.chains slot) j % 7)
    (index_for j (numbers_at p.chains slot) (numbers_at p.datas slot ++ b ∷ [])) block
    → IsMiddle n base (block_put disk (6 + slice_index (numbers_at p.chains slot) j / 7) block) header slot after
    (record p { datas = slice_set p.datas slot (numbers_at p.datas slot ++ b ∷ []); held_data = rest }) (bytes ++ new)
middle_appended n base disk header slot entry after p bytes new j b rest block m held size put some most last space name first grown q =
    let chain = numbers_at p.chains slot in let xs = numbers_at p.datas slot in let i = slice_index chain j in let at = 6 + i / 7 in
    let made = block_put disk at block in
    let p' : Places = record p { datas = slice_set p.datas slot (xs ++ b ∷ []); held_data = rest } in
    let read = middle_read n base disk header slot entry p bytes m in
    let below = (read.index j (omega (arith, last))).below in
    let chain_long = read.chain_long in let low = m.low in
    let added = middle_added n base disk header slot entry after p bytes j b rest block m held last space name first
    (omega (arith, grown, size, chain_long, some, most, space)) (omega (arith, grown, size, some, most)) below q in
    let in_disk : at < first_data (disk_geometry n) = omega (arith, below) in
    let in_n : at < n = omega (arith, in_disk, low) in
    let away : (c : ℕ) → first_data (disk_geometry n) ≤ c → block_in made c ≡ block_in disk c = λ c l.
    put_other disk at n block c m.long in_n q.long (λ e. omega (arith, e, l, in_disk)) in
    let inside : slot < length p.datas = slot_data n base disk header slot entry p bytes m in
    let is = more_bytes n base disk made header slot entry p p' bytes new b m size (λ k l. away (slice_index xs k) (read.block k l).0)
    (ap (take (length new)) (away b (held_range n base disk header slot entry p bytes b m (times_first b p.held_data rest held)).0) ∙ put)
    (get_or-set_same p.datas slot (xs ++ b ∷ []) [] inside) in
    let P : List ℕ → Type 0 = λ x. IsMiddle n base made header slot after p' x in
    subst P (ap (content_at made p' slot) grown ∙ is) added

-- The file has its first index block and its first data block, which the call held.
pub middle_started : (n : ℕ) (base disk : List ℕ) (header : Header) (slot : ℕ) (entry after : Entry) (p : Places) (bytes new : List ℕ)
    (i b : ℕ) (hi hd : List ℕ)
    → IsMiddle n base disk header slot entry p bytes → p.held_index ≡ i ∷ hi → p.held_data ≡ b ∷ hd → entry.size ≡ 0
    → take (length new) (block_in disk b) ≡ new → 0 < length new → length new ≤ 512
    → index_at (i % 7) (block_in disk (6 + i / 7)) ≡ index_for 0 (i ∷ []) (b ∷ [])
    → after.name ≡ entry.name → after.first ≡ i → after.size ≡ length new
    → IsMiddle n base disk header slot after
    (record p {
      chains = slice_set p.chains slot (i ∷ []);
      datas = slice_set p.datas slot (b ∷ []);
      held_index = hi;
      held_data = hd;
    }) (bytes ++ new)
middle_started n base disk header slot entry after p bytes new i b hi hd m held_i held_d size put some most written name first grown =
    let chain = numbers_at p.chains slot in let xs = numbers_at p.datas slot in
    let p' : Places = record p {
      chains = slice_set p.chains slot (i ∷ []);
      datas = slice_set p.datas slot (b ∷ []);
      held_index = hi;
      held_data = hd;
    } in
    let read = middle_read n base disk header slot entry p bytes m in
    let no_chain : chain ≡ [] = none chain (let l = read.chain_long in omega (arith, l, size)) in
    let no_data : xs ≡ [] = none xs (let l = read.blocks_long in omega (arith, l, size)) in
    let one = m.laid.one_index i in let t = times_first i p.held_index hi held_i in
    let below : i < index_count (disk_geometry n) = index_below (index_count (disk_geometry n)) i (omega (arith, one, t)) in
    let started = middle_first n base disk header slot entry after p bytes i b hi hd m held_i held_d no_chain no_data
    (index_on n disk header slot entry i below ∙ written) name first
    (omega (arith, grown, some, most)) (omega (arith, grown, some, most)) in
    let inside : slot < length p.datas = slot_data n base disk header slot entry p bytes m in
    let zero_long : length xs ≡ 0 = ap length no_data in
    let is = more_bytes n base disk disk header slot entry p p' bytes new b m (omega (arith, size, zero_long)) (λ k l. refl) put
    (get_or-set_same p.datas slot (b ∷ []) [] inside ∙ ap (λ ys. ys ++ b ∷ []) (sym no_data)) in
    let P : List ℕ → Type 0 = λ x. IsMiddle n base disk header slot after p' x in
    subst P (ap (content_at disk p' slot) (let e : after.size ≡ entry.size + length new = omega (arith, grown, size) in e) ∙ is) started
  where
    none : (ys : List ℕ) → length ys ≡ 0 → ys ≡ []
    none [] l = refl
    none (y ∷ ys) l = absurd (omega (arith, l))

-- The last index block of the file, which is full, names another, which the call held, with the data block that it held.
pub middle_continued : (n : ℕ) (base disk : List ℕ) (header : Header) (slot : ℕ) (entry after : Entry) (p : Places) (bytes new : List ℕ)
    (j i b : ℕ) (hi hd block : List ℕ)
    → IsMiddle n base disk header slot entry p bytes → p.held_index ≡ i ∷ hi → p.held_data ≡ b ∷ hd
    → entry.size ≡ 8192 * length (numbers_at p.chains slot)
    → take (length new) (block_in disk b) ≡ new → 0 < length new → length new ≤ 512 → suc j ≡ length (numbers_at p.chains slot)
    → index_at (i % 7) (block_in disk (6 + i / 7)) ≡ index_for (suc j) (numbers_at p.chains slot ++ i ∷ [])
    (numbers_at p.datas slot ++ b ∷ [])
    → after.name ≡ entry.name → after.first ≡ entry.first → after.size ≡ entry.size + length new
    → IsIndexPut (block_in disk (6 + slice_index (numbers_at p.chains slot) j / 7)) (slice_index (numbers_at p.chains slot) j % 7)
    (index_for j (numbers_at p.chains slot ++ i ∷ []) (numbers_at p.datas slot ++ b ∷ [])) block
    → IsMiddle n base (block_put disk (6 + slice_index (numbers_at p.chains slot) j / 7) block) header slot after
    (record p {
      chains = slice_set p.chains slot (numbers_at p.chains slot ++ i ∷ []);
      datas = slice_set p.datas slot (numbers_at p.datas slot ++ b ∷ []);
      held_index = hi;
      held_data = hd;
    })
    (bytes ++ new)
middle_continued n base disk header slot entry after p bytes new j i b hi hd block m held_i held_d size put some most last written name first grown q =
    let chain = numbers_at p.chains slot in let xs = numbers_at p.datas slot in let k = slice_index chain j in let at = 6 + k / 7 in
    let made = block_put disk at block in
    let p' : Places = record p {
      chains = slice_set p.chains slot (chain ++ i ∷ []);
      datas = slice_set p.datas slot (xs ++ b ∷ []);
      held_index = hi;
      held_data = hd;
    } in
    let read = middle_read n base disk header slot entry p bytes m in
    let chain_long = read.chain_long in let blocks_long = read.blocks_long in let low = m.low in
    let below = (read.index j (omega (arith, last))).below in
    let one = m.laid.one_index i in let t = times_first i p.held_index hi held_i in
    let i_below : i < index_count (disk_geometry n) = index_below (index_count (disk_geometry n)) i (omega (arith, one, t)) in
    let linked = middle_linked n base disk header slot entry after p bytes j i b hi hd block m held_i held_d last
    (omega (arith, size, blocks_long)) below
    (index_on n disk header slot entry i i_below ∙ written) name first (omega (arith, grown, size, some, most))
    (omega (arith, grown, size, some, most, blocks_long)) q in
    let in_disk : at < first_data (disk_geometry n) = omega (arith, below) in
    let in_n : at < n = omega (arith, in_disk, low) in
    let away : (c : ℕ) → first_data (disk_geometry n) ≤ c → block_in made c ≡ block_in disk c = λ c l.
    put_other disk at n block c m.long in_n q.long (λ e. omega (arith, e, l, in_disk)) in
    let inside : slot < length p.datas = slot_data n base disk header slot entry p bytes m in
    let is = more_bytes n base disk made header slot entry p p' bytes new b m (omega (arith, size, blocks_long)) (λ k l.
    away (slice_index xs k) (read.block k l).0)
    (ap (take (length new)) (away b (held_range n base disk header slot entry p bytes b m (times_first b p.held_data hd held_d)).0) ∙ put)
    (get_or-set_same p.datas slot (xs ++ b ∷ []) [] inside) in
    let P : List ℕ → Type 0 = λ x. IsMiddle n base made header slot after p' x in
    subst P (ap (content_at made p' slot) grown ∙ is) linked

-- Each completion leaves fewer than there were.
use Rattle.std.proofs.Common.{replicate, ◌≡◌, ℕ, zero, suc, ◌+◌, ◌-◌, ◌*◌, ◌/◌, ◌%◌, ◌<◌, ◌≤◌, Bool, true, nat_le, nat_lt, ◌==◌, ◌||◌, if◌then◌else◌, List, [], length, refl, sym, ap, ◌∙◌, subst, arith, slice_index_or, ⊎_elim, Option, Some, None, negsuc, bytes_eq}
use Rattle.std.proofs.lemmas.Bool.{cases_lt, and_parts}
use Rattle.std.proofs.lemmas.Bool.Decides.{nat_tests}
use Rattle.std.proofs.lemmas.Slice.Eq.{bytes_eq-Decides}
use Rattle.lfs_format.specs.declared.Entry.{Entry}
use Rattle.lfs_format.specs.declared.Index.{Index}
use Rattle.lfs_format.specs.Directory.{dir_of, void_entry}
use Rattle.lfs_format.specs.Indexes.{index_at}
use Rattle.lfs_check.specs.declared.fields.Header.{Header}
use Rattle.lfs_check.specs.Rules.{block_in, entry_is_used}
use Rattle.lfs_check.specs.Fields.{header_2}
use Rattle.lfs_check.specs.Disks.{entry_at, is_this}
use Rattle.lfs_layout.specs.Files.{bare_name}
use Rattle.xinu_model.specs.Files.Stored.{file_named, bytes_in}
use Rattle.xinu_model.specs.Files.Work.{size_for}
use Rattle.file_laws.specs.StoredFiles.{stored_files}
use Rattle.file_laws.proofs.Named.{named_at, bytes_sized}
use Rattle.file_laws.proofs.Counted.{entry_small}
use Rattle.local_files.specs.declared.Files.{Files}
use Rattle.local_files.specs.declared.FileCall.{FileCall}
use Rattle.local_files.specs.declared.FileCall.TheVariants.{Open, Delete, Close, Read, Write, Getc, Putc, Seek, Truncate, Size}
use Rattle.local_files.specs.declared.Phase.{Phase}
use Rattle.local_files.specs.Hands.{system, name_of, IsSearch, IsReading, IsFetching, IsCutRead, IsCutWrite, IsFreeWrite}
use Rattle.local_files.specs.Putting.{IsCounting, IsBegun, IsPatched, IsAddWrite, IsNewWrite, IsLinkWrite}
use Rattle.local_files.specs.Standing.{Stands, call_of}
use Rattle.local_files.specs.Steps.{answered, at_byte, device_at, device_of, lowest_free, is_truncate, with_piece, with_free_data, with_free_index, with_index}
use Rattle.local_files.specs.Wanted.{going_on, to_write}
use Rattle.local_files.specs.Takes.{walked, fetched}
use Rattle.local_files.specs.Puts.{target, counts_read, reached, next_put, put_done, take_written, added_index, new_written, followed}
use Rattle.local_files.specs.Cuts.{cutting, cut_written, free_next, free_written}
use Rattle.file_laws.specs.StoredFiles.{empty_entry, one_more}
use Rattle.local_files.specs.Opens.{IsLook, finding, missing, searching_on, opening_at, opened, ended, ended_at}
use Rattle.local_files.specs.Bounds.{left, left_in, put_left, cut_left}
use Rattle.local_files.proofs.Taking.{open_of}
use Rattle.local_files.proofs.Putting.{where_put}
use Rattle.local_files.proofs.PutSteps.{target_end}
use Rattle.local_files.proofs.Pieces.{target_either}
use Rattle.local_files.proofs.Adds.{growing}
use Rattle.local_files.proofs.Counting.{not_truncate}
use Rattle.local_files.proofs.Searching.{entry_found}
use Rattle.local_files.proofs.Falls.{below_if, walked_less, fetched_less, next_put_less, reach_to_less, put_on_less, free_next_less, cutting_less}
use Rattle.local_files.specs.declared.Phase.TheVariants.{Wants}
use Rattle.local_files.specs.declared.Purpose.TheVariants.{Search, Walk, Fetch, Counts, Reach, PatchRead, PatchWrite, TakeRead, TakeWrite, AddRead, AddWrite, NewRead, NewWrite, LinkRead, LinkWrite, CutRead, CutWrite, FreeWrite, EntryRead, EntryWrite, HeaderRead, HeaderWrite}
use Rattle.local_files.proofs.Standing.{in_hand}

-- what is left is told by what is waited for
falls : (e x : Files) (base : List ℕ) (p : Phase) → e.phase ≡ p → left x base < left_in p e base → left x base < left e base
falls e x base p phase h = let P : Phase → Type 0 = λ k. left x base < left_in k e base in subst P (sym phase) h

-- the same of what the code leaves
falls_to : (e e' x : Files) (base : List ℕ) (p : Phase) → e.phase ≡ p → e' ≡ x → left x base < left_in p e base
    → left e' base < left e base
falls_to e e' x base p phase new h = let P : Files → Type 0 = λ y. left y base < left e base in
    subst P (sym new) (falls e x base p phase h)

-- Searching.

-- a file that is opened at once leaves none
finding_less : (slot : ℕ) (entry : Entry) (c : FileCall) (e : Files) (base : List ℕ) (m : ℕ) → 4 < m
    → ((n : List ℕ) → c ≡ Delete n → cut_left (entry_at base slot).size 0 0 < m) → left (finding c slot entry e) base < m
finding_less slot entry (Open n mode) e base m four cut =
    below_if mode.only_new (answered (negsuc 0) e) (opening_at slot entry mode e) base m (λ _. omega (arith, four))
    (λ _. below_if (nat_lt (lowest_free e) 6) (opened slot entry mode e) (answered (negsuc 0) e) base m (λ _. omega (arith, four))
    (λ _. omega (arith, four)))
finding_less slot entry (Delete n) e base m four cut =
    cutting_less entry (record e { slot = slot; entry = entry }) base m (cut n refl)
finding_less slot entry (Close n) e base m four cut = omega (arith, four)
finding_less slot entry (Read n k) e base m four cut = omega (arith, four)
finding_less slot entry (Write n) e base m four cut = omega (arith, four)
finding_less slot entry (Getc n) e base m four cut = omega (arith, four)
finding_less slot entry (Putc n k) e base m four cut = omega (arith, four)
finding_less slot entry (Seek n k) e base m four cut = omega (arith, four)
finding_less slot entry (Truncate n) e base m four cut = omega (arith, four)
finding_less slot entry (Size n) e base m four cut = omega (arith, four)

-- The name is in the block.
pub found_falls : (e e' : Files) (d k : ℕ) (header : Header) (entry : Entry) (name base disk read : List ℕ) → e.phase ≡ Wants (Search d)
    → e' ≡ finding e.call (13 * d + k) entry (record e { header = header }) → (IsLook e.call → name ≡ name_of e.call) → k < 13
    → is_this name entry ≡ true → entry ≡ slice_index_or (dir_of read).entries k void_entry → Stands e base disk → read ≡ block_in disk d
    → left e' base < left e base
found_falls e e' d k header entry name base disk read phase new named below this is s honest =
    let block = h.block in
    falls_to e e' (finding e.call (13 * d + k) entry (record e { header = header })) base (Wants (Search d)) phase new
    (finding_less (13 * d + k) entry e.call (record e { header = header }) base (left_in (Wants (Search d)) e base)
    (omega (arith, block)) (λ n c. (let z = size n c in omega (arith, block, z))))
  where
    h : IsSearch e d base disk
    h = in_hand phase s

    size : (n : List ℕ) → e.call ≡ Delete n → size_for (call_of e.call []) (system e base) ≡ (entry_at base (13 * d + k)).size
    size n c =
        let slot = 13 * d + k in let block = h.block in
        let in_range : slot < 78 = omega (arith, block, below) in
        let at = entry_found e d k entry base disk read h s honest below is in
        let two = and_parts (entry_is_used entry) (bytes_eq entry.name name) this in
        let same : entry.name ≡ name = (bytes_eq-Decides entry.name name).0 two.1 in
        let used : entry_is_used (entry_at base slot) ≡ true = ap entry_is_used at ∙ two.0 in
        let L : FileCall → Type 0 = λ q. IsLook q → name ≡ name_of q in
        let name_is : name ≡ n = (subst L c named) tt in
        let n_is : n ≡ (entry_at base slot).name = sym name_is ∙ sym same ∙ ap (λ (x : Entry). x.name) (sym at) in
        ap (λ q. size_for (call_of q []) (system e base)) c
        ∙ ap (λ q. length (bytes_in (file_named (bare_name q) (stored_files base)))) n_is
        ∙ ap (λ f. length (bytes_in f)) (named_at base s.clean slot in_range used) ∙ bytes_sized base s.clean slot in_range used

-- The name isn't in the block.
pub passed_falls : (e e' : Files) (d : ℕ) (header : Header) (slot : ℕ) (base disk : List ℕ) → e.phase ≡ Wants (Search d)
    → e' ≡ searching_on d (record e { header = header; slot = slot }) → Stands e base disk → left e' base < left e base
passed_falls e e' d header slot base disk phase new s =
    let x : Files = record e { header = header; slot = slot } in
    falls_to e e' (searching_on d x) base (Wants (Search d)) phase new
    (below_if (nat_lt d 5) (record x { phase = Wants (Search (d + 1)) }) (missing e.call x) base (left_in (Wants (Search d)) e base)
    (λ _. omega (arith, block)) (λ _. over e.call (left_in (Wants (Search d)) e base) (omega (arith, block))))
  where
    block : d < 6
    block = let h : IsSearch e d base disk = in_hand phase s in h.block

    over : (c : FileCall) (m : ℕ) → 4 < m → left (missing c (record e { header = header; slot = slot })) base < m
    over (Open n mode) m h =
        let x : Files = record e { header = header; slot = slot } in
        below_if (mode.only_old || nat_le 78 x.slot) (answered (negsuc 0) x) (missing_in n x) base m (λ _. omega (arith, h)) (λ _. h)
      where
        missing_in : List ℕ → Files → Files
        missing_in n x = record x { entry = empty_entry n; header = one_more x.header; phase = Wants EntryRead }
    over (Delete n) m h = omega (arith, h)
    over (Close n) m h = omega (arith, h)
    over (Read n k) m h = omega (arith, h)
    over (Write n) m h = omega (arith, h)
    over (Getc n) m h = omega (arith, h)
    over (Putc n k) m h = omega (arith, h)
    over (Seek n k) m h = omega (arith, h)
    over (Truncate n) m h = omega (arith, h)
    over (Size n) m h = omega (arith, h)

-- Reading.

-- where a read is in its file
where_read : (e : Files) (base disk : List ℕ) → Stands e base disk → IsReading e base
    → (at_byte e ≡ e.counters.position + e.counters.done) × ((e.counters.total ≤ 1048576) × (e.counters.position + e.counters.total < 4294967296))
where_read e base disk s r =
    let o = open_of base (device_at e (device_of e.call)) r.file r.open_is (s.device (device_of e.call)) in
    let small : r.file.entry.size ≤ 33557504 = (let P : Entry → Type 0 = λ x. x.size ≤ 33557504 in
    subst P o.entry (entry_small base s.clean r.file.slot o.slot (ap entry_is_used o.entry ∙ o.used))) in
    let p = r.position in let t = r.total in let l = r.left in let w = r.within in let f = r.few in
    (omega (arith, small, p, t, l, w), (omega (arith, t, f), omega (arith, small, p, t, w)))

-- an index block was read
pub walked_falls : (e e' : Files) (rest at : ℕ) (base read : List ℕ) → e.phase ≡ Wants (Walk rest at)
    → e' ≡ walked rest (index_at (at % 7) read) e → left e' base < left e base
walked_falls e e' rest at base read phase new =
    falls_to e e' (walked rest (index_at (at % 7) read) e) base (Wants (Walk rest at)) phase new (walked_less rest (index_at (at % 7) read) e base)

-- a data block was read
pub fetched_falls : (e e' : Files) (b : ℕ) (base disk read : List ℕ) → e.phase ≡ Wants (Fetch b) → e' ≡ fetched read e → Stands e base disk
    → left e' base < left e base
fetched_falls e e' b base disk read phase new s =
    let w : IsFetching e b base disk = in_hand phase s in
    let r = where_read e base disk s w.reading in
    falls_to e e' (fetched read e) base (Wants (Fetch b)) phase new (fetched_less read e base r.0 w.reading.left r.1.0 r.1.1)

-- Putting.

-- which index block is needed, at most
target_most : (e : Files) (k : ℕ) → at_byte e ≤ k → target e ≤ k / 8192
target_most e k h =
    ⊎_elim (λ (t : target e ≡ at_byte e / 8192). omega (arith, t, h))
    (λ (t : (0 < at_byte e) × (target e ≡ (at_byte e - 1) / 8192)). (let u = t.1 in omega (arith, u, h))) (target_either e)

-- the counts were read
pub counts_read_falls : (e e' : Files) (base disk read : List ℕ) → e.phase ≡ Wants Counts → e' ≡ counts_read (dir_of read) e → Stands e base disk
    → left e' base < left e base
counts_read_falls e e' base disk read phase new s =
    falls_to e e' (counts_read (dir_of read) e) base (Wants Counts) phase new
    (⊎_elim
    (λ (t : is_truncate e.call ≡ true). subst Q (sym t) (cutting_less e.entry x base (1 + cut_left (entry_at base e.slot).size 0 0)
    (omega arith)))
    (λ (b : IsBegun e h.file). subst Q (sym (not_truncate e.call _ b.call)) (puts b)) h.begun)
  where
    h : IsCounting e base disk
    h = in_hand phase s

    x : Files
    x = record e { header = header_2 (dir_of read) }

    Q : Bool → Type 0
    Q v = left (if v then cutting e.entry x else next_put x) base
        < (if v then 1 + cut_left (entry_at base e.slot).size 0 0 else e.counters.position / 8192 + 8 + put_left e)

    puts : IsBegun e h.file → left (next_put x) base < e.counters.position / 8192 + 8 + put_left e
    puts b =
        let none = b.none in
        let m = e.counters.position / 8192 + 8 + put_left e in
        let t : target x ≤ e.counters.position / 8192 = target_most x e.counters.position (omega (arith, none)) in
        next_put_less x base m (omega arith) (λ _. omega arith)
        (λ _ _. reach_to_less x base m (λ _. omega (arith, t)) (λ n. absurd (n b.not_reached)))

-- an index block was read
pub reached_falls : (e e' : Files) (rest at : ℕ) (base disk read : List ℕ) → e.phase ≡ Wants (Reach rest at)
    → e' ≡ reached rest at (index_at (at % 7) read) e → left e' base < left e base
reached_falls e e' rest at base disk read phase new =
    falls_to e e' (reached rest at (index_at (at % 7) read) e) base (Wants (Reach rest at)) phase new (by_rest rest)
  where
    by_rest : (k : ℕ) → left (reached k at (index_at (at % 7) read) e) base < k + 7 + put_left e
    by_rest zero =
        let x : Files = record e { index = index_at (at % 7) read; at = at; reached = target e + 1 } in
        next_put_less x base (0 + 7 + put_left e) (omega arith) (λ _. omega arith) (λ _ n. absurd (n refl))
    by_rest (suc k) =
        let x : Files = record e { index = index_at (at % 7) read; at = at } in
        below_if (nat_lt (6 + x.index.next / 7) x.blocks) (record x { phase = Wants (Reach k x.index.next) }) (answered (negsuc 0) x) base
        (suc k + 7 + put_left e) (λ _. omega arith) (λ _. omega arith)

-- the data block was read
pub patch_read_falls : (e e' : Files) (b : ℕ) (base read : List ℕ) → e.phase ≡ Wants (PatchRead b) → e' ≡ to_write (PatchWrite b) (with_piece (at_byte e % 512) read e) e
    → left e' base < left e base
patch_read_falls e e' b base read phase new = falls_to e e' (to_write (PatchWrite b) (with_piece (at_byte e % 512) read e) e) base (Wants (PatchRead b)) phase new (omega arith)

-- it is written
pub patch_written_falls : (e e' : Files) (b : ℕ) (base disk : List ℕ) → e.phase ≡ Wants (PatchWrite b) → e' ≡ next_put (put_done e)
    → Stands e base disk → left e' base < left e base
patch_written_falls e e' b base disk phase new s =
    let h : IsPatched e b base disk = in_hand phase s in
    let r = h.patch.ready in let u = r.putting in let at = h.patch.reached in
    falls_to e e' (next_put (put_done e)) base (Wants (PatchWrite b)) phase new
    (put_on_less e (put_done e) base (1 + put_left e) (where_put e base disk r.places s.standing u) h.patch.left u.most
    refl refl refl (λ z. absurd (omega (arith, z, at))) (omega arith))

-- the free data block was read
pub take_read_falls : (e e' : Files) (b next : ℕ) (base : List ℕ) → e.phase ≡ Wants (TakeRead b) → e' ≡ to_write (TakeWrite b) (with_piece 0 (replicate 512 0) e) (with_free_data next e)
    → left e' base < left e base
take_read_falls e e' b next base phase new = falls_to e e' (to_write (TakeWrite b) (with_piece 0 (replicate 512 0) e) (with_free_data next e)) base (Wants (TakeRead b)) phase new (omega arith)

-- it is written
pub take_written_falls : (e e' : Files) (b : ℕ) (base : List ℕ) → e.phase ≡ Wants (TakeWrite b) → e' ≡ take_written b e
    → left e' base < left e base
take_written_falls e e' b base phase new =
    falls_to e e' (take_written b e) base (Wants (TakeWrite b)) phase new
    (below_if (at_byte e % 8192 == 0) (going_on (NewRead b e.header.free_index) e) (record e { phase = Wants (AddRead b) }) base (5 + put_left e)
    (λ _. below_if (nat_lt (6 + e.header.free_index / 7) e.blocks) (record e { phase = Wants (NewRead b e.header.free_index) })
    (answered (negsuc 0) e) base (5 + put_left e) (λ _. omega arith) (λ _. omega arith)) (λ _. omega arith))

-- the last index block was read
pub add_read_falls : (e e' : Files) (b : ℕ) (block base : List ℕ) → e.phase ≡ Wants (AddRead b) → e' ≡ to_write (AddWrite b) block e
    → left e' base < left e base
add_read_falls e e' b block base phase new = falls_to e e' (to_write (AddWrite b) block e) base (Wants (AddRead b)) phase new (omega arith)

-- it is written
pub add_written_falls : (e e' : Files) (b : ℕ) (base disk : List ℕ) → e.phase ≡ Wants (AddWrite b)
    → e' ≡ next_put (put_done (with_index (added_index b e) e)) → Stands e base disk → left e' base < left e base
add_written_falls e e' b base disk phase new s =
    let h : IsAddWrite e b base disk = in_hand phase s in
    let k = h.filled.taken in let u = k.putting in let room = h.room in
    let some : 0 < at_byte e = (⊎_elim (λ (z : at_byte e < 1). absurd (room (omega (arith, z)))) (λ (z : 1 ≤ at_byte e). z)
    (cases_lt (at_byte e) 1)) in
    let at = k.reached some in
    let x = put_done (with_index (added_index b e) e) in
    falls_to e e' (next_put x) base (Wants (AddWrite b)) phase new
    (put_on_less e x base (1 + put_left e) (where_put e base disk k.places s.standing u) k.left u.most
    refl refl refl (λ z. absurd (omega (arith, z, at))) (omega arith))

-- the free index block was read
pub new_read_falls : (e e' : Files) (b i : ℕ) (old : Index) (block base : List ℕ) → e.phase ≡ Wants (NewRead b i)
    → e' ≡ to_write (NewWrite b i) block (with_free_index old.next e) → left e' base < left e base
new_read_falls e e' b i old block base phase new = falls_to e e' (to_write (NewWrite b i) block (with_free_index old.next e)) base (Wants (NewRead b i)) phase new (omega arith)

-- it is written
pub new_written_falls : (e e' : Files) (b i : ℕ) (base disk : List ℕ) → e.phase ≡ Wants (NewWrite b i) → e' ≡ new_written b i e → Stands e base disk
    → left e' base < left e base
new_written_falls e e' b i base disk phase new s =
    let h : IsNewWrite e b i base disk = in_hand phase s in
    let n = h.new in let u = n.putting in
    let st = s.standing in
    let x = put_done (followed b i (record e { entry = record e.entry { first = i } })) in
    falls_to e e' (new_written b i e) base (Wants (NewWrite b i)) phase new
    (below_if (at_byte e == 0) (next_put x) (record e { phase = Wants (LinkRead b i) }) base (3 + put_left e)
    (λ t. (let z : at_byte e ≡ 0 = grind (arith, nat_tests) in
    let g = growing e base disk n.places st u n.left n.ends in
    let at = g.at in let cl = g.read.chain_long in let few = n.cursor.below in
    let one : x.reached ≡ 1 = omega (arith, few, cl, at, z) in
    put_on_less e x base (3 + put_left e) (where_put e base disk n.places st u) n.left u.most
    refl refl refl (λ q. absurd (omega (arith, q, one))) (omega arith)))
    (λ _. omega arith))

-- the last index block was read
pub link_read_falls : (e e' : Files) (b i : ℕ) (block base : List ℕ) → e.phase ≡ Wants (LinkRead b i) → e' ≡ to_write (LinkWrite b i) block e
    → left e' base < left e base
link_read_falls e e' b i block base phase new = falls_to e e' (to_write (LinkWrite b i) block e) base (Wants (LinkRead b i)) phase new (omega arith)

-- it is written
pub link_written_falls : (e e' : Files) (b i : ℕ) (base disk : List ℕ) → e.phase ≡ Wants (LinkWrite b i)
    → e' ≡ next_put (put_done (followed b i e)) → Stands e base disk → left e' base < left e base
link_written_falls e e' b i base disk phase new s =
    let h : IsLinkWrite e b i base disk = in_hand phase s in
    let n = h.link.new in let u = n.putting in
    let st = s.standing in
    let x = put_done (followed b i e) in
    let some = h.link.some in let reached = n.reached some in let t = target_end e n.ends some in
    falls_to e e' (next_put x) base (Wants (LinkWrite b i)) phase new
    (put_on_less e x base (1 + put_left e) (where_put e base disk n.places st u) n.left u.most
    refl refl refl (λ z. absurd (omega (arith, z, reached, t))) (omega arith))

-- Cutting.

-- the index block was read
pub cut_read_falls : (e e' : Files) (index : Index) (block base disk : List ℕ) → e.phase ≡ Wants CutRead → e' ≡ to_write CutWrite block (with_index index e)
    → Stands e base disk → left e' base < left e base
cut_read_falls e e' index block base disk phase new s =
    let h : IsCutRead e base disk = in_hand phase s in
    let below = h.below in let long = h.cutting.chain_long in
    falls_to e e' (to_write CutWrite block (with_index index e)) base (Wants CutRead) phase new (omega (arith, below, long))

-- it is written
pub cut_written_falls : (e e' : Files) (base disk : List ℕ) → e.phase ≡ Wants CutWrite → e' ≡ free_next (cut_written e) → Stands e base disk
    → left e' base < left e base
cut_written_falls e e' base disk phase new s =
    let h : IsCutWrite e base disk = in_hand phase s in
    let c = h.read.cutting in let short = c.short in let lt = h.read.below in
    let up : (e.reached + 1) % 4294967296 ≡ suc e.reached = omega (arith, short, lt) in
    falls_to e e' (free_next (cut_written e)) base (Wants CutWrite) phase new
    (free_next_less (cut_written e) base (left_in (Wants CutWrite) e base) (omega arith) (omega (arith, up)) (omega (arith, up)))

-- a data block is written
pub free_written_falls : (e e' : Files) (b : ℕ) (base disk : List ℕ) → e.phase ≡ Wants (FreeWrite b) → e' ≡ free_next (free_written b e)
    → Stands e base disk → left e' base < left e base
free_written_falls e e' b base disk phase new s =
    let h : IsFreeWrite e b base disk = in_hand phase s in
    let row = h.within in let some = h.some in let more = h.below in let long = h.cutting.blocks_long in
    let up : (e.freed + 1) % 4294967296 ≡ suc e.freed = omega (arith, row) in
    falls_to e e' (free_next (free_written b e)) base (Wants (FreeWrite b)) phase new
    (free_next_less (free_written b e) base (left_in (Wants (FreeWrite b)) e base) (omega (arith, more, long)) (omega (arith, up, more, long))
    (omega (arith, row, some, more, long)))

-- Ending.

-- the directory block of the entry was read
pub put_entry_falls : (e e' : Files) (block base : List ℕ) → e.phase ≡ Wants EntryRead
    → e' ≡ (record e { phase = Wants EntryWrite; block = block }) → left e' base < left e base
put_entry_falls e e' block base phase new =
    falls_to e e' (record e { phase = Wants EntryWrite; block = block }) base (Wants EntryRead) phase new (omega arith)

-- it is written
pub entry_written_falls : (e e' : Files) (base : List ℕ) → e.phase ≡ Wants EntryWrite → e' ≡ (record e { phase = Wants HeaderRead })
    → left e' base < left e base
entry_written_falls e e' base phase new = falls_to e e' (record e { phase = Wants HeaderRead }) base (Wants EntryWrite) phase new (omega arith)

-- the first directory block was read
pub put_header_falls : (e e' : Files) (block base : List ℕ) → e.phase ≡ Wants HeaderRead
    → e' ≡ (record e { phase = Wants HeaderWrite; block = block }) → left e' base < left e base
put_header_falls e e' block base phase new =
    falls_to e e' (record e { phase = Wants HeaderWrite; block = block }) base (Wants HeaderRead) phase new (omega arith)

-- it is written: the call is done
pub header_written_falls : (e e' : Files) (base : List ℕ) → e.phase ≡ Wants HeaderWrite → e' ≡ ended e.call e → left e' base < left e base
header_written_falls e e' base phase new = falls_to e e' (ended e.call e) base (Wants HeaderWrite) phase new (by_call e.call)
  where
    by_device : (o : Option ℕ) → left (ended_at o e) base < 1
    by_device None = omega arith
    by_device (Some d) = omega arith

    by_call : (c : FileCall) → left (ended c e) base < 1
    by_call (Open n mode) =
        below_if (nat_lt (lowest_free e) 6) (opened e.slot e.entry mode e) (answered (negsuc 0) e) base 1 (λ _. omega arith)
        (λ _. omega arith)
    by_call (Delete n) = by_device None
    by_call (Close d) = by_device (Some d)
    by_call (Read d n) = by_device (Some d)
    by_call (Write d) = by_device (Some d)
    by_call (Getc d) = by_device (Some d)
    by_call (Putc d b) = by_device (Some d)
    by_call (Seek d n) = by_device (Some d)
    by_call (Truncate d) = by_device (Some d)
    by_call (Size d) = by_device (Some d)

-- Each step of a read, a write and a cut leaves fewer completions.
use Rattle.std.proofs.Common.{replicate, ◌≡◌, ◌≢◌, ℕ, zero, suc, ◌+◌, ◌-◌, ◌*◌, ◌/◌, ◌%◌, ◌<◌, ◌≤◌, Bool, true, false, not, nat_le, nat_lt, nat_eq, ◌==◌, ◌||◌, ◌&&◌, if◌then◌else◌, min, List, refl, sym, ◌∙◌, arith, slice_index, Option, Some, None, pos, negsuc}
use Rattle.std.proofs.lemmas.Bool.{false≢true, or_parts}
use Rattle.std.proofs.lemmas.Bool.Decides.{nat_tests}
use Rattle.lfs_format.specs.declared.Index.{Index}
use Rattle.lfs_format.specs.declared.Entry.{Entry}
use Rattle.lfs_check.specs.Meets.{null}
use Rattle.lfs_check.specs.Disks.{entry_at}
use Rattle.local_files.specs.declared.Files.{Files}
use Rattle.local_files.specs.Steps.{answered, at_byte, piece, is_getc, is_delete, device_at, moved_to, counted, named_device}
use Rattle.local_files.specs.Wanted.{going_on}
use Rattle.local_files.specs.Takes.{walked, fetched, with_taken, next_fetch, finished_read}
use Rattle.local_files.specs.Puts.{end_put, at_end, target, reach_to, appending, in_place, next_put}
use Rattle.local_files.specs.Cuts.{end_cut, freeing, free_next, word_block, cutting}
use Rattle.local_files.specs.Bounds.{left, read_left, put_left, cut_left}
use Rattle.local_files.specs.declared.Phase.TheVariants.{Done, Wants}
use Rattle.local_files.specs.declared.Purpose.TheVariants.{Walk, Fetch, Reach, PatchRead, TakeRead, CutRead, FreeWrite, EntryRead}

-- either way fewer are left
pub below_if : (b : Bool) (x y : Files) (base : List ℕ) (m : ℕ) → (b ≡ true → left x base < m) → (b ≡ false → left y base < m)
    → left (if b then x else y) base < m
below_if true x y base m p q = p refl
below_if false x y base m p q = q refl

-- Reading.

-- goes on to an index block
pub walking_less : (rest at : ℕ) (e : Files) (base : List ℕ) (m : ℕ) → rest + 1 + read_left e < m → left (going_on (Walk rest at) e) base < m
walking_less rest at e base m h =
    below_if (nat_lt (6 + at / 7) e.blocks) (record e { phase = Wants (Walk rest at) }) (answered (negsuc 0) e) base m (λ _. h)
    (λ _. omega (arith, h))

-- goes on to a data block
fetching_less : (b : ℕ) (e : Files) (base : List ℕ) (m : ℕ) → read_left e < m → left (going_on (Fetch b) e) base < m
fetching_less b e base m h =
    below_if (nat_lt b e.blocks) (record e { phase = Wants (Fetch b) }) (answered (negsuc 0) e) base m (λ _. h) (λ _. omega (arith, h))

-- an index block was read
pub walked_less : (rest : ℕ) (index : Index) (e : Files) (base : List ℕ) → left (walked rest index e) base < rest + 1 + read_left e
walked_less zero index e base =
    fetching_less (slice_index index.blocks (at_byte e / 512 % 16)) (record e { index = index }) base (0 + 1 + read_left e) (omega arith)
walked_less (suc rest) index e base =
    walking_less rest index.next (record e { index = index }) base (suc rest + 1 + read_left e) (omega arith)

-- a read that is done has none left
finished_less : (o : Option ℕ) (e : Files) (base : List ℕ) (m : ℕ) → 0 < m → left (finished_read o e) base < m
finished_less None e base m h = h
finished_less (Some d) e base m h =
    let x = moved_to (device_at e d) d (at_byte e) e in
    below_if (is_getc x.call) (answered (pos (slice_index x.buffer 0)) x) (record x { phase = Done (counted x.counters.total); counters = record x.counters { given = x.counters.total } }) base m
    (λ _. h) (λ _. h)

-- how far a piece goes, if it isn't the last
pub stepped : (p d t q d1 : ℕ) → q ≡ p + d → d < t → t ≤ 1048576 → d1 ≡ (d + min (512 - q % 512) (t - d)) % 4294967296 → d1 < t
    → (d1 ≡ d + (512 - q % 512)) × ((p + d1) / 512 ≡ suc ((p + d) / 512))
stepped p d t q d1 q_is left_is most is more =
    let k : d1 ≡ d + (512 - q % 512) = omega (arith, is, more, most, left_is) in
    (k, omega (arith, k, q_is))

-- a data block was read
pub fetched_less : (block : List ℕ) (e : Files) (base : List ℕ) → at_byte e ≡ e.counters.position + e.counters.done → e.counters.done < e.counters.total → e.counters.total ≤ 1048576
    → e.counters.position + e.counters.total < 4294967296 → left (fetched block e) base < read_left e
fetched_less block e base at more most small =
    let x = with_taken block e in
    below_if (nat_le x.counters.total x.counters.done) (finished_read (named_device x.call) x) (next_fetch x) base (read_left e)
    (λ _. finished_less (named_device x.call) x base (read_left e) (omega (arith, more)))
    (λ t. goes (let l : x.counters.done < x.counters.total = grind (arith, nat_tests) in l))
  where
    goes : (with_taken block e).counters.done < (with_taken block e).counters.total → left (next_fetch (with_taken block e)) base < read_left e
    goes l =
        let x = with_taken block e in
        let s = stepped e.counters.position e.counters.done e.counters.total (at_byte e) x.counters.done at more most refl l in
        let on = s.0 in let row = s.1 in
        let at2 : at_byte x ≡ e.counters.position + x.counters.done = omega (arith, small, l) in
        below_if (at_byte x % 8192 == 0) (going_on (Walk 0 x.index.next) x) (going_on (Fetch (slice_index x.index.blocks (at_byte x / 512 % 16))) x) base
        (read_left e)
        (λ t. walking_less 0 x.index.next x base (read_left e)
        (let z : at_byte x % 8192 ≡ 0 = grind (arith, nat_tests) in omega (arith, at2, z, on, row, l, at)))
        (λ _. fetching_less (slice_index x.index.blocks (at_byte x / 512 % 16)) x base (read_left e) (omega (arith, on, row, l, at)))

-- Putting.

-- goes on to an index block
reaching_less : (rest at : ℕ) (e : Files) (base : List ℕ) (m : ℕ) → rest + 7 + put_left e < m → left (going_on (Reach rest at) e) base < m
reaching_less rest at e base m h =
    below_if (nat_lt (6 + at / 7) e.blocks) (record e { phase = Wants (Reach rest at) }) (answered (negsuc 0) e) base m (λ _. h)
    (λ _. omega (arith, h))

-- goes on to the index block that is needed
pub reach_to_less : (e : Files) (base : List ℕ) (m : ℕ) → (e.reached ≡ 0 → target e + 7 + put_left e < m)
    → (e.reached ≢ 0 → 7 + put_left e < m) → left (reach_to e) base < m
reach_to_less e base m first next =
    below_if (e.reached == 0) (going_on (Reach (target e) e.entry.first) e) (going_on (Reach 0 e.index.next) e) base m
    (λ t. reaching_less (target e) e.entry.first e base m (first (let z : e.reached ≡ 0 = grind (arith, nat_tests) in z)))
    (λ t. reaching_less 0 e.index.next e base m (next (not_zero e.reached t)))
  where
    not_zero : (k : ℕ) → (k == 0) ≡ false → k ≢ 0
    not_zero k t z = absurd (let h : nat_eq k 0 ≡ true = grind (arith, nat_tests) in false≢true (sym t ∙ h))

-- no more bytes are put
end_put_less : (e : Files) (base : List ℕ) (m : ℕ) → 4 < m → left (end_put e) base < m
end_put_less e base m h =
    below_if (e.counters.done == 0) (answered (negsuc 0) e) (record e { phase = Wants EntryRead }) base m (λ _. omega (arith, h)) (λ _. h)

-- goes on with the bytes that are left
pub next_put_less : (e : Files) (base : List ℕ) (m : ℕ) → 4 < m → (e.counters.done < e.counters.total → 6 + put_left e < m)
    → (e.counters.done < e.counters.total → e.reached ≢ target e + 1 → left (reach_to e) base < m) → left (next_put e) base < m
next_put_less e base m four put reach =
    below_if (nat_le e.counters.total e.counters.done) (end_put e) (if at_end e then appending e else in_place e) base m
    (λ _. end_put_less e base m four)
    (λ t. more (let l : e.counters.done < e.counters.total = grind (arith, nat_tests) in l))
  where
    other : (k n : ℕ) → (k == n) ≡ false → k ≢ n
    other k n t z = absurd (let h : nat_eq k n ≡ true = grind (arith, nat_tests) in false≢true (sym t ∙ h))

    more : e.counters.done < e.counters.total → left (if at_end e then appending e else in_place e) base < m
    more l =
        let full = (e.header.free_data == null) || ((at_byte e % 8192 == 0) && (e.header.free_index == null)) in
        let at_it = e.reached == target e + 1 in
        let room = put l in
        below_if (at_end e) (appending e) (in_place e) base m
        (λ _. below_if full (end_put e) (if (at_byte e == 0) || at_it then going_on (TakeRead e.header.free_data) e else reach_to e) base m
        (λ _. end_put_less e base m four)
        (λ _. below_if ((at_byte e == 0) || at_it) (going_on (TakeRead e.header.free_data) e) (reach_to e) base m
        (λ _. below_if (nat_lt e.header.free_data e.blocks) (record e { phase = Wants (TakeRead e.header.free_data) }) (answered (negsuc 0) e) base m
        (λ _. room) (λ _. omega (arith, four)))
        (λ t. reach l (other e.reached (target e + 1) (or_parts (at_byte e == 0) at_it t).1))))
        (λ _. below_if at_it (going_on (PatchRead (slice_index e.index.blocks (at_byte e / 512 % 16))) e) (reach_to e) base m
        (λ _. below_if (nat_lt (slice_index e.index.blocks (at_byte e / 512 % 16)) e.blocks)
        (record e { phase = Wants (PatchRead (slice_index e.index.blocks (at_byte e / 512 % 16))) }) (answered (negsuc 0) e) base m
        (λ _. omega (arith, room)) (λ _. omega (arith, four)))
        (λ t. reach l (other e.reached (target e + 1) t)))

-- a piece is put, at an index block
pub put_on_less : (e x : Files) (base : List ℕ) (m : ℕ) → at_byte e ≡ e.counters.position + e.counters.done → e.counters.done < e.counters.total → e.counters.total ≤ 1048576
    → x.counters.position ≡ e.counters.position → x.counters.total ≡ e.counters.total → x.counters.done ≡ (e.counters.done + piece e) % 4294967296 → x.reached ≢ 0 → put_left e < m
    → left (next_put x) base < m
put_on_less e x base m at more most p t d r h =
    next_put_less x base m (omega (arith, h)) (λ l. (let f = fewer l in omega (arith, f, h)))
    (λ l _. reach_to_less x base m (λ z. absurd (r z)) (λ _. (let f = fewer l in omega (arith, f, h))))
  where
    fewer : x.counters.done < x.counters.total → put_left x + 7 ≤ put_left e
    fewer l =
        let s = stepped e.counters.position e.counters.done e.counters.total (at_byte e) x.counters.done at more most d (omega (arith, l, t)) in
        let on = s.0 in let row = s.1 in
        omega (arith, on, row, p, t, l, at)

-- Cutting.

-- goes on to an index block
cut_at_less : (e : Files) (base : List ℕ) (m : ℕ) → cut_left (entry_at base e.slot).size e.reached (16 * e.reached) < m
    → left (going_on CutRead e) base < m
cut_at_less e base m h =
    below_if (nat_lt (6 + e.at / 7) e.blocks) (record e { phase = Wants CutRead }) (answered (negsuc 0) e) base m (λ _. h) (λ _. omega (arith, h))

-- all blocks are free
end_cut_less : (e : Files) (base : List ℕ) (m : ℕ) → 4 < m → left (end_cut e) base < m
end_cut_less e base m h =
    below_if (is_delete e.call) (record e {
      entry = record e.entry { name = replicate 28 0 };
      header = record e.header { files = (e.header.files + 4294967295) % 4294967296 };
      phase = Wants EntryRead;
    }) (record e { phase = Wants EntryRead }) base m (λ _. h) (λ _. h)

-- goes on to the next data block, or the next index block, or the end
pub free_next_less : (e : Files) (base : List ℕ) (m : ℕ) → 4 < m
    → cut_left (entry_at base e.slot).size e.reached (16 * (e.reached - 1) + e.freed) < m
    → cut_left (entry_at base e.slot).size e.reached (16 * e.reached) < m
    → left (free_next e) base < m
free_next_less e base m four freed index =
    let b = slice_index e.index.blocks (e.freed % 16) in
    below_if (nat_lt e.freed 16 && not (b == null)) (freeing b e)
    (if not (e.index.next == null) then going_on CutRead (record e { at = e.index.next }) else end_cut e) base m
    (λ _. below_if (nat_lt b e.blocks) (record e { block = word_block e.header.free_data; phase = Wants (FreeWrite b) })
    (answered (negsuc 0) (record e { block = word_block e.header.free_data }))
    base m (λ _. freed) (λ _. omega (arith, four)))
    (λ _. below_if (not (e.index.next == null)) (going_on CutRead (record e { at = e.index.next })) (end_cut e) base m
    (λ _. cut_at_less (record e { at = e.index.next }) base m index) (λ _. end_cut_less e base m four))

-- the file in hand is to be cut
pub cutting_less : (entry : Entry) (e : Files) (base : List ℕ) (m : ℕ) → cut_left (entry_at base e.slot).size 0 0 < m
    → left (cutting entry e) base < m
cutting_less entry e base m h =
    let c : Files = record e { at = entry.first; reached = 0; freed = 0; entry = record entry { size = 0; first = null } } in
    below_if (entry.size == 0) (end_cut c) (going_on CutRead c) base m (λ _. end_cut_less c base m (omega (arith, h))) (λ _. cut_at_less c base m h)

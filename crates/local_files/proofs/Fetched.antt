-- A data block of the file that is read was read.
use Rattle.std.proofs.Common.{◌≡◌, ◌≢◌, ℕ, suc, ◌+◌, ◌/◌, ◌<◌, ◌≤◌, true, nat_le, List, [], ◌∷◌, length, map, refl, sym, ap, ◌∙◌, subst, arith, slice_set, Option, Some, pos, if◌then◌else◌, slice_index, ◌%◌, take, length-take, ◌++◌, ◌==◌}
use Rattle.std.proofs.lemmas.Bool.{false≢true}
use Rattle.std.proofs.lemmas.Bool.Decides.{nat_tests}
use Rattle.lfs_format.specs.declared.Entry.{Entry}
use Rattle.lfs_check.specs.Rules.{entry_is_used, block_in}
use Rattle.lfs_check.specs.Disks.{entry_at}
use Rattle.lfs_layout.specs.Files.{bare_name}
use Rattle.xinu_model.specs.Files.Systems.{FileEffect}
use Rattle.file_laws.specs.StoredFiles.{entry_bytes, entry_chain, entry_data}
use Rattle.file_laws.proofs.Named.{bytes_sized}
use Rattle.file_laws.proofs.Counted.{entry_small}
use Rattle.local_files.specs.declared.OpenFile.{OpenFile}
use Rattle.local_files.specs.declared.Files.{Files}
use Rattle.local_files.specs.declared.FileCall.{FileCall}
use Rattle.local_files.specs.declared.FileCall.TheVariants.{Open, Delete, Close, Read, Write, Getc, Putc, Seek, Truncate, Size}
use Rattle.local_files.specs.Hands.{system, IsOpenOn, seen, put_bytes, IsReading, IsFetching, read_count}
use Rattle.local_files.specs.Steps.{device_at, answered, with_device, shown, at_byte, device_of, piece, or_none, named_device, moved_to}
use Rattle.local_files.specs.Wanted.{going_on}
use Rattle.local_files.specs.Standing.{Stands, GoesTo, call_bytes, given_bytes, IsStanding}
use Rattle.local_files.proofs.Devices.{shown_set, shown_at}
use Rattle.xinu_model.specs.Files.Systems as systems
use Rattle.file_laws.proofs.Effects.{read_effect, getc_effect}
use Rattle.xinu_model.specs.Files.Writing.{overwritten}
use Rattle.std.proofs.Common.{◌-◌, drop, length-drop, min}
use Rattle.lfs_format.specs.declared.Index.{Index}
use Rattle.lfs_check.specs.Meets.{null}
use Rattle.lfs_check.specs.Laid.{index_for}
use Rattle.lfs_check.proofs.KeepsAll.{either-way}
use Rattle.file_laws.specs.Changing.{IsReadBy}
use Rattle.local_files.proofs.Freeing.{some_at, goes_from}
use Rattle.std.proofs.lemmas.List.{take_at, drop_at, drop-drop}
use Rattle.local_files.specs.Takes.{with_taken, fetched, next_fetch, finished_read, finished_at, given_all}
use Rattle.file_laws.proofs.ReadBlocks.{bytes_in_block}
use Rattle.file_laws.proofs.Patched.{block_long}
use Rattle.file_laws.proofs.Fitting.{length_overwritten}
use Rattle.local_files.proofs.Ends.{counted_small}
use Rattle.local_files.proofs.Taking.{open_of, reading_file, where_is, walking_goes, fetching_goes, block_of, take_add, first_of, first_taken, take_min, no_bytes, moved_stands}
use Rattle.local_files.proofs.Standing.{at_base, with_buffer, in_hand}
use Rattle.local_files.specs.declared.Phase.TheVariants.{Done, Wants}
use Rattle.local_files.specs.declared.Purpose.TheVariants.{Walk, Fetch}

-- A data block was read.
pub fetched_goes : (e e' : Files) (b : ℕ) (base disk read : List ℕ) → e.phase ≡ Wants (Fetch b) → length read ≡ 512 → e' ≡ fetched read e
    → Stands e base disk → read ≡ block_in disk b → GoesTo e'.phase e.call (call_bytes e) e e' base disk
fetched_goes e e' b base disk read phase wide new s honest =
    let P : Files → Type 0 = λ x. GoesTo x.phase e.call (call_bytes e) e x base disk in
    let D : List ℕ → Type 0 = λ y. GoesTo (fetched read e).phase e.call (call_bytes e) e (fetched read e) base y in
    subst P (sym new) (subst D (sym w.same) (either-way (nat_le e2.counters.total e2.counters.done)
    (λ v. nat_le e2.counters.total e2.counters.done ≡ v → G (if v then finished_read (named_device e2.call) e2 else next_fetch e2))
    (λ _ t. (let end : e2.counters.total ≤ e2.counters.done = grind (arith, nat_tests) in
    finished e2.call refl (let d = done_is in let l = r.left in let y = k_is in omega (arith, end, d, l, y))))
    (λ _ t. (let more : e2.counters.done < e2.counters.total = grind (arith, nat_tests) in goes_on more))
    refl))
  where
    G : Files → Type 0
    G x = GoesTo x.phase e.call (call_bytes e) e x base base

    w : IsFetching e b base disk
    w = in_hand phase s

    r : IsReading e base
    r = w.reading

    st : IsStanding e base base
    st = at_base s.standing

    o : IsOpenOn base r.file
    o = open_of base (device_at e (device_of e.call)) r.file r.open_is (s.device (device_of e.call))

    entry : Entry
    entry = r.file.entry

    chain : List ℕ
    chain = entry_chain base entry

    data_list : List ℕ
    data_list = entry_data base entry

    f : IsReadBy e.blocks base entry chain data_list
    f = reading_file e base st r

    pos_is : ℕ
    pos_is = r.file.position

    q : ℕ
    q = pos_is + e.counters.done

    at_is : at_byte e ≡ q
    at_is = where_is e base st r

    k : ℕ
    k = piece e

    k_is : k ≡ min (512 - q % 512) (e.counters.total - e.counters.done)
    k_is = ap (λ x. min (512 - x % 512) (e.counters.total - e.counters.done)) at_is

    e2 : Files
    e2 = with_taken read e

    total_small : e.counters.total ≤ 1048576
    total_small = let t = r.total in let n = r.few in omega (arith, t, n)

    done_is : e2.counters.done ≡ e.counters.done + k
    done_is = let l = r.left in let t = total_small in let y = k_is in omega (arith, l, t, y)

    inside : q / 512 < length data_list
    inside = let t = r.total in let l = r.left in let v = r.within in let bl = f.blocks_long in omega (arith, t, l, v, bl)

    block_is : read ≡ block_in base (slice_index data_list (q / 512))
    block_is = honest ∙ ap (λ x. block_in x b) w.same ∙ ap (block_in base) w.here

    wide_at : (j : ℕ) → j < length data_list → length (block_in base (slice_index data_list j)) ≡ 512
    wide_at j h = block_long e.blocks base (slice_index data_list j) s.blocks (f.block j h).1

    part : List ℕ
    part = take k (drop (at_byte e % 512) read)

    ahead : take k (drop q (entry_bytes base entry)) ≡ part
    ahead = let t = r.total in let l = r.left in let v = r.within in let y = k_is in
        bytes_in_block (block_in base) data_list entry.size q k wide_at inside (omega (arith, y)) (omega (arith, y, t, l, v))
        ∙ ap (λ x. take k (drop (q % 512) x)) (sym block_is) ∙ ap (λ x. take k (drop (x % 512) read)) (sym at_is)

    part_long : length part ≡ k
    part_long = let t = length-take k (drop (at_byte e % 512) read) in let d = length-drop (at_byte e % 512) read in let y = k_is in
        let a = at_is in omega (arith, t, d, wide, y, a)

    buffer_is : e2.buffer ≡ overwritten e.counters.done part e.buffer
    buffer_is = let l = r.left in let t = total_small in let y = k_is in let p = part_long in
        let on : nat_le (e.counters.done + length part) 1048576 ≡ true =
        (let z : e.counters.done + length part ≤ 1048576 = omega (arith, p, l, t, y) in grind (arith, nat_tests)) in
        ap (λ v. if v then overwritten e.counters.done part e.buffer else e.buffer) on

    buffer_long : length e2.buffer ≡ 1048576
    buffer_long = let l = r.left in let t = total_small in let y = k_is in let p = part_long in let bl = s.buffer in
        ap length buffer_is ∙ length_overwritten e.counters.done part e.buffer (omega (arith, l, t, bl)) ∙ (omega (arith, p, l, t, y, bl))

    taken : take e2.counters.done e2.buffer ≡ take e2.counters.done (drop pos_is (entry_bytes base entry))
    taken =
        let l = r.left in let t = total_small in let bl = s.buffer in
        let front : length (take e.counters.done e.buffer) ≡ e.counters.done = (let x = length-take e.counters.done e.buffer in omega (arith, x, bl, l, t)) in
        let row = take e.counters.done e.buffer ++ (part ++ drop (e.counters.done + length part) e.buffer) in
        let one : take (e.counters.done + k) row ≡ take e.counters.done e.buffer ++ part =
        take_add e.counters.done k row ∙ ap (λ x. x ++ take k (drop e.counters.done row))
        (take_at (take e.counters.done e.buffer) (part ++ drop (e.counters.done + length part) e.buffer) e.counters.done front)
        ∙ ap (λ x. take e.counters.done e.buffer ++ take k x)
        (drop_at (take e.counters.done e.buffer) (part ++ drop (e.counters.done + length part) e.buffer) e.counters.done front)
        ∙ ap (λ x. take e.counters.done e.buffer ++ x) (take_at part (drop (e.counters.done + length part) e.buffer) k part_long) in
        let two : take (e.counters.done + k) (drop pos_is (entry_bytes base entry)) ≡ take e.counters.done (drop pos_is (entry_bytes base entry)) ++ part =
        take_add e.counters.done k (drop pos_is (entry_bytes base entry))
        ∙ ap (λ x. take e.counters.done (drop pos_is (entry_bytes base entry)) ++ take k x) (drop-drop e.counters.done pos_is (entry_bytes base entry))
        ∙ ap (λ x. take e.counters.done (drop pos_is (entry_bytes base entry)) ++ x) ahead in
        ap (λ n. take n e2.buffer) done_is ∙ ap (take (e.counters.done + k)) buffer_is ∙ one ∙ ap (λ x. x ++ part) r.taken ∙ sym two
        ∙ ap (λ n. take n (drop pos_is (entry_bytes base entry))) (sym done_is)

    st2 : IsStanding e2 base base
    st2 = with_buffer (at_base s.standing) buffer_long

    at2 : at_byte e2 ≡ pos_is + e2.counters.done
    at2 = let t = r.total in let l = r.left in let v = r.within in let y = k_is in let d = done_is in let p = r.position in let z = small in
        omega (arith, t, l, v, y, d, p, z)
      where
        small : entry.size ≤ 33557504
        small = let P : Entry → Type 0 = λ x. x.size ≤ 33557504 in
            subst P o.entry (entry_small base s.clean r.file.slot o.slot (ap entry_is_used o.entry ∙ o.used))

    goes_on : e2.counters.done < e2.counters.total → G (next_fetch e2)
    goes_on more =
        let r2 : IsReading e2 base = record {
          some = r.some;
          few = r.few;
          file = r.file;
          open_is = r.open_is;
          reads = r.reads;
          position = r.position;
          within = r.within;
          total = r.total;
          left = more;
          taken = taken;
        } in
        let q2 = pos_is + e2.counters.done in
        let y = k_is in let d = done_is in let l = r.left in
        let bound : q2 % 512 ≡ 0 = omega (arith, y, d, l, more) in
        let cl = f.chain_long in let bl = f.blocks_long in let t = r.total in let v = r.within in
        either-way (at_byte e2 % 8192 == 0) (λ v. (at_byte e2 % 8192 == 0) ≡ v
        → G (if v then going_on (Walk 0 e.index.next) e2 else going_on (Fetch (slice_index e.index.blocks (at_byte e2 / 512 % 16))) e2))
        (λ _ z. (let whole : at_byte e2 % 8192 ≡ 0 = grind (arith, nat_tests) in
        let a = at2 in
        let up : suc (q / 8192) ≡ q2 / 8192 = omega (arith, y, d, l, more, whole, a) in
        let lt : q2 / 8192 < length chain = omega (arith, more, t, v, cl) in
        let next : e.index.next ≡ slice_index chain (q2 / 8192 - 0) = ap (λ (x : Index). x.next) w.index
        ∙ some_at chain (suc (q / 8192)) null (omega (arith, up, lt)) ∙ ap (slice_index chain) (omega (arith, up)) in
        let x = going_on (Walk 0 e.index.next) e2 in
        goes_from x.phase e.call (call_bytes e) e2 e x base base refl
        (subst (B2 x) bytes_same (walking_goes e2 0 e.index.next base st2 r2 (omega arith) next))))
        (λ _ z. (let part_way : at_byte e2 % 8192 ≢ 0 = (λ u. false≢true (sym z ∙ zero_is (at_byte e2 % 8192) u)) in
        let a = at2 in
        let same : q / 8192 ≡ q2 / 8192 = omega (arith, y, d, l, more, part_way, a, bound) in
        let lt : q2 / 512 < length data_list = omega (arith, more, t, v, bl) in
        let index2 : e2.index ≡ index_for (q2 / 8192) chain data_list = w.index ∙ ap (λ j. index_for j chain data_list) same in
        let here : slice_index e.index.blocks (at_byte e2 / 512 % 16) ≡ slice_index data_list (q2 / 512) =
        ap (λ j. slice_index e.index.blocks (j / 512 % 16)) a ∙ block_of e2 base q2 chain data_list index2 lt in
        let x = going_on (Fetch (slice_index e.index.blocks (at_byte e2 / 512 % 16))) e2 in
        goes_from x.phase e.call (call_bytes e) e2 e x base base refl
        (subst (B2 x) bytes_same (fetching_goes e2 (slice_index e.index.blocks (at_byte e2 / 512 % 16)) base st2 r2 index2 here))))
        refl
      where
        B2 : Files → List ℕ → Type 0
        B2 x bs = GoesTo x.phase e.call bs e2 x base base

        bytes_same : call_bytes e2 ≡ call_bytes e
        bytes_same = no_bytes e.call (put_bytes e2) r.some ∙ sym (no_bytes e.call (put_bytes e) r.some)

        zero_is : (n : ℕ) → n ≡ 0 → (n == 0) ≡ true
        zero_is n u = ap (λ k. k == 0) u

    -- the device that is read
    held : (d : ℕ) (c : FileCall) → e.call ≡ c → named_device c ≡ Some d → device_at e d ≡ Some r.file
    held d c is n = ap (λ j. device_at e (or_none j)) (sym n) ∙ ap (λ x. device_at e (device_of x)) (sym is) ∙ r.open_is

    slot_is : entry_at base r.file.slot ≡ entry
    slot_is = o.entry

    bytes_are : entry_bytes base (entry_at base r.file.slot) ≡ entry_bytes base entry
    bytes_are = ap (entry_bytes base) slot_is

    sized : length (entry_bytes base entry) ≡ entry.size
    sized = let P : Entry → Type 0 = λ x. length (entry_bytes base x) ≡ x.size in
        subst P slot_is (bytes_sized base s.clean r.file.slot o.slot (ap entry_is_used slot_is ∙ o.used))

    seen_at : (d : ℕ) → device_at e d ≡ Some r.file → systems.open_at (system e base) d ≡ Some (seen r.file)
    seen_at d at = shown_at e.devices d ∙ ap shown at

    end_in : q + k ≤ entry.size
    end_in = let t = r.total in let y = k_is in let v = r.within in let l = r.left in omega (arith, t, y, v, l)

    -- the reply and the bytes
    finished : (c : FileCall) → e.call ≡ c → e.counters.done + k ≡ e.counters.total
        → GoesTo (finished_read (named_device c) (record e2 {
          call =
              c;
        })).phase c (given_bytes c (put_bytes e)) e (finished_read (named_device c) (record e2 { call = c })) base base
    finished (Read d n) is end =
        let at = held d (Read d n) is refl in
        let e3 : Files = record e2 { call = Read d n } in
        let s3 : IsStanding e3 base base = with_buffer (at_base s.standing) buffer_long in
        let count : read_count e.call ≡ n = ap read_count is in
        let total : e.counters.total ≡ min n (entry.size - pos_is) = r.total ∙ ap (λ x. min x (entry.size - pos_is)) count in
        let ahead_bytes = drop pos_is (entry_bytes base entry) in
        let ahead_long : length ahead_bytes ≡ entry.size - pos_is = length-drop pos_is (entry_bytes base entry)
        ∙ ap (λ x. x - pos_is) sized in
        let whole : take n ahead_bytes ≡ take e.counters.total ahead_bytes = ap (λ x. take x ahead_bytes) refl ∙ take_min n ahead_bytes
        ∙ ap (λ x. take (min n x) ahead_bytes) ahead_long ∙ ap (λ x. take x ahead_bytes) (sym total) in
        let many : e.counters.total ≡ length (take n (drop pos_is (entry_bytes base (entry_at base r.file.slot)))) =
        (let t = length-take e.counters.total ahead_bytes in let z : length (take e.counters.total ahead_bytes) ≡ e.counters.total =
        omega (arith, t, ahead_long, total) in sym z) ∙ ap length (sym whole) ∙ ap (λ b. length (take n (drop pos_is b))) (sym bytes_are) in
        let some = r.some in
        let effect = read_effect base [] d n r.file.slot e.counters.total (seen r.file) (system e base) s.clean o.slot (ap entry_is_used slot_is
        ∙ o.used) (seen_at d at) r.reads refl (ap (λ (x : Entry). bare_name x.name) (sym slot_is))
        (omega (arith, some, count)) (let v = r.within in let z = ap (λ (x : Entry). x.size) slot_is in omega (arith, v, z)) many in
        let given : take n (drop pos_is (entry_bytes base (entry_at base r.file.slot))) ≡ take e.counters.total e2.buffer =
        ap (λ b. take n (drop pos_is b)) bytes_are ∙ whole ∙ ap (λ x. take x ahead_bytes) (sym end ∙ sym done_is) ∙ sym taken
        ∙ ap (λ x. take x e2.buffer) (done_is ∙ end) in
        let pos_end : at_byte e2 ≡ q + k = at2 ∙ ap (λ x. pos_is + x) done_is ∙ (omega arith) in
        let g : OpenFile = record r.file { position = q + k } in
        let new_is : finished_at d e3 ≡ record (with_device d (Some g) e3) { phase = Done (pos e.counters.total); counters = record e2.counters { given = e.counters.total } } =
        ap (λ x. given_all (moved_to x d (at_byte e2) e3)) at
        ∙ ap (λ x. given_all (with_device d (Some (let y : OpenFile = record r.file { position = x } in y)) e3)) pos_end
        ∙ ap (λ z. (let y : Files = record (with_device d (Some g) e3) { phase = Done z; counters = record e2.counters { given = e.counters.total } } in
        y)) (counted_small e.counters.total total_small) in
        let result : List ℕ → List (Option systems.OpenFile) → FileEffect = λ b ds.
        record { system = record (system e base) { devices = ds }; reply = pos e.counters.total; bytes = b } in
        let x : ℕ → systems.OpenFile = λ p. record (seen r.file) { position = p } in
        let m = moved_stands e3 base d (q + k) r.file s3 o at end_in in
        let P : Files → Type 0 = λ y. GoesTo y.phase (Read d n) [] e y base base in
        subst P (sym new_is) (
          effect ∙ ap (λ b. result b (slice_set (map shown e.devices) d (Some (x (pos_is + e.counters.total))))) given
              ∙ ap (λ p. result (take e.counters.total e2.buffer) (slice_set (map shown e.devices) d (Some (x p)))) (let z : pos_is + e.counters.total ≡ q + k =
              omega (arith, end) in z) ∙ ap (result (take e.counters.total e2.buffer)) (sym (shown_set e.devices d (Some g))),
          record {
            standing = at_base m.standing;
            hand = refl;
          },
        )
    finished (Getc d) is end =
        let at = held d (Getc d) is refl in
        let e3 : Files = record e2 { call = Getc d } in
        let s3 : IsStanding e3 base base = with_buffer (at_base s.standing) buffer_long in
        let count : read_count e.call ≡ 1 = ap read_count is in
        let v = r.within in
        let total : e.counters.total ≡ 1 = r.total ∙ ap (λ x. min x (entry.size - pos_is)) count ∙ (omega (arith, v)) in
        let byte = slice_index e2.buffer 0 in
        let first : take 1 (drop pos_is (entry_bytes base entry)) ≡ byte ∷ [] =
        ap (λ x. take x (drop pos_is (entry_bytes base entry))) (sym total ∙ sym end ∙ sym done_is) ∙ sym taken
        ∙ ap (λ x. take x e2.buffer) (done_is ∙ end ∙ total)
        ∙ first_of (take 1 e2.buffer) (let t = length-take 1 e2.buffer in let l = buffer_long in omega (arith, t, l))
        ∙ ap (λ x. x ∷ []) (first_taken e2.buffer 1 (omega arith)) in
        let effect = getc_effect base [] d r.file.slot byte (seen r.file) (system e base) s.clean o.slot (ap entry_is_used slot_is
        ∙ o.used) (seen_at d at) r.reads refl (ap (λ (x : Entry). bare_name x.name) (sym slot_is))
        (ap (λ b. take 1 (drop pos_is b)) bytes_are ∙ first) in
        let pos_end : at_byte e2 ≡ q + k = at2 ∙ ap (λ x. pos_is + x) done_is ∙ (omega arith) in
        let g : OpenFile = record r.file { position = q + k } in
        let new_is : finished_at d e3 ≡ answered (pos byte) (with_device d (Some g) e3) =
        ap (λ x. given_all (moved_to x d (at_byte e2) e3)) at
        ∙ ap (λ x. given_all (with_device d (Some (let y : OpenFile = record r.file { position = x } in y)) e3)) pos_end in
        let result : List (Option systems.OpenFile) → FileEffect = λ ds.
        record { system = record (system e base) { devices = ds }; reply = pos byte; bytes = [] } in
        let x : ℕ → systems.OpenFile = λ p. record (seen r.file) { position = p } in
        let m = moved_stands e3 base d (q + k) r.file s3 o at end_in in
        let P : Files → Type 0 = λ y. GoesTo y.phase (Getc d) [] e y base base in
        subst P (sym new_is) (
          effect ∙ ap (λ p. result (slice_set (map shown e.devices) d (Some (x p)))) (let z : pos_is + 1 ≡ q + k =
              omega (arith, end, total) in z) ∙ ap result (sym (shown_set e.devices d (Some g))),
          record {
            standing = at_base m.standing;
            hand = refl;
          },
        )
    finished (Open a b) is end = absurd (let x = r.some in let y = ap read_count is in omega (arith, x, y))
    finished (Delete a) is end = absurd (let x = r.some in let y = ap read_count is in omega (arith, x, y))
    finished (Close a) is end = absurd (let x = r.some in let y = ap read_count is in omega (arith, x, y))
    finished (Write a) is end = absurd (let x = r.some in let y = ap read_count is in omega (arith, x, y))
    finished (Putc a b) is end = absurd (let x = r.some in let y = ap read_count is in omega (arith, x, y))
    finished (Seek a b) is end = absurd (let x = r.some in let y = ap read_count is in omega (arith, x, y))
    finished (Truncate a) is end = absurd (let x = r.some in let y = ap read_count is in omega (arith, x, y))
    finished (Size a) is end = absurd (let x = r.some in let y = ap read_count is in omega (arith, x, y))

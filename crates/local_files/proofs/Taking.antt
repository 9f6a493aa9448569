-- `read` and `getc`: what they find, block by block.
use Rattle.std.proofs.Common.{◌≡◌, ℕ, zero, suc, ◌+◌, ◌*◌, ◌/◌, ◌<◌, ◌≤◌, Bool, true, cond, List, [], ◌∷◌, length, refl, sym, ap, ◌∙◌, subst, arith, slice_index_or, Option, Some, negsuc, if◌then◌else◌, slice_index, ◌%◌, take, nat_lt, ◌++◌, ◌-◌, drop, min, pos, ⊎_elim}
use Rattle.std.proofs.lemmas.Bool.Decides.{nat_tests}
use Rattle.lfs_format.specs.declared.Entry.{Entry}
use Rattle.lfs_check.specs.Rules.{entry_is_used, block_in}
use Rattle.lfs_check.proofs.Images.{image_blocks}
use Rattle.lfs_check.specs.Disks.{entry_at, entries, disk_geometry, header_on}
use Rattle.lfs_layout.specs.Images.{IsCleanImage}
use Rattle.file_laws.specs.StoredFiles.{entry_bytes, entry_chain, entry_data}
use Rattle.file_laws.proofs.Named.{length_entries}
use Rattle.file_laws.proofs.Counted.{entry_small}
use Rattle.local_files.specs.declared.OpenFile.{OpenFile}
use Rattle.local_files.specs.declared.Files.{Files}
use Rattle.local_files.specs.Hands.{IsDevice, IsOpenOn, IsReading, IsWalking, read_count, AreApart}
use Rattle.local_files.specs.Steps.{device_at, answered, at_byte, device_of, with_device}
use Rattle.local_files.specs.Wanted.{going_on}
use Rattle.local_files.specs.Standing.{Stands, GoesTo, call_bytes, given_bytes, IsStanding}
use Rattle.lfs_format.specs.Directory.{void_entry}
use Rattle.lfs_format.specs.declared.Index.{Index}
use Rattle.lfs_format.specs.Indexes.{index_at}
use Rattle.lfs_check.specs.Meets.{null}
use Rattle.lfs_check.specs.Laid.{numbers_at, index_for}
use Rattle.lfs_check.specs.Clean.{places_of, chain_in, data_in}
use Rattle.lfs_check.specs.Fields.{fields_of}
use Rattle.file_laws.specs.Changing.{IsReadBy}
use Rattle.file_laws.proofs.Middles.{middle_begins}
use Rattle.file_laws.proofs.Reached.{middle_read}
use Rattle.local_files.proofs.Freeing.{number_at, some_at, goes_from}
use Rattle.std.proofs.lemmas.List.{get_or-map, take_all}
use Rattle.local_files.proofs.CutSteps.{index_on_disk}
use Rattle.lfs_check.proofs.Directories.{geometry_is}
use Rattle.local_files.specs.Takes.{walked}
use Rattle.std.proofs.lemmas.Bool.{cases_lt}
use Rattle.local_files.specs.declared.FileCall.{FileCall}
use Rattle.local_files.specs.declared.FileCall.TheVariants.{Open, Delete, Close, Read, Write, Getc, Putc, Seek, Truncate, Size}
use Rattle.local_files.proofs.Devices.{set_stands, some_below, apart_moved}
use Rattle.local_files.proofs.Standing.{at_base, in_hand}
use Rattle.local_files.specs.declared.Phase.TheVariants.{Wants}
use Rattle.local_files.specs.declared.Purpose.TheVariants.{Walk, Fetch}

-- a file that a device has open is read off the disk
pub open_read : (base : List ℕ) (f : OpenFile) → IsCleanImage base → IsOpenOn base f
    → IsReadBy (length base / 512) base f.entry (entry_chain base f.entry) (entry_data base f.entry)
unfolding entries
open_read base f c o =
    let n = length base / 512 in let g = disk_geometry n in let d = fields_of g base in let p = places_of g d in
    let e = entry_at base f.slot in
    let m = middle_begins base f.slot c o.slot (ap entry_is_used o.entry ∙ o.used) in
    let r = middle_read n base base (header_on base) f.slot e p (entry_bytes base e) m in
    let len = (length_entries base c).0 in let below = o.slot in
    let inside : f.slot < length (entries base) = omega (arith, len, below) in
    let chain : numbers_at p.chains f.slot ≡ entry_chain base e =
    get_or-map (chain_in g d.indexes) (entries base) f.slot void_entry [] inside
    ∙ ap (λ x. chain_in x (fields_of x base).indexes e) (sym (geometry_is base c.version)) in
    let datas : numbers_at p.datas f.slot ≡ entry_data base e = get_or-map (data_in g d.indexes) (entries base) f.slot void_entry [] inside
    ∙ ap (λ x. data_in x (fields_of x base).indexes e) (sym (geometry_is base c.version)) in
    let A : List ℕ → Type 0 = λ xs. IsReadBy n base e xs (numbers_at p.datas f.slot) in
    let B : List ℕ → Type 0 = λ ys. IsReadBy n base e (entry_chain base e) ys in
    let C : Entry → Type 0 = λ x. IsReadBy n base x (entry_chain base x) (entry_data base x) in
    subst C o.entry (subst B datas (subst A chain r))

-- what a device has open is on the disk
pub open_of : (base : List ℕ) (x : Option OpenFile) (f : OpenFile) → x ≡ Some f → IsDevice base x → IsOpenOn base f
open_of base x f is h = let P : Option OpenFile → Type 0 = λ y. IsDevice base y in subst P is h

-- the file that is read
pub reading_file : (e : Files) (base : List ℕ) → IsStanding e base base → (r : IsReading e base)
    → IsReadBy e.blocks base r.file.entry (entry_chain base r.file.entry) (entry_data base r.file.entry)
reading_file e base s r =
    let o = open_of base (device_at e (device_of e.call)) r.file r.open_is (s.device (device_of e.call)) in
    let b = s.blocks in
    let P : ℕ → Type 0 = λ n. IsReadBy n base r.file.entry (entry_chain base r.file.entry) (entry_data base r.file.entry) in
    subst P (let q : length base / 512 ≡ e.blocks = omega (arith, b) in q) (open_read base r.file s.clean o)

-- where the read is in the file
pub where_is : (e : Files) (base : List ℕ) → IsStanding e base base → (r : IsReading e base) → at_byte e ≡ r.file.position + e.counters.done
where_is e base s r =
    let o = open_of base (device_at e (device_of e.call)) r.file r.open_is (s.device (device_of e.call)) in
    let small : r.file.entry.size ≤ 33557504 = (let P : Entry → Type 0 = λ x. x.size ≤ 33557504 in
    subst P o.entry (entry_small base s.clean r.file.slot o.slot (ap entry_is_used o.entry ∙ o.used))) in
    let p = r.position in let t = r.total in let l = r.left in let w = r.within in omega (arith, small, p, t, l, w)

-- there are at least 14 blocks
pub blocks_low : (e : Files) (base : List ℕ) → IsStanding e base base → 14 ≤ e.blocks
blocks_low e base s =
    let size = image_blocks base s.clean.faultless in let n = length base / 512 in
    let low : 14 ≤ n = (let P : Bool → Type 0 = λ b. cond b 14 8 ≤ n in subst P s.clean.version size.0) in let b = s.blocks in
    omega (arith, low, b)

-- Goes on to an index block.
pub walking_goes : (e : Files) (rest at : ℕ) (base : List ℕ) → IsStanding e base base → (r : IsReading e base)
    → rest ≤ (r.file.position + e.counters.done) / 8192
    → at ≡ slice_index (entry_chain base r.file.entry) ((r.file.position + e.counters.done) / 8192 - rest)
    → GoesTo (going_on (Walk rest at) e).phase e.call (call_bytes e) e (going_on (Walk rest at) e) base base
walking_goes e rest at base s r few here =
    let f = reading_file e base s r in let low = (blocks_low e base s) in
    let t = r.total in let l = r.left in let w = r.within in let cl = f.chain_long in
    let below = (f.index ((r.file.position + e.counters.done) / 8192 - rest) (omega (arith, t, l, w, cl))).below in
    let on : nat_lt (6 + at / 7) e.blocks ≡ true = ap (λ k. nat_lt (6 + k / 7) e.blocks) here ∙ index_on_disk e.blocks _ low below in
    let e2 : Files = record e { phase = Wants (Walk rest at) } in
    let P : Bool → Type 0 = λ v. GoesTo (if v then e2 else answered (negsuc 0) e).phase e.call (call_bytes e) e
    (if v then e2 else answered (negsuc 0) e) base base in
    subst P (sym on) (
      record {
        standing = s;
        hand = record { same = refl; reading = r; few = few; here = here };
      },
      refl,
      refl,
      refl,
    )

-- Goes on to a data block.
pub fetching_goes : (e : Files) (b : ℕ) (base : List ℕ) → IsStanding e base base → (r : IsReading e base)
    → e.index ≡ index_for ((r.file.position + e.counters.done) / 8192) (entry_chain base r.file.entry) (entry_data base r.file.entry)
    → b ≡ slice_index (entry_data base r.file.entry) ((r.file.position + e.counters.done) / 512)
    → GoesTo (going_on (Fetch b) e).phase e.call (call_bytes e) e (going_on (Fetch b) e) base base
fetching_goes e b base s r index here =
    let f = reading_file e base s r in
    let t = r.total in let l = r.left in let w = r.within in let bl = f.blocks_long in
    let high = (f.block ((r.file.position + e.counters.done) / 512) (omega (arith, t, l, w, bl))).1 in
    let on : nat_lt b e.blocks ≡ true = (let q : b < e.blocks = omega (arith, here, high) in grind (arith, nat_tests)) in
    let e2 : Files = record e { phase = Wants (Fetch b) } in
    let P : Bool → Type 0 = λ v. GoesTo (if v then e2 else answered (negsuc 0) e).phase e.call (call_bytes e) e
    (if v then e2 else answered (negsuc 0) e) base base in
    subst P (sym on) (
      record {
        standing = s;
        hand = record {
          same = refl;
          reading = r;
          index = index;
          here = here;
        };
      },
      refl,
      refl,
      refl,
    )

-- the number of the data block of the position
pub block_of : (e : Files) (base : List ℕ) (q : ℕ) (chain blocks : List ℕ) → e.index ≡ index_for (q / 8192) chain blocks
    → q / 512 < length blocks → slice_index e.index.blocks (q / 512 % 16) ≡ slice_index blocks (q / 512)
block_of e base q chain blocks index h =
    ap (λ (x : Index). slice_index x.blocks (q / 512 % 16)) index
    ∙ number_at (q / 8192) (q / 512 % 16) chain blocks (omega arith) (omega (arith, h))
    ∙ ap (slice_index blocks) (let z : 16 * (q / 8192) + q / 512 % 16 ≡ q / 512 = omega arith in z)

-- An index block was read.
pub walked_goes : (e e' : Files) (rest at : ℕ) (base disk read : List ℕ) → e.phase ≡ Wants (Walk rest at)
    → e' ≡ walked rest (index_at (at % 7) read) e → Stands e base disk → read ≡ block_in disk (6 + at / 7)
    → GoesTo e'.phase e.call (call_bytes e) e e' base disk
walked_goes e e' rest at base disk read phase new s honest =
    let P : Files → Type 0 = λ x. GoesTo x.phase e.call (call_bytes e) e x base disk in
    let D : List ℕ → Type 0 = λ y. GoesTo (walked rest (index_at (at % 7) read) e).phase e.call (call_bytes e) e
    (walked rest (index_at (at % 7) read) e) base y in
    subst P (sym new) (subst D (sym w.same) (by_rest rest refl))
  where
    w : IsWalking e rest at base disk
    w = in_hand phase s

    r : IsReading e base
    r = w.reading

    st : IsStanding e base base
    st = at_base s.standing

    f : IsReadBy e.blocks base r.file.entry (entry_chain base r.file.entry) (entry_data base r.file.entry)
    f = reading_file e base st r

    q : ℕ
    q = r.file.position + e.counters.done

    inside : q / 8192 < length (entry_chain base r.file.entry)
    inside = let t = r.total in let l = r.left in let v = r.within in let cl = f.chain_long in omega (arith, t, l, v, cl)

    index_is : index_at (at % 7) read ≡ index_for (q / 8192 - rest) (entry_chain base r.file.entry) (entry_data base r.file.entry)
    index_is = let lt = inside in ap (index_at (at % 7)) (honest ∙ ap (λ x. block_in x (6 + at / 7)) w.same)
        ∙ ap (λ k. index_at (k % 7) (block_in base (6 + k / 7))) w.here ∙ (f.index (q / 8192 - rest) (omega (arith, lt))).read

    e2 : Files
    e2 = record e { index = index_at (at % 7) read }

    st2 : IsStanding e2 base base
    st2 = at_base s.standing

    r2 : IsReading e2 base
    r2 = r

    by_rest : (k : ℕ) → rest ≡ k → GoesTo (walked k (index_at (at % 7) read) e).phase e.call (call_bytes e) e
        (walked k (index_at (at % 7) read) e) base base
    by_rest zero z =
        let t = r.total in let l = r.left in let v = r.within in let bl = f.blocks_long in
        let lt : q / 512 < length (entry_data base r.file.entry) = omega (arith, t, l, v, bl) in
        let index0 : e2.index ≡ index_for (q / 8192) (entry_chain base r.file.entry) (entry_data base r.file.entry) = index_is
        ∙ ap (λ k. index_for k (entry_chain base r.file.entry) (entry_data base r.file.entry)) (let y : q / 8192 - rest ≡ q / 8192 =
        omega (arith, z) in y) in
        let at_is = where_is e base st r in
        let here : slice_index e2.index.blocks (at_byte e / 512 % 16) ≡ slice_index (entry_data base r.file.entry) (q / 512) =
        ap (λ k. slice_index e2.index.blocks (k / 512 % 16)) at_is
        ∙ block_of e2 base q (entry_chain base r.file.entry) (entry_data base r.file.entry) index0 lt in
        let x = going_on (Fetch (slice_index e2.index.blocks (at_byte e / 512 % 16))) e2 in
        goes_from x.phase e.call (call_bytes e) e2 e x base base refl
        (fetching_goes e2 (slice_index e2.index.blocks (at_byte e / 512 % 16)) base st2 r2 index0 here)
    by_rest (suc k) z =
        let lt = inside in let few = w.few in
        let next : (index_at (at % 7) read).next ≡ slice_index (entry_chain base r.file.entry) (q / 8192 - k) =
        ap (λ (x : Index). x.next) index_is
        ∙ ap (λ j. slice_index_or (entry_chain base r.file.entry) j null) (let y : suc (q / 8192 - rest) ≡ q / 8192 - k =
        omega (arith, z, few) in y) ∙ some_at (entry_chain base r.file.entry) (q / 8192 - k) null (omega (arith, lt)) in
        let x = going_on (Walk k (index_at (at % 7) read).next) e2 in
        goes_from x.phase e.call (call_bytes e) e2 e x base base refl
        (walking_goes e2 k (index_at (at % 7) read).next base st2 r2 (omega (arith, z, few)) next)

-- bytes after bytes
pub take_add : (m n : ℕ) (xs : List ℕ) → take (m + n) xs ≡ take m xs ++ take n (drop m xs)
take_add zero n xs = ap (λ k. take k xs) (let e : 0 + n ≡ n = omega arith in e)
take_add (suc m) n [] = ap (λ k. take {A = ℕ} k []) (let e : suc m + n ≡ suc (m + n) = omega arith in e) ∙ sym (none n)
  where
    none : (k : ℕ) → take {A = ℕ} k [] ≡ []
    none zero = refl
    none (suc k) = refl
take_add (suc m) n (x ∷ xs) = ap (λ k. take k (x ∷ xs)) (let e : suc m + n ≡ suc (m + n) = omega arith in e)
    ∙ ap (λ t. x ∷ t) (take_add m n xs)

-- the first of some bytes
pub first_of : (xs : List ℕ) → length xs ≡ 1 → xs ≡ slice_index xs 0 ∷ []
first_of [] l = absurd (omega (arith, l))
first_of (x ∷ []) l = refl
first_of (x ∷ y ∷ xs) l = absurd (omega (arith, l))

-- the first byte of those that are taken
pub first_taken : (xs : List ℕ) (n : ℕ) → 0 < n → slice_index (take n xs) 0 ≡ slice_index xs 0
first_taken xs zero h = absurd (omega (arith, h))
first_taken [] (suc n) h = refl
first_taken (x ∷ xs) (suc n) h = refl

-- more bytes than there are
pub take_min : (n : ℕ) (xs : List ℕ) → take n xs ≡ take (min n (length xs)) xs
take_min n xs = ⊎_elim
    (λ (lt : n < length xs). ap (λ m. take m xs) (let e : n ≡ min n (length xs) = omega (arith, lt) in e))
    (λ (ge : length xs ≤ n). take_all n xs ge ∙ sym (take_all (min n (length xs)) xs (omega (arith, ge))))
    (cases_lt n (length xs))

-- a read has no bytes to put
pub no_bytes : (c : FileCall) (x : List ℕ) → 0 < read_count c → given_bytes c x ≡ []
no_bytes (Open n m) x h = refl
no_bytes (Delete n) x h = refl
no_bytes (Close d) x h = refl
no_bytes (Read d n) x h = refl
no_bytes (Write d) x h = absurd (omega (arith, h))
no_bytes (Getc d) x h = refl
no_bytes (Putc d b) x h = refl
no_bytes (Seek d n) x h = refl
no_bytes (Truncate d) x h = refl
no_bytes (Size d) x h = refl

-- Bytes are read: the position of the device moves.
pub moved_stands : (e : Files) (base : List ℕ) (d to : ℕ) (f : OpenFile) → IsStanding e base base → IsOpenOn base f → device_at e d ≡ Some f → to ≤ f.entry.size
    → Stands (answered (pos 0) (with_device d (Some (let g : OpenFile = record f { position = to } in g)) e)) base base
moved_stands e base d to f s o at inside =
    let g : OpenFile = record f { position = to } in
    let six = s.six in
    let e4 : Files = answered (pos 0) e in
    let s4 : Stands e4 base base = record { standing = s; hand = refl } in
    let below : d < 6 = (let l = some_below e.devices d f at in omega (arith, l, six)) in
    set_stands (pos 0) e4 base d (Some g) s4 below (record { slot = o.slot; entry = o.entry; used = o.used; position = inside })
    (λ c ne. apart_moved (device_at e c) f g refl (let Q : Option OpenFile → Type 0 = λ x. AreApart (device_at e c) x in subst Q at (s.apart c d ne))
    (let Q : Option OpenFile → Type 0 = λ x. AreApart x (device_at e c) in subst Q at (s.apart d c (λ z. ne (sym z)))))

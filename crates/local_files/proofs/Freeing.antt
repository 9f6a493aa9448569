-- The blocks of a file that is cut are freed.
use Rattle.std.proofs.Common.{◌≡◌, ℕ, zero, suc, ◌+◌, ◌*◌, ◌/◌, ◌<◌, ◌≤◌, Bool, true, cond, List, [], ◌∷◌, length, refl, sym, ap, ◌∙◌, subst, arith, slice_index_or, slice_index, ◌%◌, get_or-set_same, take, ◌++◌, count_by}
use Rattle.std.proofs.Common.{if◌then◌else◌, false}
use Rattle.std.proofs.lemmas.Bool.{false≢true}
use Rattle.lfs_format.specs.declared.Entry.{Entry}
use Rattle.lfs_check.specs.Rules.{entry_is_used}
use Rattle.lfs_check.specs.Disks.{block_put, entry_at, entries}
use Rattle.lfs_layout.specs.Files.{bare_name}
use Rattle.xinu_model.specs.Files.Stored.{without_file}
use Rattle.xinu_model.specs.Files.Systems.{is_open}
use Rattle.file_laws.specs.StoredFiles.{stored_files}
use Rattle.file_laws.proofs.Named.{length_entries}
use Rattle.file_laws.proofs.Counted.{count_most}
use Rattle.local_files.specs.declared.Files.{Files}
use Rattle.local_files.specs.declared.FileCall.{FileCall}
use Rattle.local_files.specs.declared.FileCall.TheVariants.{Open, Delete, Close, Read, Write, Getc, Putc, Seek, Truncate, Size}
use Rattle.local_files.specs.declared.Phase.{Phase}
use Rattle.local_files.specs.Hands.{system, IsMade, IsCall, IsEntryBlock, IsHeaderBlock, name_of, put_bytes, name_in_hand, but_blocks}
use Rattle.local_files.specs.Steps.{device_at, device_of}
use Rattle.local_files.specs.Standing.{GoesTo, call_bytes, given_bytes, IsStanding}
use Rattle.local_files.specs.Standing as engine
use Rattle.xinu_model.specs.Files.Calls as model
use Rattle.lfs_format.specs.Directory.{void_entry}
use Rattle.std.proofs.Common.{◌*◌, drop, replicate, length-drop}
use Rattle.lfs_check.specs.Meets.{null}
use Rattle.lfs_check.specs.declared.fields.Header.{Header}
use Rattle.lfs_check.specs.Laid.{index_for}
use Rattle.lfs_check.specs.Disks.{header_on}
use Rattle.file_laws.specs.Middle.{IsMiddle}
use Rattle.file_laws.specs.Rewriting.{IsRewriting, rewritten}
use Rattle.file_laws.proofs.Cutting.{cut_ends}
use Rattle.file_laws.proofs.Finished.{middle_ends}
use Rattle.file_laws.proofs.Removed.{middle_removed}
use Rattle.file_laws.proofs.Resting.{middle_holds, ending_holds}
use Rattle.file_laws.proofs.Counted.{base_counted}
use Rattle.local_files.specs.Hands.{IsCutFor, IsCutting}
use Rattle.local_files.specs.Cuts.{end_cut}
use Rattle.std.proofs.lemmas.List.Sums.{sum_by-cons}
use Rattle.file_laws.proofs.Rewritten.{rewritten_entry, entry_count}
use Rattle.local_files.specs.declared.Phase.TheVariants.{Idle, Done, Wants}
use Rattle.local_files.specs.declared.Purpose.TheVariants.{EntryRead}

-- an element of an index block's numbers
pub number_at : (j i : ℕ) (chain blocks : List ℕ) → i < 16 → 16 * j + i < length blocks
    → slice_index (index_for j chain blocks).blocks i ≡ slice_index blocks (16 * j + i)
number_at j i chain blocks h b =
    get_front16 (drop (16 * j) blocks ++ replicate 16 null) 16 i h
    ∙ get_front (drop (16 * j) blocks) (replicate 16 null) i (omega (arith, length-drop (16 * j) blocks, b)) ∙ get_after blocks (16 * j) i
  where
    get_front16 : (xs : List ℕ) (n k : ℕ) → k < n → slice_index (take n xs) k ≡ slice_index xs k
    get_front16 xs zero k h = absurd (omega (arith, h))
    get_front16 [] (suc n) k h = refl
    get_front16 (x ∷ xs) (suc n) zero h = refl
    get_front16 (x ∷ xs) (suc n) (suc k) h = get_front16 xs n k (omega (arith, h))

    get_front : (xs ys : List ℕ) (k : ℕ) → k < length xs → slice_index (xs ++ ys) k ≡ slice_index xs k
    get_front [] ys k h = absurd (omega (arith, h))
    get_front (x ∷ xs) ys zero h = refl
    get_front (x ∷ xs) ys (suc k) h = get_front xs ys k (omega (arith, h))

    get_after : (xs : List ℕ) (a k : ℕ) → slice_index (drop a xs) k ≡ slice_index xs (a + k)
    get_after xs zero k = ap (slice_index xs) (let e : k ≡ 0 + k = omega arith in e)
    get_after [] (suc a) k = refl
    get_after (x ∷ xs) (suc a) k = get_after xs a k ∙ ap (slice_index (x ∷ xs)) (let e : suc (a + k) ≡ suc a + k = omega arith in e)

-- the numbers after the last are null
pub null_at : (j i : ℕ) (chain blocks : List ℕ) → i < 16 → length blocks ≤ 16 * j + i
    → slice_index (index_for j chain blocks).blocks i ≡ null
null_at j i chain blocks h b = at_null (drop (16 * j) blocks) 16 16 i h (omega (arith, h)) (omega (arith, length-drop (16 * j) blocks, b))
  where
    nulls : (m n k : ℕ) → k < n → k < m → slice_index (take n (replicate m null)) k ≡ null
    nulls zero n k a b = absurd (omega (arith, b))
    nulls (suc m) zero k a b = absurd (omega (arith, a))
    nulls (suc m) (suc n) zero a b = refl
    nulls (suc m) (suc n) (suc k) a b = nulls m n k (omega (arith, a)) (omega (arith, b))

    at_null : (xs : List ℕ) (m n k : ℕ) → k < n → k < m + length xs → length xs ≤ k → slice_index (take n (xs ++ replicate m null)) k ≡ null
    at_null [] m n k a b c = nulls m n k a (omega (arith, b))
    at_null (x ∷ xs) m zero k a b c = absurd (omega (arith, a))
    at_null (x ∷ xs) m (suc n) zero a b c = absurd (omega (arith, c))
    at_null (x ∷ xs) m (suc n) (suc k) a b c = at_null xs m n k (omega (arith, a)) (omega (arith, b)) (omega (arith, c))

-- an element that there is
pub some_at : (xs : List ℕ) (j d : ℕ) → j < length xs → slice_index_or xs j d ≡ slice_index xs j
some_at [] j d h = absurd (omega (arith, h))
some_at (x ∷ xs) zero d h = refl
some_at (x ∷ xs) (suc j) d h = some_at xs j d (omega (arith, h))

-- no element is there
pub none_at : (xs : List ℕ) (j d : ℕ) → length xs ≤ j → slice_index_or xs j d ≡ d
none_at [] j d h = refl
none_at (x ∷ xs) zero d h = absurd (omega (arith, h))
none_at (x ∷ xs) (suc j) d h = none_at xs j d (omega (arith, h))

-- there are used entries
count_some : (test : Entry → Bool) (es : List Entry) (k : ℕ) → k < length es → test (slice_index_or es k void_entry) ≡ true
    → 1 ≤ count_by test es
count_some test [] k h t = absurd (omega (arith, h))
count_some test (e ∷ es) zero h t = let c = sum_by-cons (λ x. cond (test x) 1 0) e es in
    let o : ◌≡◌ {A = ℕ} (cond (test e) 1 0) 1 = ap (λ v. cond v 1 0) t in omega (arith, c, o)
count_some test (e ∷ es) (suc k) h t = let i = count_some test es k (omega (arith, h)) t in
    let c = sum_by-cons (λ x. cond (test x) 1 0) e es in omega (arith, c, i)

-- the entry that the directory has then
entry_then : (disk : List ℕ) (n slot : ℕ) (entry : Entry) (header : Header) (eb hb : List ℕ) → IsRewriting disk n slot entry header eb hb
    → entry_at (rewritten disk slot eb hb) slot ≡ entry
entry_then disk n slot entry header eb hb r =
    let s = r.slot_is in let l = entry_count disk n r.long r.room in
    rewritten_entry disk n slot entry header eb hb r slot s ∙ get_or-set_same (entries disk) slot entry void_entry (omega (arith, s, l))

-- the file in hand is that of its slot
pub busy_slot : (e : Files) (base : List ℕ) (rests : List ℕ → Bool) → entry_is_used (entry_at base e.slot) ≡ true
    → rests (bare_name (name_in_hand e base)) ≡ false → rests (bare_name (entry_at base e.slot).name) ≡ false
busy_slot e base rests used busy =
    sym (ap (λ v. rests (bare_name (if v then (entry_at base e.slot).name else e.entry.name))) used) ∙ busy

-- All blocks are free: the directory is to be written.
pub end_cut_goes : (e : Files) (freed : ℕ) (base disk : List ℕ) → IsStanding e base disk → (c : IsCutting e freed base disk)
    → length c.chain ≤ e.reached → length c.blocks ≤ freed
    → GoesTo (end_cut e).phase e.call (call_bytes e) e (end_cut e) base disk
end_cut_goes e freed base disk s c all_index all_data = by_call e.call refl c.for
  where
    n : ℕ
    n = e.blocks

    none : (c.places.held_index ≡ []) × (c.places.held_data ≡ [])
    none = cut_ends n base disk e.header e.slot e.entry c.places c.chain c.blocks e.reached freed c.cut all_index all_data

    by_call : (k : FileCall) → e.call ≡ k → IsCutFor k (but_blocks e) base
        → GoesTo (end_cut (record e { call = k })).phase k (given_bytes k (put_bytes e)) e (end_cut (record e { call = k })) base disk
    by_call (Truncate d) is h =
        let e2 : Files = record e { phase = Wants EntryRead; call = Truncate d } in
        let m = c.cut.middle in
        let low = m.low in let size = c.size in
        let made : (eb hb : List ℕ) → IsEntryBlock e2 disk eb → IsHeaderBlock e2 (block_put disk (e.slot / 13) eb) hb
        → IsMade (but_blocks e2) base (block_put (block_put disk (e.slot / 13) eb) 0 hb) = λ eb hb ee hh. (
        let r : IsRewriting disk n e.slot e.entry e.header eb hb =
        record { long = m.long; room = omega (arith, low); slot_is = m.slot_is; entry_block = ee; header_block = hh } in
        let f = middle_ends n base disk e.header e.slot e.entry c.places [] eb hb m none.0 none.1 c.files (omega (arith, size)) r in
        record { clean = f.clean; size = f.size; files = f.files; entry = f.entry_is; others = f.others }) in (
          record {
            standing = s;
            hand = record {
              ending = record {
                file = h.file;
                open_is = ap (λ k. device_at e (device_of k)) (sym is)
                    ∙ h.open_is;
                writes = h.writes;
                slot = h.slot;
                named = h.named;
              };
              slot = m.slot_is;
              made = made;
              held = λ rests busy. middle_holds n base disk e.header e.slot e.entry c.places [] rests m (busy_slot e2 base rests m.was_used busy);
              next = λ eb ee rests busy.
                  ending_holds n base disk e.header e.slot e.entry e.entry c.places [] eb rests m ee (busy_slot e2 base rests m.was_used busy) (λ _.
                  ap (λ x. rests (bare_name x)) m.named ∙ busy_slot e2 base rests m.was_used busy);
            };
          },
          refl,
          refl,
          refl,
        )
    by_call (Delete name) is h =
        let e2 : Files = end_cut (record e { call = Delete name }) in
        let m = c.cut.middle in
        let low = m.low in
        let count = (length_entries base s.clean).0 in let counted_is = base_counted base s.clean in
        let most = count_most entry_is_used (entries base) in
        let below = h.slot in
        let some = count_some entry_is_used (entries base) e.slot (omega (arith, below, count)) h.used in
        let files = c.files in
        let less : e2.header.files + 1 ≡ (header_on base).files = omega (arith, counted_is, most, some, files, count) in
        let named : (entry_at base e.slot).name ≡ name = h.named ∙ ap name_of is in
        let made : (eb hb : List ℕ) → IsEntryBlock e2 disk eb → IsHeaderBlock e2 (block_put disk (e.slot / 13) eb) hb
        → IsMade (but_blocks e2) base (block_put (block_put disk (e.slot / 13) eb) 0 hb) = λ eb hb ee hh. (
        let r : IsRewriting disk n e.slot e2.entry e2.header eb hb =
        record { long = m.long; room = omega (arith, low); slot_is = m.slot_is; entry_block = ee; header_block = hh } in
        let f = middle_removed n base disk e2.header e.slot e.entry e2.entry c.places [] eb hb (with_files m) (record {
          size = c.size;
          first = c.first;
          unused = refl;
        }) c.cut.no_chain c.cut.no_blocks none.0 none.1 less r in
        record {
          clean = f.clean;
          size = f.size;
          files = f.files ∙ ap (λ x. without_file (bare_name x) (stored_files base)) named;
          entry = entry_then disk n e.slot e2.entry e2.header eb hb r;
          others = f.others;
        }) in (
          record {
            standing = s;
            hand = record {
              ending = record {
                slot = h.slot;
                call = subst IsCall is h.call;
                closed = ap (λ k. is_open (bare_name (name_of k)) (system e base)) (sym is) ∙ h.closed;
                used = h.used;
                named = named;
              };
              slot = m.slot_is;
              made = made;
              held = λ rests busy. middle_holds n base disk e.header e.slot e.entry c.places [] rests m (busy_slot e2 base rests m.was_used busy);
              next = λ eb ee rests busy.
                  ending_holds n base disk e.header e.slot e.entry e2.entry c.places [] eb rests m ee
                  (busy_slot e2 base rests m.was_used busy) (λ z. absurd (false≢true z));
            };
          },
          refl,
          refl,
          refl,
        )
      where
        with_files : IsMiddle n base disk e.header e.slot e.entry c.places []
            → IsMiddle n base disk (let x : Header = record e.header { files = (e.header.files + 4294967295) % 4294967296 } in
            x) e.slot e.entry c.places []
        with_files m = record {
          from = m.from;
          long = m.long;
          directory = m.directory;
          laid = record {
            chains = m.laid.chains;
            datas = m.laid.datas;
            file = λ k q u. (let l = m.laid.file k q u in record { indexes = l.indexes; datas = l.datas; first = l.first; each = l.each });
            no_file = m.laid.no_file;
            free_index = m.laid.free_index;
            free_data = m.laid.free_data;
            one_index = m.laid.one_index;
            one_data = m.laid.one_data;
          };
          named = m.named;
          others = m.others;
          mine = m.mine;
        }
    by_call (Open name mode) is h = absurd h
    by_call (Close d) is h = absurd h
    by_call (Read d k) is h = absurd h
    by_call (Write d) is h = absurd h
    by_call (Getc d) is h = absurd h
    by_call (Putc d b) is h = absurd h
    by_call (Seek d k) is h = absurd h
    by_call (Size d) is h = absurd h

-- of the engine before, what goes on sees only the file system
pub goes_from : (p : Phase) (call : FileCall) (bytes : List ℕ) (old old' new : Files) (base disk : List ℕ)
    → system old base ≡ system old' base → GoesTo p call bytes old new base disk → GoesTo p call bytes old' new base disk
goes_from Idle call bytes old old' new base disk same g = g
goes_from (Done r) call bytes old old' new base disk same g =
    (ap (λ x. model.file_effect (engine.call_of call bytes) bytes x) (sym same) ∙ g.0, g.1)
goes_from (Wants purpose) call bytes old old' new base disk same g = (g.0, g.1, g.2, g.3 ∙ same)

-- A file grows: its last index block gets a number.
use Rattle.std.proofs.Common.{◌≡◌, ◌≢◌, ℕ, zero, suc, ◌+◌, ◌*◌, ◌/◌, ◌<◌, ◌≤◌, true, List, [], ◌∷◌, length, refl, sym, ap, ◌∙◌, subst, arith, slice_index_or, slice_set, slice_index, ◌%◌, get_or-set_same, get_or-set_other, length-set, ⊎_elim, take, length-take, ◌++◌, length-append, replicate}
use Rattle.std.proofs.lemmas.Bool.{cases_eq, cases_lt}
use Rattle.lfs_format.specs.declared.Entry.{Entry}
use Rattle.lfs_check.specs.Rules.{block_in}
use Rattle.lfs_check.specs.Disks.{block_put, entry_at, entries}
use Rattle.file_laws.specs.StoredFiles.{entry_bytes}
use Rattle.local_files.specs.declared.Files.{Files}
use Rattle.local_files.specs.Hands.{put_bytes}
use Rattle.local_files.specs.Putting.{IsPutting, IsAt, IsAddWrite}
use Rattle.local_files.specs.Steps.{at_byte, piece, with_index}
use Rattle.local_files.specs.Standing.{Stands, GoesTo, call_bytes, IsStanding}
use Rattle.local_files.proofs.Closings.{put_whole}
use Rattle.xinu_model.specs.Files.Writing.{overwritten}
use Rattle.std.proofs.Common.{◌-◌, ◌*◌, drop, replicate, length-append}
use Rattle.lfs_format.specs.declared.Index.{Index}
use Rattle.lfs_format.specs.Indexes.{IsIndexPut}
use Rattle.lfs_check.specs.Meets.{null}
use Rattle.lfs_check.specs.declared.fields.Header.{Header}
use Rattle.lfs_check.specs.Laid.{Places, numbers_at, index_for}
use Rattle.file_laws.specs.Middle.{IsMiddle}
use Rattle.file_laws.specs.Changing.{IsReadBy}
use Rattle.file_laws.proofs.Reached.{middle_read}
use Rattle.local_files.proofs.Closings.{put_whole}
use Rattle.file_laws.proofs.Rewritten.{entry_count}
use Rattle.local_files.proofs.Freeing.{number_at, null_at}
use Rattle.std.proofs.lemmas.List.{length-replicate, take_all, drop_all, append-nil}
use Rattle.file_laws.proofs.Patched.{middle_sized, middle_appended}
use Rattle.local_files.specs.Puts.{at_end, next_put, put_done, added_index}
use Rattle.local_files.proofs.Putting.{where_put}
use Rattle.local_files.proofs.PutSteps.{ends_is, target_end}
use Rattle.local_files.proofs.Pieces.{piece_is, piece_bytes, after_goes, piece_more, done_long, low_old}
use Rattle.local_files.specs.declared.Phase.TheVariants.{Wants}
use Rattle.local_files.specs.declared.Purpose.TheVariants.{AddWrite}
use Rattle.local_files.proofs.Standing.{in_hand}

-- lists that are the same at each place
same_at : (xs ys : List ℕ) → length xs ≡ length ys → ((k : ℕ) → k < length xs → slice_index xs k ≡ slice_index ys k) → xs ≡ ys
same_at [] [] l e = refl
same_at [] (y ∷ ys) l e = absurd (omega (arith, l))
same_at (x ∷ xs) [] l e = absurd (omega (arith, l))
same_at (x ∷ xs) (y ∷ ys) l e = ap (λ h. h ∷ xs) (e 0 (omega arith))
    ∙ ap (λ t. y ∷ t) (same_at xs ys (omega (arith, l)) (λ k h. e (suc k) (omega (arith, h))))

-- an index block has sixteen numbers
sixteen : (j : ℕ) (chain blocks : List ℕ) → length (index_for j chain blocks).blocks ≡ 16
sixteen j chain blocks =
    let t = length-take 16 (drop (16 * j) blocks ++ replicate 16 null) in
    let a = length-append (drop (16 * j) blocks) (replicate 16 null) in let r = length-replicate {A = ℕ} 16 null in omega (arith, t, a, r)

-- an element of joined lists
pub append_at : (xs : List ℕ) (b k : ℕ) → k < length xs → slice_index (xs ++ b ∷ []) k ≡ slice_index xs k
append_at [] b k h = absurd (omega (arith, h))
append_at (x ∷ xs) b zero h = refl
append_at (x ∷ xs) b (suc k) h = append_at xs b k (omega (arith, h))

-- the last element of joined lists
pub append_last : (xs : List ℕ) (b k : ℕ) → k ≡ length xs → slice_index (xs ++ b ∷ []) k ≡ b
append_last [] b zero h = refl
append_last [] b (suc k) h = absurd (omega (arith, h))
append_last (x ∷ xs) b zero h = absurd (omega (arith, h))
append_last (x ∷ xs) b (suc k) h = append_last xs b k (omega (arith, h))

-- an index block with one number more
index_added : (j i b : ℕ) (chain blocks : List ℕ) → i < 16 → 16 * j + i ≡ length blocks
    → slice_set (index_for j chain blocks).blocks i b ≡ (index_for j chain (blocks ++ b ∷ [])).blocks
index_added j i b chain blocks h at =
    let xs = (index_for j chain blocks).blocks in let more = blocks ++ b ∷ [] in
    let l = length-append blocks (b ∷ []) in
    let sx = sixteen j chain blocks in let sy = sixteen j chain more in
    let ls = length-set xs i b in
    same_at (slice_set xs i b) (index_for j chain more).blocks (ls ∙ sx ∙ sym sy) (λ k lt. ⊎_elim
    (λ (q : k ≡ i). (ap (slice_index (slice_set xs i b)) q ∙ get_or-set_same xs i b 0 (omega (arith, sx, h))
    ∙ sym (append_last blocks b (16 * j + i) at) ∙ sym (number_at j i chain more h (omega (arith, l, at)))
    ∙ ap (slice_index (index_for j chain more).blocks) (sym q)))
    (λ (q : k ≢ i). (get_or-set_other xs i k b 0 q ∙ ⊎_elim
    (λ (before : k < i). (number_at j k chain blocks (omega (arith, before, h)) (omega (arith, before, at))
    ∙ sym (append_at blocks b (16 * j + k) (omega (arith, before, at)))
    ∙ sym (number_at j k chain more (omega (arith, before, h)) (omega (arith, before, at, l)))))
    (λ (after : i ≤ k). (null_at j k chain blocks (omega (arith, lt, ls, sx)) (omega (arith, after, at))
    ∙ sym (null_at j k chain more (omega (arith, lt, ls, sx)) (omega (arith, after, at, l, q)))))
    (cases_lt k i)))
    (cases_eq k i))

-- bytes after the end
appended_is : (xs new : List ℕ) → xs ++ new ≡ overwritten (length xs) new xs
appended_is xs new = ap (λ x. xs ++ x) (sym (append-nil new))
    ∙ ap (λ x. xs ++ (new ++ x)) (sym (drop_all (length xs + length new) xs (omega arith)))
    ∙ ap (λ x. x ++ (new ++ drop (length xs + length new) xs)) (sym (take_all (length xs) xs (omega arith)))

-- the file ends where the call is
pub record IsGrowing (e : Files) (base disk : List ℕ) (p : Places) : Type 0 where
  pub size : e.entry.size ≡ e.counters.position + e.counters.done
  pub whole : e.entry.size % 512 ≡ 0
  pub at : at_byte e ≡ e.entry.size
  pub read : IsReadBy e.blocks disk e.entry (numbers_at p.chains e.slot) (numbers_at p.datas e.slot)
  pub long : length (overwritten e.counters.position (take e.counters.done (put_bytes e)) (entry_bytes base (entry_at base e.slot))) ≡ e.entry.size
  pub grown : (put_done e).entry.size ≡ e.entry.size + piece e
  pub more : overwritten e.counters.position (take e.counters.done (put_bytes e)) (entry_bytes base (entry_at base e.slot)) ++ piece_bytes e
      ≡ overwritten e.counters.position (take (e.counters.done + piece e) (put_bytes e)) (entry_bytes base (entry_at base e.slot))

-- a call that is at the end of its file
pub growing : (e : Files) (base disk : List ℕ) (p : Places) → IsStanding e base disk → (u : IsPutting e base disk p) → e.counters.done < e.counters.total
    → at_end e ≡ true → IsGrowing e base disk p
growing e base disk p s u left ends =
    let a = ends_is e ends in let q = where_put e base disk p s u in
    let old = entry_bytes base (entry_at base e.slot) in
    let bytes = overwritten e.counters.position (take e.counters.done (put_bytes e)) old in
    let f = piece_is e base disk p s u left in
    let size : e.entry.size ≡ e.counters.position + e.counters.done = sym a.0 ∙ q in
    let long = middle_sized e.blocks base disk e.header e.slot e.entry p bytes u.middle in
    let g = f.size in
    record {
      size = size;
      whole = ap (λ k. k % 512) (sym a.0)
          ∙ a.1;
      at = a.0;
      read = middle_read e.blocks base disk e.header e.slot e.entry p bytes u.middle;
      long = long;
      grown = omega (arith, g, size);
      more = appended_is bytes (piece_bytes e) ∙ ap (λ k. overwritten k (piece_bytes e) bytes) (long ∙ size)
          ∙ piece_more e (e.counters.position + e.counters.done) old f (done_long e base disk p s u) refl (low_old e base disk p s u);
    }

-- the slot has its lists
pub slot_lists : (n : ℕ) (base disk : List ℕ) (header : Header) (slot : ℕ) (entry : Entry) (p : Places) (bytes : List ℕ)
    → IsMiddle n base disk header slot entry p bytes → (slot < length p.chains) × (slot < length p.datas)
slot_lists n base disk header slot entry p bytes m =
    let low = m.low in let s = m.slot_is in let c = m.laid.chains in let d = m.laid.datas in
    let count = entry_count disk n m.long (omega (arith, low)) in let t = length-set (entries disk) slot entry in
    (omega (arith, count, s, t, c), omega (arith, count, s, t, d))

-- The number is written.
pub add_written_goes : (e e' : Files) (b : ℕ) (base disk : List ℕ) → e.phase ≡ Wants (AddWrite b)
    → e' ≡ next_put (put_done (with_index (added_index b e) e)) → Stands e base disk
    → GoesTo e'.phase e.call (call_bytes e) e e' base (block_put disk (6 + e.at / 7) e.block)
add_written_goes e e' b base disk phase new s =
    let h : IsAddWrite e b base disk = in_hand phase s in
    let k = h.filled.taken in let p = k.places in let u = k.putting in
    let st = s.standing in
    let g = growing e base disk p st u k.left k.ends in
    let f = piece_is e base disk p st u k.left in
    let chain = numbers_at p.chains e.slot in let blocks = numbers_at p.datas e.slot in
    let bytes = overwritten e.counters.position (take e.counters.done (put_bytes e)) (entry_bytes base (entry_at base e.slot)) in
    let made = block_put disk (6 + e.at / 7) e.block in
    let room = h.room in let size = g.size in let whole = g.whole in let at = g.at in let cl = g.read.chain_long in
    let bl = g.read.blocks_long in
    let some : 0 < at_byte e = omega (arith, room) in
    let t_is = target_end e k.ends some in let reached = k.reached some in
    let j = e.reached - 1 in
    let last : suc j ≡ length chain = omega (arith, reached, t_is, at, cl, some) in
    let at_is : e.at ≡ slice_index chain j = k.cursor.at (omega (arith, reached)) in
    let index_is : e.index ≡ index_for j chain blocks = k.cursor.index (omega (arith, reached)) in
    let i = at_byte e / 512 % 16 in
    let full : e.entry.size ≡ 512 * length blocks = omega (arith, bl, whole) in
    let place : 16 * j + i ≡ length blocks = omega (arith, full, at, room, reached, t_is, some) in
    let added : added_index b e ≡ index_for j chain (blocks ++ b ∷ []) =
    ap (λ (x : Index). let y : Index = record x { blocks = slice_set x.blocks i b } in y) index_is
    ∙ ap (λ ns. let y : Index = record { next = slice_index_or chain (suc j) null; offset = 8192 * j; blocks = ns } in
    y) (index_added j i b chain blocks (omega arith) place) in
    let R : ℕ → Index → Type 0 = λ a x. IsIndexPut (block_in disk (6 + a / 7)) (a % 7) x e.block in
    let A : ℕ → Type 0 = λ a. R a (added_index b e) in let B : Index → Type 0 = λ x. R (slice_index chain j) x in
    let long = f.long in let fits = f.fits in let psome = f.some in let grown = g.grown in
    let p2 : Places = record p { datas = slice_set p.datas e.slot (blocks ++ b ∷ []); held_data = [] } in
    let middle = middle_appended e.blocks base disk e.header e.slot e.entry (put_done e).entry p bytes
    (piece_bytes e) j b [] e.block u.middle k.held full (ap (λ x. take x (block_in disk b)) long
    ∙ h.filled.filled) (omega (arith, long, psome)) (omega (arith, long, fits))
    last (omega (arith, full, at, room, cl, some)) refl refl (omega (arith, grown, long)) (subst B added (subst A at_is h.put)) in
    let D : ℕ → Type 0 = λ a. IsMiddle e.blocks base (block_put disk (6 + a / 7) e.block) e.header e.slot (put_done e).entry p2
    (bytes ++ piece_bytes e) in
    let C : List ℕ → Type 0 = λ x. IsMiddle e.blocks base made e.header e.slot (put_done e).entry p2 x in
    let middle2 = subst C g.more (subst D (sym at_is) middle) in
    let x : Files = with_index (added_index b e) e in
    let lists = slot_lists e.blocks base disk e.header e.slot e.entry p bytes u.middle in
    let datas2 : numbers_at p2.datas e.slot ≡ blocks ++ b ∷ [] = get_or-set_same p.datas e.slot (blocks ++ b ∷ []) [] lists.1 in
    let below = (g.read.index j (omega (arith, last))).below in let low = u.middle.low in
    let on : 6 + e.at / 7 < e.blocks = omega (arith, at_is, below, low) in
    let cursor : IsAt (put_done x) p2 = record {
      below = k.cursor.below;
      at = k.cursor.at;
      index = λ _. added
          ∙ ap (index_for j chain) (sym datas2);
    } in
    let P : Files → Type 0 = λ y. GoesTo y.phase e.call (call_bytes e) e y base made in
    subst P (sym new) (after_goes e e.entry (added_index b e) e.at e.reached base disk made p p2 st
    (put_whole e base disk (6 + e.at / 7) s on) u k.left refl middle2 k.no_index refl cursor (omega (arith, reached, t_is, some, room)))

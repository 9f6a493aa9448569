-- A piece of the bytes is put: the call goes on with the rest.
use Rattle.std.proofs.Common.{◌≡◌, ℕ, zero, suc, ◌+◌, ◌*◌, ◌/◌, ◌<◌, ◌≤◌, Bool, true, nat_le, List, [], length, refl, sym, ap, ◌∙◌, subst, arith, slice_index_or, negsuc, if◌then◌else◌, slice_index, ◌&&◌, ◌%◌, ⊎_elim, take, nat_lt, length-take, ◌++◌, inl, inr, ◌⊎◌, max}
use Rattle.std.proofs.lemmas.Bool.Decides.{nat_tests}
use Rattle.lfs_format.specs.declared.Entry.{Entry}
use Rattle.lfs_check.specs.Rules.{block_in}
use Rattle.lfs_check.specs.Disks.{block_put, entry_at}
use Rattle.file_laws.specs.StoredFiles.{entry_bytes}
use Rattle.file_laws.proofs.Named.{bytes_sized}
use Rattle.local_files.specs.declared.Files.{Files}
use Rattle.local_files.specs.Hands.{put_bytes}
use Rattle.local_files.specs.Putting.{IsPutting, IsReady, IsAt, IsReach, IsPatch, IsPatched}
use Rattle.local_files.specs.Steps.{answered, at_byte, piece, with_piece}
use Rattle.local_files.specs.Wanted.{to_write}
use Rattle.local_files.specs.Standing.{Stands, GoesTo, call_bytes, IsStanding}
use Rattle.local_files.proofs.Closings.{put_whole}
use Rattle.xinu_model.specs.Files.Writing.{overwritten}
use Rattle.std.proofs.Common.{◌-◌, ◌*◌, drop, length-drop}
use Rattle.lfs_format.specs.declared.Index.{Index}
use Rattle.lfs_format.specs.Indexes.{index_at}
use Rattle.lfs_check.specs.Meets.{null}
use Rattle.lfs_check.specs.Laid.{Places, numbers_at, index_for}
use Rattle.lfs_check.proofs.KeepsAll.{either-way}
use Rattle.file_laws.specs.Middle.{IsMiddle}
use Rattle.file_laws.specs.Changing.{IsReadBy}
use Rattle.file_laws.proofs.Reached.{middle_read}
use Rattle.local_files.proofs.Closings.{put_whole}
use Rattle.local_files.proofs.Freeing.{some_at, goes_from}
use Rattle.std.proofs.lemmas.List.{take-take}
use Rattle.std.proofs.lemmas.Bool.{and_parts}
use Rattle.local_files.proofs.CutSteps.{index_on_disk}
use Rattle.file_laws.proofs.Patched.{middle_sized, middle_patched}
use Rattle.file_laws.proofs.Fitting.{length_overwritten}
use Rattle.local_files.proofs.Taking.{take_add}
use Rattle.local_files.specs.Puts.{at_end, target, next_put, put_done, reached}
use Rattle.local_files.proofs.Putting.{put_open, put_entry_is, put_small, where_put, puts_long, put_size}
use Rattle.local_files.proofs.PutSteps.{put_kept, ready_kept, inside_is, target_in, next_put_goes}
use Rattle.local_files.specs.Buffers.{patched}
use Rattle.file_laws.proofs.Overwrites.{overwritten_more}
use Rattle.local_files.proofs.Standing.{with_block, with_disk, in_hand}
use Rattle.local_files.specs.declared.Phase.TheVariants.{Wants}
use Rattle.local_files.specs.declared.Purpose.TheVariants.{Reach, PatchRead, PatchWrite}

-- which index block the next bytes need, by where they are
pub target_either : (e : Files) → (target e ≡ at_byte e / 8192) ⊎ ((0 < at_byte e) × (target e ≡ (at_byte e - 1) / 8192))
target_either e = either-way (at_end e && nat_lt 0 (at_byte e))
    (λ v. (at_end e && nat_lt 0 (at_byte e)) ≡ v
    → ((if v then (at_byte e - 1) / 8192 else at_byte e / 8192) ≡ at_byte e / 8192) ⊎ ((0 < at_byte e)
    × ((if v then (at_byte e - 1) / 8192 else at_byte e / 8192) ≡ (at_byte e - 1) / 8192)))
    (λ _ t. (let two = and_parts (at_end e) (nat_lt 0 (at_byte e)) t in let a = two.1 in inr ((grind (arith, nat_tests)), refl)))
    (λ _ t. inl refl) refl

-- the bytes of a piece
abbrev pub piece_bytes : Files → List ℕ
piece_bytes e = take (piece e) (drop e.counters.done e.buffer)

-- facts of a piece
pub record IsPiece (e : Files) (q : ℕ) : Type 0 where
  pub at : at_byte e ≡ q
  pub some : 0 < piece e
  pub fits : q % 512 + piece e ≤ 512
  pub few : e.counters.done + piece e ≤ e.counters.total
  pub long : length (piece_bytes e) ≡ piece e
  pub more : take e.counters.done (put_bytes e) ++ piece_bytes e ≡ take (e.counters.done + piece e) (put_bytes e)
  pub done : (put_done e).counters.done ≡ e.counters.done + piece e
  pub next_at : at_byte (put_done e) ≡ q + piece e
  pub size : (put_done e).entry.size ≡ max e.entry.size (q + piece e)

-- what a piece is
pub piece_is : (e : Files) (base disk : List ℕ) (p : Places) → IsStanding e base disk → (u : IsPutting e base disk p) → e.counters.done < e.counters.total
    → IsPiece e (e.counters.position + e.counters.done)
piece_is e base disk p s u left =
    let q = where_put e base disk p s u in
    let small = put_small e base disk p s u in let within = (put_open e base disk p s u).position in
    let a = u.position in let m = u.most in let bl = s.buffer in
    let d = length-drop e.counters.done e.buffer in let t = length-take (piece e) (drop e.counters.done e.buffer) in
    record {
      at = q;
      some = omega (arith, left, q);
      fits = omega (arith, q);
      few = omega (arith, left);
      long = omega (arith, t, d, bl, left, m);
      more = ap (λ x. x ++ piece_bytes e) (take-take e.counters.done e.counters.total e.buffer (omega (arith, left)))
          ∙ sym (take_add e.counters.done (piece e) e.buffer) ∙ sym (take-take (e.counters.done + piece e) e.counters.total e.buffer (omega (arith, left)));
      done = omega (arith, left, m);
      next_at = omega (arith, q, left, m, small, within, a);
      size = omega (arith, q, left, m, small, within, a);
    }

-- A piece is on the disk, and so are its numbers if it is in a new block: the call goes on.
pub after_goes : (e : Files) (entry : Entry) (ix : Index) (a r : ℕ) (base disk made : List ℕ) (p p' : Places) → IsStanding e base disk
    → length made ≡ length base → (u : IsPutting e base disk p) → e.counters.done < e.counters.total
    → entry.size ≡ e.entry.size
    → IsMiddle e.blocks base made e.header e.slot (put_done (record e {
      entry = entry;
      index = ix;
      at = a;
      reached = r;
    })).entry p' (overwritten e.counters.position (take (e.counters.done + piece e) (put_bytes e)) (entry_bytes base (entry_at base e.slot)))
    → p'.held_index ≡ [] → p'.held_data ≡ [] → IsAt (put_done (record e { entry = entry; index = ix; at = a; reached = r })) p'
    → r ≡ at_byte e / 8192 + 1
    → GoesTo (next_put (put_done (record e {
      entry = entry;
      index = ix;
      at = a;
      reached = r;
    }))).phase e.call (call_bytes e) e (next_put (put_done (record e {
      entry = entry;
      index = ix;
      at = a;
      reached = r;
    }))) base made
after_goes e entry ix a r base disk made p p' s whole u left size middle no_index no_data cursor reached =
    let x : Files = put_done (record e { entry = entry; index = ix; at = a; reached = r }) in
    let f = piece_is e base disk p s u left in
    let done = f.done in let some = f.some in let few = f.few in
    let M : ℕ → Type 0 = λ k. IsMiddle e.blocks base made e.header e.slot x.entry p'
    (overwritten e.counters.position (take k (put_bytes e)) (entry_bytes base (entry_at base e.slot))) in
    let u2 : IsPutting x base made p' = record {
      call = u.call;
      file = u.file;
      open_is = u.open_is;
      writes = u.writes;
      slot = u.slot;
      position = u.position;
      most = u.most;
      few = omega (arith, done, few);
      some = u.some;
      files = u.files;
      middle = subst M (sym f.done) middle;
    } in
    let at = f.at in let next_at = f.next_at in let fits = f.fits in
    let ready : IsReady x base made = record {
      places = p';
      putting = u2;
      no_index = no_index;
      no_data = no_data;
      fresh = λ z. absurd (omega (arith, z, done, some));
      cursor = cursor;
      near = λ _. ⊎_elim
          (λ (t : target x ≡ at_byte x / 8192).
          (omega (arith, t, next_at, reached, at, fits, some), omega (arith, t, next_at, reached, at, fits, some)))
          (λ (t : (0 < at_byte x) × (target x ≡ (at_byte x - 1) / 8192)).
          (let v = t.1 in (omega (arith, v, next_at, reached, at, fits, some), omega (arith, v, next_at, reached, at, fits, some))))
          (target_either x);
    } in
    let sx : IsStanding x base made = with_disk s whole in
    goes_from (next_put x).phase e.call (call_bytes e) x e (next_put x) base made refl (next_put_goes x base made sx ready)

-- what a block gets of the buffer
pub patched_is : (e : Files) (from : ℕ) (block : List ℕ) → e.counters.done + piece e ≤ 1048576 → from + piece e ≤ 512
    → patched e.counters.done (piece e) from e.buffer block ≡ overwritten from (piece_bytes e) block
patched_is e from block a b =
    let x : nat_le (e.counters.done + piece e) 1048576 ≡ true = grind (arith, nat_tests) in
    let y : nat_le (from + piece e) 512 ≡ true = grind (arith, nat_tests) in
    ap (λ v. if v && nat_le (from + piece e) 512 then overwritten from (piece_bytes e) block else block) x
    ∙ ap (λ v. if v then overwritten from (piece_bytes e) block else block) y

-- the bytes of the file after a piece
pub piece_more : (e : Files) (q : ℕ) (old : List ℕ) → IsPiece e q → length (take e.counters.done (put_bytes e)) ≡ e.counters.done → q ≡ e.counters.position + e.counters.done
    → e.counters.position ≤ length old
    → overwritten q (piece_bytes e) (overwritten e.counters.position (take e.counters.done (put_bytes e)) old) ≡ overwritten e.counters.position
    (take (e.counters.done + piece e) (put_bytes e)) old
piece_more e q old f long q_is low =
    ap (λ k. overwritten k (piece_bytes e) (overwritten e.counters.position (take e.counters.done (put_bytes e)) old)) (q_is
    ∙ ap (λ k. e.counters.position + k) (sym long))
    ∙ overwritten_more e.counters.position (take e.counters.done (put_bytes e)) (piece_bytes e) old low ∙ ap (λ x. overwritten e.counters.position x old) f.more

-- how many bytes are put
pub done_long : (e : Files) (base disk : List ℕ) (p : Places) → IsStanding e base disk → (u : IsPutting e base disk p)
    → length (take e.counters.done (put_bytes e)) ≡ e.counters.done
done_long e base disk p s u = let t = length-take e.counters.done (put_bytes e) in let n = puts_long e base disk p s u in let f = u.few in
    omega (arith, t, n, f)

-- the position is within the file
pub low_old : (e : Files) (base disk : List ℕ) (p : Places) → IsStanding e base disk → (u : IsPutting e base disk p)
    → e.counters.position ≤ length (entry_bytes base (entry_at base e.slot))
low_old e base disk p s u =
    let is = ap (λ (x : Entry). x.size) (put_entry_is e base disk p s u) in
    let old = bytes_sized base s.clean e.slot u.middle.slot_is u.middle.was_used in
    let within = (put_open e base disk p s u).position in let a = u.position in omega (arith, is, old, within, a)

-- The data block was read: it gets the bytes.
pub patch_read_goes : (e e' : Files) (b : ℕ) (base disk read : List ℕ) → e.phase ≡ Wants (PatchRead b) → e' ≡ to_write (PatchWrite b) (with_piece (at_byte e % 512) read e) e
    → length read ≡ 512 → length e'.block ≡ 512 → Stands e base disk → read ≡ block_in disk b
    → GoesTo e'.phase e.call (call_bytes e) e e' base disk
patch_read_goes e e' b base disk read phase new wide wide' s honest =
    let h : IsPatch e b base disk = in_hand phase s in
    let block = patched e.counters.done (piece e) (at_byte e % 512) e.buffer read in
    let e2 : Files = record e { block = block; phase = Wants (PatchWrite b) } in
    let P : Files → Type 0 = λ x. GoesTo x.phase e.call (call_bytes e) e x base disk in
    subst P (sym new) (
      record {
        standing = with_block s.standing (sym (ap (λ (x : Files). length x.block) new) ∙ wide');
        hand = record {
          patch = record {
            ready = ready_kept e (Wants (PatchWrite b)) block base disk h.ready;
            left = h.left;
            reached = h.reached;
            inside = h.inside;
            here = h.here;
          };
          block = ap (patched e.counters.done (piece e) (at_byte e % 512) e.buffer) honest;
        };
      },
      refl,
      refl,
      refl,
    )

-- It is written.
pub patch_written_goes : (e e' : Files) (b : ℕ) (base disk : List ℕ) → e.phase ≡ Wants (PatchWrite b) → e' ≡ next_put (put_done e)
    → Stands e base disk → GoesTo e'.phase e.call (call_bytes e) e e' base (block_put disk b e.block)
patch_written_goes e e' b base disk phase new s =
    let h : IsPatched e b base disk = in_hand phase s in
    let r = h.patch.ready in let p = r.places in let u = r.putting in
    let st = s.standing in
    let q = e.counters.position + e.counters.done in
    let f = piece_is e base disk p st u h.patch.left in
    let old = entry_bytes base (entry_at base e.slot) in
    let bytes = overwritten e.counters.position (take e.counters.done (put_bytes e)) old in
    let made = block_put disk b e.block in
    let at = f.at in let few = f.few in let most = u.most in
    let lt = inside_is e base disk p st u h.patch.inside in
    let j = at_byte e / 512 in
    let b_is = h.patch.here in
    let read = middle_read e.blocks base disk e.header e.slot e.entry p bytes u.middle in
    let high = (read.block j lt).1 in
    let block_is : e.block ≡ overwritten (at_byte e % 512) (piece_bytes e) (block_in disk (slice_index (numbers_at p.datas e.slot) j)) =
    h.block ∙ patched_is e (at_byte e % 512) (block_in disk b) (omega (arith, few, most)) (let z = f.fits in omega (arith, z, at))
    ∙ ap (λ k. overwritten (at_byte e % 512) (piece_bytes e) (block_in disk k)) b_is in
    let sized = middle_sized e.blocks base disk e.header e.slot e.entry p bytes u.middle in
    let z = put_size e base disk p st u in
    let long = f.long in let fits = f.fits in
    let grown : (put_done e).entry.size ≡ length (overwritten (512 * j + at_byte e % 512) (piece_bytes e) bytes) =
    (let o = length_overwritten (512 * j + at_byte e % 512) (piece_bytes e) bytes (omega (arith, sized, z, at)) in let g = f.size in
    omega (arith, o, g, sized, long, at, z)) in
    let middle = middle_patched e.blocks base disk e.header e.slot e.entry (put_done e).entry p bytes j (at_byte e % 512)
    (piece_bytes e) e.block u.middle lt (omega (arith, long, fits, at)) (omega (arith, z, at)) block_is refl refl grown in
    let D : ℕ → Type 0 = λ k. IsMiddle e.blocks base (block_put disk k e.block) e.header e.slot (put_done e).entry p
    (overwritten (512 * j + at_byte e % 512) (piece_bytes e) bytes) in
    let B : List ℕ → Type 0 = λ x. IsMiddle e.blocks base made e.header e.slot (put_done e).entry p x in
    let middle2 = subst B (ap (λ k. overwritten k (piece_bytes e) bytes) (let y : 512 * j + at_byte e % 512 ≡ q = omega (arith, at) in y)
    ∙ piece_more e q old f (done_long e base disk p st u) refl (low_old e base disk p st u)) (subst D (sym b_is) middle) in
    let t_is = target_in e h.patch.inside in let reached = h.patch.reached in
    let P : Files → Type 0 = λ x. GoesTo x.phase e.call (call_bytes e) e x base made in
    subst P (sym new) (after_goes e e.entry e.index e.at e.reached base disk made p p st
    (put_whole e base disk b s (omega (arith, b_is, high))) u h.patch.left refl middle2 r.no_index r.no_data (record {
      below = r.cursor.below;
      at = r.cursor.at;
      index = r.cursor.index;
    }) (reached ∙ ap (λ k. k + 1) t_is))

-- An index block was read.
pub reached_goes : (e e' : Files) (rest at : ℕ) (base disk read : List ℕ) → e.phase ≡ Wants (Reach rest at)
    → e' ≡ reached rest at (index_at (at % 7) read) e → Stands e base disk → read ≡ block_in disk (6 + at / 7)
    → GoesTo e'.phase e.call (call_bytes e) e e' base disk
reached_goes e e' rest at base disk read phase new s honest = subst P (sym new) (by_rest rest refl)
  where
    P : Files → Type 0
    P x = GoesTo x.phase e.call (call_bytes e) e x base disk

    h : IsReach e rest at base disk
    h = in_hand phase s

    st : IsStanding e base disk
    st = s.standing

    file : IsReadBy e.blocks disk e.entry (numbers_at h.ready.places.chains e.slot) (numbers_at h.ready.places.datas e.slot)
    file = middle_read e.blocks base disk e.header e.slot e.entry h.ready.places
        (overwritten e.counters.position (take e.counters.done (put_bytes e)) (entry_bytes base (entry_at base e.slot))) h.ready.putting.middle

    index_is : index_at (at % 7) read ≡ index_for (target e - rest) (numbers_at h.ready.places.chains e.slot)
        (numbers_at h.ready.places.datas e.slot)
    index_is = let lt = h.below in ap (index_at (at % 7)) honest ∙ ap (λ k. index_at (k % 7) (block_in disk (6 + k / 7))) h.here
        ∙ (file.index (target e - rest) (omega (arith, lt))).read

    by_rest : (k : ℕ) → rest ≡ k → P (reached k at (index_at (at % 7) read) e)
    by_rest zero z =
        let x : Files = record e { index = index_at (at % 7) read; at = at; reached = target e + 1 } in
        let lt = h.below in
        let cursor : IsAt x h.ready.places = record {
          below = omega (arith, lt);
          at = λ _. h.here
              ∙ ap (slice_index (numbers_at h.ready.places.chains e.slot)) (omega (arith, z));
          index = λ _. index_is
              ∙ ap (λ j. index_for j (numbers_at h.ready.places.chains e.slot) (numbers_at h.ready.places.datas e.slot)) (omega (arith, z));
        } in
        let ready : IsReady x base disk = record {
          places = h.ready.places;
          putting = put_kept e e.phase (index_at (at % 7) read) at (target e + 1) e.block base disk h.ready.places h.ready.putting;
          no_index = h.ready.no_index;
          no_data = h.ready.no_data;
          fresh = h.ready.fresh;
          cursor = cursor;
          near = λ _. (omega arith, omega arith);
        } in
        let sx : IsStanding x base disk = s.standing in
        goes_from (next_put x).phase e.call (call_bytes e) x e (next_put x) base disk refl (next_put_goes x base disk sx ready)
    by_rest (suc k) z =
        let lt = h.below in let few = h.few in
        let next : (index_at (at % 7) read).next ≡ slice_index (numbers_at h.ready.places.chains e.slot) (target e - k) =
        ap (λ (x : Index). x.next) index_is
        ∙ ap (λ j. slice_index_or (numbers_at h.ready.places.chains e.slot) j null) (let y : suc (target e - rest) ≡ target e - k =
        omega (arith, z, few) in y) ∙ some_at (numbers_at h.ready.places.chains e.slot) (target e - k) null (omega (arith, lt)) in
        let number = (index_at (at % 7) read).next in
        let below = (file.index (target e - k) (omega (arith, lt))).below in
        let on : nat_lt (6 + number / 7) e.blocks ≡ true = ap (λ i. nat_lt (6 + i / 7) e.blocks) next
        ∙ index_on_disk e.blocks _ h.ready.putting.middle.low below in
        let x : Files = record e { index = index_at (at % 7) read; at = at } in
        let e2 : Files = record x { phase = Wants (Reach k number) } in
        let Q : Bool → Type 0 = λ v. P (if v then e2 else answered (negsuc 0) x) in
        let zero_now = h.start (omega (arith, z)) in
        subst Q (sym on) (
          record {
            standing = s.standing;
            hand = record {
              left = h.left;
              few = omega (arith, z, few);
              below = h.below;
              start = λ _. zero_now;
              here = next;
              ready = record {
                places = h.ready.places;
                putting =
                    put_kept e (Wants (Reach k number)) (index_at (at % 7) read) at e.reached e.block base disk h.ready.places h.ready.putting;
                no_index = h.ready.no_index;
                no_data = h.ready.no_data;
                fresh = h.ready.fresh;
                cursor = record {
                  below = h.ready.cursor.below;
                  at = λ y. absurd (omega (arith, y, zero_now));
                  index = λ y. absurd (omega (arith, y, zero_now));
                };
                near = h.ready.near;
              };
            };
          },
          refl,
          refl,
          refl,
        )

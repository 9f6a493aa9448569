-- A file grows: a new index block is taken.
use Rattle.std.proofs.Common.{◌≡◌, ℕ, suc, ◌+◌, ◌*◌, ◌/◌, ◌<◌, ◌≤◌, List, [], ◌∷◌, length, refl, sym, ap, ◌∙◌, subst, arith, slice_index_or, slice_set, if◌then◌else◌, slice_index, ◌%◌, get_or-set_same, take, ◌++◌, ◌==◌, length-append, replicate}
use Rattle.std.proofs.lemmas.Bool.Decides.{nat_tests}
use Rattle.lfs_check.specs.Rules.{block_in}
use Rattle.lfs_check.specs.Disks.{block_put, entry_at}
use Rattle.lfs_check.proofs.BlockPuts.{put_same, put_other}
use Rattle.file_laws.specs.StoredFiles.{entry_bytes}
use Rattle.local_files.specs.declared.Files.{Files}
use Rattle.local_files.specs.Hands.{put_bytes}
use Rattle.local_files.specs.Putting.{IsPutting, IsAt}
use Rattle.local_files.specs.Steps.{at_byte, piece, with_free_index}
use Rattle.local_files.specs.Wanted.{to_write}
use Rattle.local_files.specs.Standing.{Stands, GoesTo, call_bytes}
use Rattle.local_files.proofs.Closings.{put_whole}
use Rattle.xinu_model.specs.Files.Writing.{overwritten}
use Rattle.std.proofs.Common.{◌-◌, ◌*◌, drop, replicate, length-append}
use Rattle.lfs_format.specs.declared.Index.{Index}
use Rattle.lfs_format.specs.Indexes.{index_at, IsIndexPut}
use Rattle.lfs_check.specs.Meets.{null}
use Rattle.lfs_check.specs.declared.fields.Header.{Header}
use Rattle.lfs_check.specs.Geometries.{index_count, first_data}
use Rattle.lfs_check.specs.Laid.{Places, numbers_at, index_for}
use Rattle.lfs_check.specs.Disks.{disk_geometry}
use Rattle.file_laws.specs.Middle.{IsMiddle}
use Rattle.file_laws.proofs.Reached.{free_index_some}
use Rattle.local_files.proofs.Closings.{put_whole}
use Rattle.local_files.proofs.Freeing.{some_at, none_at}
use Rattle.std.proofs.lemmas.List.{drop_at}
use Rattle.file_laws.proofs.Patched.{held_range, times_first}
use Rattle.local_files.specs.Puts.{next_put, put_done}
use Rattle.local_files.proofs.PutSteps.{put_changed}
use Rattle.local_files.proofs.Pieces.{after_goes, piece_is, piece_bytes}
use Rattle.local_files.specs.Putting.{IsNew, IsNewWrite}
use Rattle.local_files.specs.Puts.{fresh_index, new_written, followed, linked_index}
use Rattle.file_laws.proofs.Reached.{index_below}
use Rattle.local_files.proofs.Adds.{growing, slot_lists, append_last}
use Rattle.file_laws.proofs.Reached.{middle_index_got}
use Rattle.file_laws.proofs.Freed.{middle_index_held}
use Rattle.file_laws.proofs.Patched.{middle_started}
use Rattle.lfs_check.proofs.Steps.{index_for-more}
use Rattle.lfs_check.proofs.KeepsAll.{either-way}
use Rattle.local_files.proofs.Standing.{with_block, with_disk, in_hand}
use Rattle.local_files.specs.declared.Phase.TheVariants.{Wants}
use Rattle.local_files.specs.declared.Purpose.TheVariants.{NewRead, NewWrite, LinkRead}

-- The free index block was read: it is to be written with the number.
pub new_read_goes : (e e' : Files) (b i : ℕ) (base disk read : List ℕ) → e.phase ≡ Wants (NewRead b i)
    → e' ≡ to_write (NewWrite b i) e'.block (with_free_index (index_at (i % 7) read).next e) → IsIndexPut read (i % 7) (fresh_index b e) e'.block → Stands e base disk
    → read ≡ block_in disk (6 + i / 7)
    → GoesTo e'.phase e.call (call_bytes e) e e' base disk
new_read_goes e e' b i base disk read phase new put s honest =
    let h = in_hand phase s in
    let k = h.0.taken in let p = k.places in let u = k.putting in
    let z = h.1.0 in let head = h.1.1 in
    let bytes = overwritten e.counters.position (take e.counters.done (put_bytes e)) (entry_bytes base (entry_at base e.slot)) in
    let rest = drop 1 p.free_index in
    let some = k.index z in
    let free : p.free_index ≡ i ∷ rest = free_index_some e.blocks base disk e.header e.slot e.entry p bytes u.middle some
    ∙ ap (λ x. x ∷ rest) head in
    let p2 : Places = record p { free_index = rest; held_index = i ∷ p.held_index } in
    let M : List ℕ → Type 0 = λ w. IsMiddle e.blocks base disk (let x : Header =
    record e.header { free_index = (index_at (i % 7) w).next } in x) e.slot e.entry p2 bytes in
    let middle = subst M (sym honest) (middle_index_got e.blocks base disk e.header e.slot e.entry p bytes i rest u.middle free) in
    let R : List ℕ → Type 0 = λ x. IsIndexPut x (i % 7) (fresh_index b e) e'.block in
    let P : Files → Type 0 = λ x. GoesTo x.phase e.call (call_bytes e) e x base disk in
    subst P (sym new) (
      record {
        standing = with_block s.standing put.long;
        hand = record {
          put = subst R honest put;
          new = record {
            places = p2;
            left = k.left;
            held_index = ap (λ x. i ∷ x) k.no_index;
            held_data = k.held;
            ends = k.ends;
            reached = k.reached;
            whole = z;
            filled = h.0.filled;
            cursor = record { below = k.cursor.below; at = k.cursor.at; index = k.cursor.index };
            putting = put_changed e (Wants (NewWrite b i)) e.index (record e.header { free_index = (index_at (i % 7) read).next }) e.at e.reached
                e'.block base disk disk p p2 u refl middle;
          };
        };
      },
      refl,
      refl,
      refl,
    )

-- the number of a taken index block
new_below : (e : Files) (b i : ℕ) (base disk : List ℕ) → IsNew e b i base disk → i < index_count (disk_geometry e.blocks)
new_below e b i base disk n =
    let one = n.putting.middle.laid.one_index i in let t = times_first i n.places.held_index [] n.held_index in
    index_below (index_count (disk_geometry e.blocks)) i (omega (arith, one, t))

-- the range of a taken data block
new_range : (e : Files) (b i : ℕ) (base disk : List ℕ) → IsNew e b i base disk → (first_data (disk_geometry e.blocks) ≤ b) × (b < e.blocks)
new_range e b i base disk n = held_range e.blocks base disk e.header e.slot e.entry n.places
    (overwritten e.counters.position (take e.counters.done (put_bytes e)) (entry_bytes base (entry_at base e.slot))) b n.putting.middle
    (times_first b n.places.held_data [] n.held_data)

-- the first index block of a file
first_index : (b : ℕ) (e : Files) (i : ℕ) → at_byte e ≡ 0 → fresh_index b e ≡ index_for 0 (i ∷ []) (b ∷ [])
first_index b e i z = ap (λ o. let x : Index = record { next = null; offset = o; blocks = slice_set (replicate 16 null) 0 b } in x) z

-- a file of whole index blocks gets another one
pub next_index : (j b i : ℕ) (e : Files) (chain blocks : List ℕ) → at_byte e ≡ 8192 * j → j ≡ length chain → 16 * j ≡ length blocks
    → fresh_index b e ≡ index_for j (chain ++ i ∷ []) (blocks ++ b ∷ [])
next_index j b i e chain blocks at long size =
    let l = length-append chain (i ∷ []) in
    ap (λ o. let x : Index = record { next = null; offset = o; blocks = slice_set (replicate 16 null) 0 b } in x) at
    ∙ ap (λ k. let x : Index = record { next = k; offset = 8192 * j; blocks = slice_set (replicate 16 null) 0 b } in
    x) (sym (none_at (chain ++ i ∷ []) (suc j) null (omega (arith, l, long))))
    ∙ ap (λ ns. let x : Index = record {
      next = slice_index_or (chain ++ i ∷ []) (suc j) null;
      offset = 8192 * j;
      blocks = take 16 (ns ++ replicate 16 null);
    } in x) (sym (drop_at blocks (b ∷ []) (16 * j) (sym size)))

-- the index block before it names it
pub named_index : (j b i : ℕ) (chain blocks : List ℕ) → suc j ≡ length chain → 16 * suc j ≡ length blocks
    → linked_index i (index_for j chain blocks) ≡ index_for j (chain ++ i ∷ []) (blocks ++ b ∷ [])
named_index j b i chain blocks long size =
    let l = length-append chain (i ∷ []) in
    let named : slice_index_or (chain ++ i ∷ []) (suc j) null ≡ i = some_at (chain ++ i ∷ []) (suc j) null (omega (arith, l, long))
    ∙ append_last chain i (suc j) long in
    ap (λ k. let x : Index = record { next = k; offset = 8192 * j; blocks = take 16 (drop (16 * j) blocks ++ replicate 16 null) } in
    x) (sym named) ∙ sym (index_for-more j (chain ++ i ∷ []) blocks (b ∷ []) (omega (arith, size)))

-- The index block is written: it is the file's first, or the last one is to name it.
pub new_written_goes : (e e' : Files) (b i : ℕ) (base disk : List ℕ) → e.phase ≡ Wants (NewWrite b i) → e' ≡ new_written b i e → Stands e base disk
    → GoesTo e'.phase e.call (call_bytes e) e e' base (block_put disk (6 + i / 7) e.block)
new_written_goes e e' b i base disk phase new s = subst P (sym new) (either-way (at_byte e == 0)
    (λ v. (at_byte e == 0) ≡ v → P (if v then next_put (put_done x) else e2))
    (λ _ t. (let zero_at : at_byte e ≡ 0 = grind (arith, nat_tests) in first zero_at))
    (λ _ t. (let some : 0 < at_byte e = grind (arith, nat_tests) in (
      record {
        standing = with_disk s.standing whole;
        hand = record {
          some = some;
          written = written;
          new = record {
            places = n.places;
            left = n.left;
            held_index = n.held_index;
            held_data = n.held_data;
            ends = n.ends;
            reached = n.reached;
            whole = n.whole;
            filled = filled;
            cursor = record { below = n.cursor.below; at = n.cursor.at; index = n.cursor.index };
            putting = put_changed e (Wants (LinkRead b i)) e.index e.header e.at e.reached e.block base disk made n.places n.places u refl middle;
          };
        };
      },
      refl,
      refl,
      refl,
    )))
    refl)
  where
    made : List ℕ
    made = block_put disk (6 + i / 7) e.block

    P : Files → Type 0
    P y = GoesTo y.phase e.call (call_bytes e) e y base (block_put disk (6 + i / 7) e.block)

    x : Files
    x = followed b i (record e { entry = record e.entry { first = i } })

    e2 : Files
    e2 = record e { phase = Wants (LinkRead b i) }

    h : IsNewWrite e b i base disk
    h = in_hand phase s

    n : IsNew e b i base disk
    n = h.new

    u : IsPutting e base disk n.places
    u = n.putting

    bytes : List ℕ
    bytes = overwritten e.counters.position (take e.counters.done (put_bytes e)) (entry_bytes base (entry_at base e.slot))

    below : i < index_count (disk_geometry e.blocks)
    below = new_below e b i base disk n

    on : 6 + i / 7 < e.blocks
    on = let lt = below in let low = u.middle.low in omega (arith, lt, low)

    whole : length (block_put disk (6 + i / 7) e.block) ≡ length base
    whole = put_whole e base disk (6 + i / 7) s on

    middle : IsMiddle e.blocks base (block_put disk (6 + i / 7) e.block) e.header e.slot e.entry n.places bytes
    middle = middle_index_held e.blocks base disk e.header e.slot e.entry n.places bytes i (fresh_index b e) e.block u.middle
        (times_first i n.places.held_index [] n.held_index) h.put

    written : index_at (i % 7) (block_in (block_put disk (6 + i / 7) e.block) (6 + i / 7)) ≡ fresh_index b e
    written = ap (index_at (i % 7)) (put_same disk (6 + i / 7) e.blocks e.block u.middle.long on s.outgoing) ∙ h.put.here

    filled : take (piece e) (block_in (block_put disk (6 + i / 7) e.block) b) ≡ piece_bytes e
    filled = let r = (new_range e b i base disk n).0 in let lt = below in
        ap (take (piece e)) (put_other disk (6 + i / 7) e.blocks e.block b u.middle.long on s.outgoing (λ z.
        absurd (omega (arith, z, r, lt)))) ∙ n.filled

    first : at_byte e ≡ 0 → P (next_put (put_done x))
    first z =
        let st = s.standing in
        let g = growing e base disk n.places st u n.left n.ends in
        let f = piece_is e base disk n.places st u n.left in
        let long = f.long in let fits = f.fits in let psome = f.some in let grown = g.grown in let at = g.at in
        let cl = g.read.chain_long in
        let p2 : Places = record n.places {
          chains = slice_set n.places.chains e.slot (i ∷ []);
          datas = slice_set n.places.datas e.slot (b ∷ []);
          held_index = [];
          held_data = [];
        } in
        let none : e.entry.size ≡ 0 = omega (arith, at, z) in
        let m2 = middle_started e.blocks base made e.header e.slot e.entry (put_done x).entry n.places bytes
        (piece_bytes e) i b [] [] middle n.held_index n.held_data none (ap (λ k. take k (block_in made b)) long
        ∙ filled) (omega (arith, long, psome)) (omega (arith, long, fits))
        (written ∙ first_index b e i z) refl refl (omega (arith, grown, long, none)) in
        let C : List ℕ → Type 0 = λ y. IsMiddle e.blocks base made e.header e.slot (put_done x).entry p2 y in
        let lists = slot_lists e.blocks base disk e.header e.slot e.entry n.places bytes u.middle in
        let chain2 : numbers_at p2.chains e.slot ≡ i ∷ [] = get_or-set_same n.places.chains e.slot (i ∷ []) [] lists.0 in
        let datas2 : numbers_at p2.datas e.slot ≡ b ∷ [] = get_or-set_same n.places.datas e.slot (b ∷ []) [] lists.1 in
        let few = n.cursor.below in
        let reached : x.reached ≡ 1 = omega (arith, few, cl, none) in
        let c2 = ap length chain2 in
        let cursor : IsAt (put_done x) p2 = record {
          below = omega (arith, reached, c2);
          at = λ _. ap (λ k. slice_index (i ∷ []) (k - 1)) (sym reached) ∙ ap (λ c. slice_index c (x.reached - 1)) (sym chain2);
          index = λ _. first_index b e i z ∙ ap (λ k. index_for (k - 1) (i ∷ []) (b ∷ [])) (sym reached)
              ∙ ap (λ c. index_for (x.reached - 1) c (b ∷ [])) (sym chain2)
              ∙ ap (index_for (x.reached - 1) (numbers_at p2.chains e.slot)) (sym datas2);
        } in
        after_goes e (record e.entry { first = i }) (fresh_index b e) i x.reached base disk made n.places p2 st whole u n.left refl
        (subst C g.more m2) refl refl cursor (omega (arith, reached, z))

-- A file grows: a data block is taken.
use Rattle.std.proofs.Common.{◌≡◌, ℕ, ◌+◌, ◌/◌, ◌<◌, ◌≤◌, Bool, true, List, [], ◌∷◌, length, refl, sym, ap, ◌∙◌, subst, arith, negsuc, if◌then◌else◌, ◌%◌, take, nat_lt, ◌==◌, replicate}
use Rattle.std.proofs.lemmas.Bool.{false≢true}
use Rattle.std.proofs.lemmas.Bool.Decides.{nat_tests}
use Rattle.lfs_check.specs.Rules.{block_in}
use Rattle.lfs_check.specs.Disks.{block_put, entry_at}
use Rattle.lfs_check.proofs.BlockPuts.{put_same}
use Rattle.file_laws.specs.StoredFiles.{entry_bytes}
use Rattle.local_files.specs.declared.Files.{Files}
use Rattle.local_files.specs.declared.Phase.{Phase}
use Rattle.local_files.specs.Hands.{put_bytes}
use Rattle.local_files.specs.Putting.{IsTake, IsTakeWrite, IsFilled}
use Rattle.local_files.specs.Steps.{answered, at_byte, piece, with_piece, with_free_data}
use Rattle.local_files.specs.Wanted.{going_on, to_write}
use Rattle.local_files.specs.Standing.{Stands, GoesTo, call_bytes}
use Rattle.local_files.proofs.Closings.{put_whole}
use Rattle.xinu_model.specs.Files.Writing.{overwritten}
use Rattle.std.proofs.Common.{drop, replicate}
use Rattle.lfs_format.specs.Words.{word_of}
use Rattle.lfs_format.specs.Indexes.{IsIndexPut}
use Rattle.lfs_check.specs.declared.fields.Header.{Header}
use Rattle.lfs_check.specs.Geometries.{first_data}
use Rattle.lfs_check.specs.Laid.{Places}
use Rattle.lfs_check.specs.Disks.{disk_geometry}
use Rattle.lfs_check.proofs.KeepsAll.{either-way}
use Rattle.file_laws.specs.Middle.{IsMiddle}
use Rattle.file_laws.proofs.Middles.{middle_held}
use Rattle.file_laws.proofs.Reached.{free_data_some, middle_data_taken, free_index_some, free_index_first}
use Rattle.local_files.proofs.Closings.{put_whole}
use Rattle.std.proofs.lemmas.List.{take_at}
use Rattle.local_files.proofs.CutSteps.{index_on_disk}
use Rattle.file_laws.proofs.Patched.{held_range, times_first}
use Rattle.local_files.specs.Puts.{take_written, added_index}
use Rattle.local_files.proofs.PutSteps.{put_changed, put_kept}
use Rattle.local_files.proofs.Pieces.{IsPiece, piece_is, piece_bytes, patched_is}
use Rattle.local_files.proofs.Standing.{with_block, with_disk, in_hand}
use Rattle.local_files.specs.declared.Phase.TheVariants.{Wants}
use Rattle.local_files.specs.declared.Purpose.TheVariants.{TakeRead, TakeWrite, AddRead, AddWrite, NewRead}

-- The free data block was read: it is taken.
pub take_read_goes : (e e' : Files) (b : ℕ) (base disk read : List ℕ) → e.phase ≡ Wants (TakeRead b) → e' ≡ to_write (TakeWrite b) (with_piece 0 (replicate 512 0) e) (with_free_data (word_of read) e)
    → length e'.block ≡ 512 → Stands e base disk → read ≡ block_in disk b → GoesTo e'.phase e.call (call_bytes e) e e' base disk
take_read_goes e e' b base disk read phase new wide s honest =
    let h : IsTake e b base disk = in_hand phase s in
    let r = h.ready in let p = r.places in let u = r.putting in
    let bytes = overwritten e.counters.position (take e.counters.done (put_bytes e)) (entry_bytes base (entry_at base e.slot)) in
    let e2 : Files = to_write (TakeWrite b) (with_piece 0 (replicate 512 0) e) (with_free_data (word_of read) e) in
    let rest = drop 1 p.free_data in
    let free : p.free_data ≡ b ∷ rest = free_data_some e.blocks base disk e.header e.slot e.entry p bytes u.middle (λ z.
    h.some (sym h.head ∙ z)) ∙ ap (λ x. x ∷ rest) h.head in
    let p2 : Places = record p { free_data = rest; held_data = b ∷ p.held_data } in
    let M : ℕ → Type 0 = λ w. IsMiddle e.blocks base disk (let x : Header = record e.header { free_data = w } in
    x) e.slot e.entry p2 bytes in
    let middle = subst M (sym (ap word_of honest))
    (middle_data_taken e.blocks base disk e.header e.slot e.entry p bytes b rest u.middle free) in
    let P : Files → Type 0 = λ x. GoesTo x.phase e.call (call_bytes e) e x base disk in
    subst P (sym new) (
      record {
        standing = with_block s.standing (sym (ap (λ (x : Files). length x.block) new) ∙ wide);
        hand = record {
          block = refl;
          taken = record {
            places = p2;
            left = h.left;
            no_index = r.no_index;
            held = ap (λ x. b ∷ x) r.no_data;
            ends = h.ends;
            reached = h.reached;
            index = h.index;
            cursor = record { below = r.cursor.below; at = r.cursor.at; index = r.cursor.index };
            putting = put_changed e (Wants (TakeWrite b)) e.index e2.header e.at e.reached e2.block base disk disk p p2 u refl middle;
          };
        };
      },
      refl,
      refl,
      refl,
    )

-- It is written with the bytes.
pub take_written_goes : (e e' : Files) (b : ℕ) (base disk : List ℕ) → e.phase ≡ Wants (TakeWrite b) → e' ≡ take_written b e → Stands e base disk
    → GoesTo e'.phase e.call (call_bytes e) e e' base (block_put disk b e.block)
take_written_goes e e' b base disk phase new s = subst P (sym new) (either-way (at_byte e % 8192 == 0)
    (λ v. (at_byte e % 8192 == 0) ≡ v → P (if v then going_on (NewRead b e.header.free_index) e else (let y : Files = record e { phase = Wants (AddRead b) } in
    y)))
    (λ _ t. (let z : at_byte e % 8192 ≡ 0 = grind (arith, nat_tests) in
    let some = h.taken.index z in let i = e.header.free_index in
    let f = free_index_first e.blocks base disk e.header e.slot e.entry h.taken.places bytes i
    (drop 1 h.taken.places.free_index) h.taken.putting.middle
    (free_index_some e.blocks base disk e.header e.slot e.entry h.taken.places bytes h.taken.putting.middle some) in
    let on : nat_lt (6 + i / 7) e.blocks ≡ true = index_on_disk e.blocks i h.taken.putting.middle.low f.below in
    let e2 : Files = record e { phase = Wants (NewRead b i) } in
    let Q : Bool → Type 0 = λ v. P (if v then e2 else answered (negsuc 0) e) in
    subst Q (sym on) (
      record {
        standing = with_disk s.standing whole;
        hand = (filled (Wants (NewRead b i)), (z, refl));
      },
      refl,
      refl,
      refl,
    )))
    (λ _ t. (
      record {
        standing = with_disk s.standing whole;
        hand = (filled (Wants (AddRead b)), λ z. false≢true (sym t ∙ ap (λ k. k == 0) z));
      },
      refl,
      refl,
      refl,
    ))
    refl)
  where
    made : List ℕ
    made = block_put disk b e.block

    P : Files → Type 0
    P x = GoesTo x.phase e.call (call_bytes e) e x base (block_put disk b e.block)

    h : IsTakeWrite e b base disk
    h = in_hand phase s

    bytes : List ℕ
    bytes = overwritten e.counters.position (take e.counters.done (put_bytes e)) (entry_bytes base (entry_at base e.slot))

    range : (first_data (disk_geometry e.blocks) ≤ b) × (b < e.blocks)
    range = held_range e.blocks base disk e.header e.slot e.entry h.taken.places bytes b h.taken.putting.middle
        (times_first b h.taken.places.held_data [] h.taken.held)

    whole : length (block_put disk b e.block) ≡ length base
    whole = put_whole e base disk b s range.1

    f : IsPiece e (e.counters.position + e.counters.done)
    f = piece_is e base disk h.taken.places s.standing h.taken.putting h.taken.left

    middle : IsMiddle e.blocks base (block_put disk b e.block) e.header e.slot e.entry h.taken.places bytes
    middle = middle_held e.blocks base disk e.header e.slot e.entry h.taken.places bytes b e.block h.taken.putting.middle
        (times_first b h.taken.places.held_data [] h.taken.held) s.outgoing

    has : take (piece e) (block_in (block_put disk b e.block) b) ≡ piece_bytes e
    has = let few = f.few in let most = h.taken.putting.most in let fits = f.fits in
        ap (take (piece e)) (put_same disk b e.blocks e.block h.taken.putting.middle.long range.1 s.outgoing ∙ h.block
        ∙ patched_is e 0 (replicate 512 0) (omega (arith, few, most)) (omega (arith, fits)))
        ∙ take_at (piece_bytes e) (drop (0 + length (piece_bytes e)) (replicate 512 0)) (piece e) f.long

    filled : (ph : Phase) → IsFilled (record e { phase = ph }) b base (block_put disk b e.block)
    filled ph = record {
      filled = has;
      taken = record {
        places = h.taken.places;
        left = h.taken.left;
        no_index = h.taken.no_index;
        held = h.taken.held;
        ends = h.taken.ends;
        reached = h.taken.reached;
        index = h.taken.index;
        cursor = record { below = h.taken.cursor.below; at = h.taken.cursor.at; index = h.taken.cursor.index };
        putting = put_changed e ph e.index e.header e.at e.reached e.block base disk made h.taken.places h.taken.places
            h.taken.putting refl middle;
      };
    }

-- a taken block with other fields of the engine
abbrev filled_kept : (e : Files) (ph : Phase) (blk : List ℕ) (b : ℕ) (base disk : List ℕ) → IsFilled e b base disk
    → IsFilled (record e { phase = ph; block = blk }) b base disk
filled_kept e ph blk b base disk h = record {
  filled = h.filled;
  taken = record {
    places = h.taken.places;
    left = h.taken.left;
    no_index = h.taken.no_index;
    held = h.taken.held;
    ends = h.taken.ends;
    reached = h.taken.reached;
    index = h.taken.index;
    cursor = record { below = h.taken.cursor.below; at = h.taken.cursor.at; index = h.taken.cursor.index };
    putting = put_kept e ph e.index e.at e.reached blk base disk h.taken.places h.taken.putting;
  };
}

-- The last index block was read: it gets the number.
pub add_read_goes : (e e' : Files) (b : ℕ) (base disk read : List ℕ) → e.phase ≡ Wants (AddRead b) → e' ≡ to_write (AddWrite b) e'.block e
    → IsIndexPut read (e.at % 7) (added_index b e) e'.block → Stands e base disk → read ≡ block_in disk (6 + e.at / 7)
    → GoesTo e'.phase e.call (call_bytes e) e e' base disk
add_read_goes e e' b base disk read phase new put s honest =
    let h = in_hand phase s in
    let R : List ℕ → Type 0 = λ x. IsIndexPut x (e.at % 7) (added_index b e) e'.block in
    let P : Files → Type 0 = λ x. GoesTo x.phase e.call (call_bytes e) e x base disk in
    subst P (sym new) (
      record {
        standing = with_block s.standing put.long;
        hand = record {
          filled = filled_kept e (Wants (AddWrite b)) e'.block b base disk h.0;
          room = h.1;
          put = subst R honest put;
        };
      },
      refl,
      refl,
      refl,
    )

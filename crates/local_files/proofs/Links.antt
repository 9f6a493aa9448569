-- A file grows: its last index block names the new one.
use Rattle.std.proofs.Common.{◌≡◌, ℕ, suc, ◌+◌, ◌*◌, ◌/◌, ◌<◌, List, [], ◌∷◌, length, refl, sym, ap, ◌∙◌, subst, arith, slice_set, slice_index, ◌%◌, get_or-set_same, take, ◌++◌, length-append}
use Rattle.lfs_check.specs.Rules.{block_in}
use Rattle.lfs_check.specs.Disks.{block_put, entry_at}
use Rattle.file_laws.specs.StoredFiles.{entry_bytes}
use Rattle.local_files.specs.declared.Files.{Files}
use Rattle.local_files.specs.Hands.{put_bytes}
use Rattle.local_files.specs.Putting.{IsAt}
use Rattle.local_files.specs.Steps.{at_byte}
use Rattle.local_files.specs.Wanted.{to_write}
use Rattle.local_files.specs.Standing.{Stands, GoesTo, call_bytes}
use Rattle.local_files.proofs.Closings.{put_whole}
use Rattle.xinu_model.specs.Files.Writing.{overwritten}
use Rattle.std.proofs.Common.{◌-◌, ◌*◌, length-append}
use Rattle.lfs_format.specs.declared.Index.{Index}
use Rattle.lfs_format.specs.Indexes.{index_at, IsIndexPut}
use Rattle.lfs_check.specs.Laid.{Places, numbers_at, index_for}
use Rattle.file_laws.specs.Middle.{IsMiddle}
use Rattle.local_files.proofs.Closings.{put_whole}
use Rattle.local_files.specs.Puts.{next_put, put_done}
use Rattle.local_files.proofs.Putting.{put_open, put_small}
use Rattle.local_files.proofs.PutSteps.{put_kept, target_end}
use Rattle.local_files.proofs.Pieces.{after_goes, piece_is, piece_bytes}
use Rattle.local_files.specs.Putting.{IsLink, IsLinkWrite}
use Rattle.local_files.specs.Puts.{fresh_index, followed, linked_index}
use Rattle.local_files.proofs.Putting.{put_small, put_open}
use Rattle.local_files.proofs.Adds.{growing, slot_lists, append_last}
use Rattle.file_laws.proofs.Patched.{middle_continued}
use Rattle.local_files.proofs.NewBlocks.{next_index, named_index}
use Rattle.local_files.proofs.Standing.{with_block, in_hand}
use Rattle.local_files.specs.declared.Phase.TheVariants.{Wants}
use Rattle.local_files.specs.declared.Purpose.TheVariants.{LinkRead, LinkWrite}

-- The last index block was read: it is to name the new one.
pub link_read_goes : (e e' : Files) (b i : ℕ) (base disk read : List ℕ) → e.phase ≡ Wants (LinkRead b i) → e' ≡ to_write (LinkWrite b i) e'.block e
    → IsIndexPut read (e.at % 7) (linked_index i (index_at (e.at % 7) read)) e'.block → Stands e base disk
    → read ≡ block_in disk (6 + e.at / 7)
    → GoesTo e'.phase e.call (call_bytes e) e e' base disk
link_read_goes e e' b i base disk read phase new put s honest =
    let h : IsLink e b i base disk = in_hand phase s in
    let n = h.new in let u = n.putting in
    let R : List ℕ → Type 0 = λ x. IsIndexPut x (e.at % 7) (linked_index i (index_at (e.at % 7) x)) e'.block in
    let P : Files → Type 0 = λ x. GoesTo x.phase e.call (call_bytes e) e x base disk in
    subst P (sym new) (
      record {
        standing = with_block s.standing put.long;
        hand = record {
          put = subst R honest put;
          link = record {
            some = h.some;
            written = h.written;
            new = record {
              places = n.places;
              left = n.left;
              held_index = n.held_index;
              held_data = n.held_data;
              ends = n.ends;
              reached = n.reached;
              whole = n.whole;
              filled = n.filled;
              cursor = record { below = n.cursor.below; at = n.cursor.at; index = n.cursor.index };
              putting = put_kept e (Wants (LinkWrite b i)) e.index e.at e.reached e'.block base disk n.places u;
            };
          };
        };
      },
      refl,
      refl,
      refl,
    )

-- It is written.
pub link_written_goes : (e e' : Files) (b i : ℕ) (base disk : List ℕ) → e.phase ≡ Wants (LinkWrite b i) → e' ≡ next_put (put_done (followed b i e))
    → Stands e base disk → GoesTo e'.phase e.call (call_bytes e) e e' base (block_put disk (6 + e.at / 7) e.block)
link_written_goes e e' b i base disk phase new s =
    let h : IsLinkWrite e b i base disk = in_hand phase s in
    let n = h.link.new in let p = n.places in let u = n.putting in
    let st = s.standing in
    let g = growing e base disk p st u n.left n.ends in
    let f = piece_is e base disk p st u n.left in
    let chain = numbers_at p.chains e.slot in let blocks = numbers_at p.datas e.slot in
    let bytes = overwritten e.counters.position (take e.counters.done (put_bytes e)) (entry_bytes base (entry_at base e.slot)) in
    let made = block_put disk (6 + e.at / 7) e.block in
    let size = g.size in let eight = n.whole in let at = g.at in let cl = g.read.chain_long in let bl = g.read.blocks_long in
    let some = h.link.some in
    let t_is = target_end e n.ends some in let reached = n.reached some in
    let j = e.reached - 1 in
    let last : suc j ≡ length chain = omega (arith, reached, t_is, at, cl, some) in
    let full : at_byte e ≡ 8192 * suc j = omega (arith, reached, t_is, eight, some) in
    let datas_full : 16 * suc j ≡ length blocks = omega (arith, bl, at, full) in
    let at_is : e.at ≡ slice_index chain j = n.cursor.at (omega (arith, reached)) in
    let ir = g.read.index j (omega (arith, last)) in
    let index_is : index_at (e.at % 7) (block_in disk (6 + e.at / 7)) ≡ index_for j chain blocks =
    ap (λ k. index_at (k % 7) (block_in disk (6 + k / 7))) at_is ∙ ir.read in
    let linked = ap (linked_index i) index_is ∙ named_index j b i chain blocks last datas_full in
    let R : ℕ → Index → Type 0 = λ a x. IsIndexPut (block_in disk (6 + a / 7)) (a % 7) x e.block in
    let A : ℕ → Type 0 = λ a. R a (linked_index i (index_at (e.at % 7) (block_in disk (6 + e.at / 7)))) in let B : Index
    → Type 0 = λ x. R (slice_index chain j) x in
    let long = f.long in let fits = f.fits in let psome = f.some in let grown = g.grown in
    let p2 : Places = record p {
      chains = slice_set p.chains e.slot (chain ++ i ∷ []);
      datas = slice_set p.datas e.slot (blocks ++ b ∷ []);
      held_index = [];
      held_data = [];
    } in
    let fresh = next_index (suc j) b i e chain blocks full last datas_full in
    let middle = middle_continued e.blocks base disk e.header e.slot e.entry (put_done e).entry p bytes
    (piece_bytes e) j i b [] [] e.block u.middle n.held_index n.held_data (omega (arith, at, full, last)) (ap (λ x.
    take x (block_in disk b)) long ∙ n.filled) (omega (arith, long, psome)) (omega (arith, long, fits))
    last (h.link.written ∙ fresh) refl refl (omega (arith, grown, long)) (subst B linked (subst A at_is h.put)) in
    let D : ℕ → Type 0 = λ a. IsMiddle e.blocks base (block_put disk (6 + a / 7) e.block) e.header e.slot (put_done e).entry p2
    (bytes ++ piece_bytes e) in
    let C : List ℕ → Type 0 = λ x. IsMiddle e.blocks base made e.header e.slot (put_done e).entry p2 x in
    let middle2 = subst C g.more (subst D (sym at_is) middle) in
    let x : Files = followed b i e in
    let lists = slot_lists e.blocks base disk e.header e.slot e.entry p bytes u.middle in
    let chain2 : numbers_at p2.chains e.slot ≡ chain ++ i ∷ [] = get_or-set_same p.chains e.slot (chain ++ i ∷ []) [] lists.0 in
    let datas2 : numbers_at p2.datas e.slot ≡ blocks ++ b ∷ [] = get_or-set_same p.datas e.slot (blocks ++ b ∷ []) [] lists.1 in
    let below = ir.below in let low = u.middle.low in
    let on : 6 + e.at / 7 < e.blocks = omega (arith, at_is, below, low) in
    let small = put_small e base disk p st u in let within = (put_open e base disk p st u).position in
    let a = u.position in let m = u.most in let few = u.few in
    let next : x.reached ≡ suc (suc j) = omega (arith, reached, t_is, size, at, small, within, a, m, few, some) in
    let c2 = ap length chain2 in let l2 = length-append chain (i ∷ []) in
    let cursor : IsAt (put_done x) p2 = record {
      below = omega (arith, next, c2, l2, last);
      at = λ _. sym (append_last chain i (x.reached - 1) (omega (arith, next, last)))
          ∙ ap (λ c. slice_index c (x.reached - 1)) (sym chain2);
      index = λ _. fresh ∙ ap (λ k. index_for k (chain ++ i ∷ []) (blocks ++ b ∷ [])) (let z : suc j ≡ x.reached - 1 =
          omega (arith, next) in z) ∙ ap (λ c. index_for (x.reached - 1) c (blocks ++ b ∷ [])) (sym chain2)
          ∙ ap (index_for (x.reached - 1) (numbers_at p2.chains e.slot)) (sym datas2);
    } in
    let P : Files → Type 0 = λ y. GoesTo y.phase e.call (call_bytes e) e y base made in
    subst P (sym new) (after_goes e e.entry (fresh_index b e) i x.reached base disk made p p2 st
    (put_whole e base disk (6 + e.at / 7) s on) u n.left refl middle2 refl refl cursor (omega (arith, next, full)))

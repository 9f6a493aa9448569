-- A file is cut: what comes after a block is freed.
use Rattle.std.proofs.Common.{◌≡◌, ◌≢◌, ℕ, suc, ◌+◌, ◌*◌, ◌/◌, ◌<◌, ◌≤◌, Bool, true, false, List, length, refl, sym, ap, ◌∙◌, subst, arith, slice_index_or, negsuc, if◌then◌else◌, not, slice_index, ◌&&◌, ◌%◌, ⊎_elim, nat_lt, ◌==◌}
use Rattle.std.proofs.lemmas.Bool.{cases_lt}
use Rattle.std.proofs.lemmas.Bool.Decides.{nat_tests}
use Rattle.local_files.specs.declared.Files.{Files}
use Rattle.local_files.specs.declared.FileCall.{FileCall}
use Rattle.local_files.specs.declared.FileCall.TheVariants.{Open, Delete, Close, Read, Write, Getc, Putc, Seek, Truncate, Size}
use Rattle.local_files.specs.declared.Phase.{Phase}
use Rattle.local_files.specs.Hands.{but_blocks}
use Rattle.local_files.specs.Steps.{answered}
use Rattle.local_files.specs.Wanted.{going_on}
use Rattle.local_files.specs.Standing.{GoesTo, call_bytes, IsStanding}
use Rattle.std.proofs.Common.{◌-◌, ◌*◌, replicate, length-append, min}
use Rattle.byteorder.specs.Endian.{little_bytes}
use Rattle.lfs_format.specs.declared.Index.{Index}
use Rattle.lfs_format.proofs.Words.{length-little}
use Rattle.lfs_check.specs.Meets.{null}
use Rattle.lfs_check.specs.Geometries.{index_count}
use Rattle.lfs_check.specs.declared.fields.Header.{Header}
use Rattle.lfs_check.specs.Laid.{Places, index_for}
use Rattle.lfs_check.specs.Disks.{disk_geometry}
use Rattle.file_laws.specs.Changing.{IsCut}
use Rattle.local_files.specs.Hands.{IsCutFor, IsCutting, IsCutRead}
use Rattle.local_files.specs.Cuts.{end_cut, free_next, freeing, word_block}
use Rattle.local_files.proofs.Freeing.{end_cut_goes, number_at, null_at, some_at, none_at, goes_from}
use Rattle.std.proofs.lemmas.List.{length-replicate}
use Rattle.local_files.proofs.Standing.{with_block}
use Rattle.local_files.specs.declared.Phase.TheVariants.{Wants}
use Rattle.local_files.specs.declared.Purpose.TheVariants.{CutRead, FreeWrite}

-- what the call is for does not depend on whether its file is cut to nothing yet
pub for_cut : (call : FileCall) (e : Files) (base : List ℕ) → IsCutFor call (but_blocks e) base
    → IsCutFor call (but_blocks (record e { entry = record e.entry { size = 0; first = null } })) base
for_cut (Delete name) e base h = record { slot = h.slot; call = h.call; closed = h.closed; used = h.used; named = h.named }
for_cut (Truncate d) e base h = record { file = h.file; open_is = h.open_is; writes = h.writes; slot = h.slot; named = h.named }
for_cut (Open name mode) e base h = absurd h
for_cut (Close d) e base h = absurd h
for_cut (Read d k) e base h = absurd h
for_cut (Write d) e base h = absurd h
for_cut (Getc d) e base h = absurd h
for_cut (Putc d k) e base h = absurd h
for_cut (Seek d k) e base h = absurd h
for_cut (Size d) e base h = absurd h

-- a file that is cut, with other fields of the engine
abbrev pub cutting_kept : (e : Files) (ph : Phase) (ix : Index) (hd : Header) (a r f : ℕ) (block : List ℕ) (freed freed2 : ℕ)
    (base disk made : List ℕ) (p : Places) (c : IsCutting e freed base disk) → hd.files ≡ e.header.files
    → IsCut e.blocks base made hd e.slot e.entry p c.chain c.blocks r freed2
    → IsCutting (record e { phase = ph; index = ix; header = hd; at = a; reached = r; freed = f; block = block }) freed2 base made
cutting_kept e ph ix hd a r f block freed freed2 base disk made p c files cut = record {
  for = c.for;
  places = p;
  chain = c.chain;
  blocks = c.blocks;
  chain_long = c.chain_long;
  blocks_long = c.blocks_long;
  numbers = c.numbers;
  short = c.short;
  cut = cut;
  size = c.size;
  first = c.first;
  files = files ∙ c.files;
}

-- a disk block of index blocks is on the disk
pub index_on_disk : (n i : ℕ) → 14 ≤ n → i < index_count (disk_geometry n) → nat_lt (6 + i / 7) n ≡ true
index_on_disk n i low h = let q : 6 + i / 7 < n = omega (arith, low, h) in grind (arith, nat_tests)

-- Goes on to an index block.
pub cut_at_goes : (e : Files) (base disk : List ℕ) → IsStanding e base disk → IsCutRead e base disk
    → GoesTo (going_on CutRead e).phase e.call (call_bytes e) e (going_on CutRead e) base disk
cut_at_goes e base disk s r =
    let c = r.cutting in let m = c.cut.middle in
    let i = slice_index c.chain e.reached in
    let below = (c.cut.index e.reached (omega arith) r.below).below in
    let t : nat_lt (6 + e.at / 7) e.blocks ≡ true = ap (λ k. nat_lt (6 + k / 7) e.blocks) r.at ∙ index_on_disk e.blocks i m.low below in
    let e2 : Files = record e { phase = Wants CutRead } in
    let P : Bool → Type 0 = λ v. GoesTo (if v then e2 else answered (negsuc 0) e).phase e.call (call_bytes e) e
    (if v then e2 else answered (negsuc 0) e) base disk in
    subst P (sym t) (
      record {
        standing = s;
        hand = record {
          below = r.below;
          at = r.at;
          cutting = cutting_kept e (Wants CutRead) e.index e.header e.at e.reached e.freed e.block (16 * e.reached) (16 * e.reached) base disk disk
              c.places c refl c.cut;
        };
      },
      refl,
      refl,
      refl,
    )

-- Goes on to the next data block, or the next index block, or the end.
pub free_next_goes : (e : Files) (freed : ℕ) (base disk : List ℕ) → IsStanding e base disk → (c : IsCutting e freed base disk)
    → 0 < e.reached → e.reached ≤ length c.chain → e.index ≡ index_for (e.reached - 1) c.chain c.blocks
    → e.freed ≤ 16 → freed ≡ min (16 * (e.reached - 1) + e.freed) (length c.blocks)
    → GoesTo (free_next e).phase e.call (call_bytes e) e (free_next e) base disk
free_next_goes e freed base disk s c some most index row is =
    ⊎_elim
    (λ (more : 16 * j + e.freed < length c.blocks). ⊎_elim (λ (lt : e.freed < 16). goes_data more lt) (λ (ge : 16 ≤ e.freed).
    goes_on (λ lt. absurd (omega (arith, ge, lt))) (omega (arith, ge, row, is, more))) (cases_lt e.freed 16))
    (λ (less : length c.blocks ≤ 16 * j + e.freed). goes_on (λ lt. null_at j e.freed c.chain c.blocks lt less) (omega (arith, is, less, row)))
    (cases_lt (16 * j + e.freed) (length c.blocks))
  where
    j : ℕ
    j = e.reached - 1

    last : Bool
    last = nat_lt e.freed 16 && not (slice_index e.index.blocks (e.freed % 16) == null)

    G : Files → Type 0
    G x = GoesTo x.phase e.call (call_bytes e) e x base disk

    goes_data : 16 * j + e.freed < length c.blocks → e.freed < 16 → G (free_next e)
    goes_data more lt =
        let b = slice_index c.blocks (16 * j + e.freed) in
        let v : slice_index e.index.blocks (e.freed % 16) ≡ b = ap (λ (x : Index). slice_index x.blocks (e.freed % 16)) index
        ∙ ap (λ k. slice_index (index_for j c.chain c.blocks).blocks k) (let q : e.freed % 16 ≡ e.freed = omega (arith, lt) in q)
        ∙ number_at j e.freed c.chain c.blocks lt more in
        let low = c.numbers (16 * j + e.freed) more in let high = c.cut.middle.high in
        let a : nat_lt e.freed 16 ≡ true = grind (arith, nat_tests) in
        let nn : (b == null) ≡ false = (let q : b ≢ null = λ z. omega (arith, z, low, high) in grind (arith, nat_tests)) in
        let x_is : last ≡ true = ap (λ w. w && not (slice_index e.index.blocks (e.freed % 16) == null)) a ∙ ap (λ w. not (w == null)) v
        ∙ ap not nn in
        let on : nat_lt b e.blocks ≡ true = grind (arith, nat_tests) in
        let e2 : Files = record e { block = word_block e.header.free_data; phase = Wants (FreeWrite b) } in
        let rest = if not (e.index.next == null) then going_on CutRead (record e { at = e.index.next }) else end_cut e in
        let P : Bool → Type 0 = λ w. G (if w then freeing (slice_index e.index.blocks (e.freed % 16)) e else rest) in
        let Q : ℕ → Type 0 = λ k. G (freeing k e) in
        let R : Bool → Type 0 = λ w. G (if w then e2 else answered (negsuc 0) (record e { block = word_block e.header.free_data })) in
        subst P (sym x_is) (subst Q (sym v) (subst R (sym on) (
          record {
            standing = with_block s (word_long e.header.free_data);
            hand = record {
              some = some;
              within = lt;
              most = most;
              index = index;
              below = more;
              here = refl;
              block = refl;
              cutting = cutting_kept e (Wants (FreeWrite b)) e.index e.header e.at e.reached e.freed (word_block e.header.free_data) freed
                  (16 * j + e.freed) base disk disk c.places c refl
                  (let K : ℕ → Type 0 = λ k. IsCut e.blocks base disk e.header e.slot e.entry c.places c.chain c.blocks e.reached k in
                  subst K (let q : freed ≡ 16 * j + e.freed = omega (arith, is, more) in q) c.cut);
            };
          },
          refl,
          refl,
          refl,
        )))
      where
        word_long : (w : ℕ) → length (word_block w) ≡ 512
        word_long w = let l = length-little w in let a = length-append (little_bytes 4 w) (replicate 508 0) in
            let r = length-replicate {A = ℕ} 508 0 in omega (arith, l, a, r)

    goes_on : (e.freed < 16 → slice_index (index_for j c.chain c.blocks).blocks e.freed ≡ null) → (freed ≡ min (16 * j + 16) (length c.blocks))
        → G (free_next e)
    goes_on nulls all =
        let x_is : last ≡ false = ⊎_elim
        (λ (lt : e.freed < 16). (let v : slice_index e.index.blocks (e.freed % 16) ≡ null =
        ap (λ (x : Index). slice_index x.blocks (e.freed % 16)) index
        ∙ ap (λ k. slice_index (index_for j c.chain c.blocks).blocks k) (let q : e.freed % 16 ≡ e.freed = omega (arith, lt) in q)
        ∙ nulls lt in
        let a : nat_lt e.freed 16 ≡ true = grind (arith, nat_tests) in
        ap (λ w. w && not (slice_index e.index.blocks (e.freed % 16) == null)) a ∙ ap (λ w. not (w == null)) v))
        (λ (ge : 16 ≤ e.freed). (let a : nat_lt e.freed 16 ≡ false = grind (arith, nat_tests) in
        ap (λ w. w && not (slice_index e.index.blocks (e.freed % 16) == null)) a))
        (cases_lt e.freed 16) in
        let rest : Bool → Files = λ w. if not w then going_on CutRead (record e { at = e.index.next }) else end_cut e in
        let P : Bool → Type 0 = λ w. G (if w then freeing (slice_index e.index.blocks (e.freed % 16)) e else rest (e.index.next == null)) in
        let chain_long = c.chain_long in let blocks_long = c.blocks_long in
        subst P (sym x_is) (⊎_elim
        (λ (more : e.reached < length c.chain). (let next : e.index.next ≡ slice_index c.chain e.reached = ap (λ (x : Index). x.next) index
        ∙ ap (λ k. slice_index_or c.chain k null) (let q : suc j ≡ e.reached = omega (arith, some) in q)
        ∙ some_at c.chain e.reached null more in
        let below = (c.cut.index e.reached (omega arith) more).below in let high = c.cut.middle.high in
        let nn : (e.index.next == null) ≡ false = ap (λ k. k == null) next
        ∙ (let z : slice_index c.chain e.reached ≢ null = λ w. omega (arith, w, below, high) in
        not_null (slice_index c.chain e.reached) z) in
        let e2 : Files = record e { at = e.index.next } in
        let R : Bool → Type 0 = λ w. G (rest w) in
        let K : ℕ → Type 0 = λ k. IsCut e.blocks base disk e.header e.slot e.entry c.places c.chain c.blocks e.reached k in
        let goes = cut_at_goes e2 base disk (s)
        (record {
          below = more;
          at = next;
          cutting = cutting_kept e e.phase e.index e.header e.index.next e.reached e.freed e.block freed (16 * e.reached) base disk disk c.places c refl
              (subst K (let q : freed ≡ 16 * e.reached = omega (arith, all, some, more, chain_long, blocks_long) in q) c.cut);
        }) in
        subst R (sym nn) (goes_before (going_on CutRead e2).phase (going_on CutRead e2) goes)))
        (λ (end : length c.chain ≤ e.reached). (let next : e.index.next ≡ null = ap (λ (x : Index). x.next) index
        ∙ none_at c.chain (suc j) null (omega (arith, end, some)) in
        let yes : (e.index.next == null) ≡ true = ap (λ k. k == null) next in
        let R : Bool → Type 0 = λ w. G (rest w) in
        subst R (sym yes) (end_cut_goes e freed base disk s c end (omega (arith, all, end, most, some, chain_long, blocks_long)))))
        (cases_lt e.reached (length c.chain)))
      where
        not_null : (k : ℕ) → k ≢ null → (k == null) ≡ false
        not_null k z = grind (arith, nat_tests)

        goes_before : (p : Phase) (x : Files) → GoesTo p e.call (call_bytes e) (let y : Files = record e { at = e.index.next } in
            y) x base disk → GoesTo p e.call (call_bytes e) e x base disk
        goes_before p x g = goes_from p e.call (call_bytes e) (let y : Files = record e { at = e.index.next } in y) e x base disk refl g

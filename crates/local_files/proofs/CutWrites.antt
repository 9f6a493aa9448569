-- A file is cut: its blocks are read and written.
use Rattle.std.proofs.Common.{◌≡◌, ◌≢◌, ℕ, suc, ◌+◌, ◌*◌, ◌/◌, ◌<◌, ◌≤◌, true, false, List, [], ◌∷◌, length, refl, sym, ap, ◌∙◌, subst, arith, slice_index_or, slice_set, if◌then◌else◌, slice_index, ◌%◌, ⊎_elim, ◌++◌, ◌==◌, ◌^◌}
use Rattle.std.proofs.lemmas.Bool.{false≢true, cases_eq}
use Rattle.std.proofs.lemmas.Bool.Decides.{nat_tests}
use Rattle.lfs_format.specs.declared.Entry.{Entry}
use Rattle.lfs_check.specs.Rules.{entry_is_used, block_in}
use Rattle.lfs_check.specs.Disks.{block_put, entry_at}
use Rattle.file_laws.specs.StoredFiles.{entry_bytes}
use Rattle.file_laws.proofs.Counted.{entry_small}
use Rattle.local_files.specs.declared.Files.{Files}
use Rattle.local_files.specs.Standing.{Stands, GoesTo, call_bytes, IsStanding}
use Rattle.local_files.proofs.Closings.{put_whole}
use Rattle.std.proofs.Common.{◌-◌, ◌*◌, drop, replicate}
use Rattle.lfs_format.specs.Words.{word_of}
use Rattle.lfs_format.specs.Indexes.{index_at, IsIndexPut}
use Rattle.lfs_format.proofs.Words.{word_of-bytes}
use Rattle.lfs_check.specs.Meets.{null}
use Rattle.lfs_check.specs.declared.fields.Header.{Header}
use Rattle.lfs_check.specs.Laid.{Places, numbers_at, index_for}
use Rattle.lfs_check.specs.Clean.{places_of}
use Rattle.lfs_check.specs.Fields.{fields_of}
use Rattle.lfs_check.specs.Disks.{disk_geometry, header_on}
use Rattle.lfs_check.proofs.KeepsAll.{either-way}
use Rattle.file_laws.specs.Middle.{IsMiddle}
use Rattle.file_laws.specs.Changing.{IsCut, IsReadBy}
use Rattle.file_laws.proofs.Middles.{middle_begins}
use Rattle.file_laws.proofs.Reached.{middle_read, free_data_first, free_data_some}
use Rattle.file_laws.proofs.Cutting.{cut_begins, cut_data, cut_index}
use Rattle.local_files.specs.Hands.{IsCutFor, IsCutting, IsCutRead, IsCutWrite, IsFreeWrite, but_blocks}
use Rattle.local_files.specs.Cuts.{cutting, end_cut, cut_written, freed_index, free_next, free_written}
use Rattle.local_files.proofs.Closings.{put_whole}
use Rattle.local_files.proofs.Freeing.{end_cut_goes, some_at, goes_from}
use Rattle.local_files.proofs.CutSteps.{for_cut, cutting_kept, cut_at_goes, free_next_goes}
use Rattle.local_files.proofs.Standing.{with_block, with_disk, in_hand}
use Rattle.local_files.specs.declared.Phase.TheVariants.{Wants}
use Rattle.local_files.specs.Steps.{with_index}
use Rattle.local_files.specs.Wanted.{going_on, to_write}
use Rattle.local_files.specs.declared.Purpose.TheVariants.{CutRead, CutWrite, FreeWrite}

-- The index block was read.
pub cut_read_goes : (e e' : Files) (base disk read : List ℕ) → e.phase ≡ Wants CutRead → e' ≡ to_write CutWrite e'.block (with_index (index_at (e.at % 7) read) e)
    → IsIndexPut read (e.at % 7) (freed_index (index_at (e.at % 7) read) e) e'.block → Stands e base disk
    → read ≡ block_in disk (6 + e.at / 7) → GoesTo e'.phase e.call (call_bytes e) e e' base disk
cut_read_goes e e' base disk read phase new put s honest =
    let r : IsCutRead e base disk = in_hand phase s in
    let c = r.cutting in
    let i = slice_index c.chain e.reached in
    let index : index_at (e.at % 7) read ≡ index_for e.reached c.chain c.blocks =
    ap (index_at (e.at % 7)) honest ∙ ap (λ k. index_at (k % 7) (block_in disk (6 + k / 7))) r.at
    ∙ (c.cut.index e.reached (omega arith) r.below).read in
    let e2 : Files = record e { index = index_at (e.at % 7) read; block = e'.block; phase = Wants CutWrite } in
    let R : List ℕ → Type 0 = λ b. IsIndexPut b (e.at % 7) (freed_index (index_at (e.at % 7) read) e) e'.block in
    let P : Files → Type 0 = λ x. GoesTo x.phase e.call (call_bytes e) e x base disk in
    subst P (sym new) (
      record {
        standing = with_block s.standing put.long;
        hand = record {
          index = index;
          put = subst R honest put;
          read = record {
            below = r.below;
            at = r.at;
            cutting = cutting_kept e (Wants CutWrite) (index_at (e.at % 7) read) e.header e.at e.reached e.freed e'.block (16 * e.reached)
                (16 * e.reached) base disk disk c.places c refl c.cut;
          };
        };
      },
      refl,
      refl,
      refl,
    )

-- The index block is written.
pub cut_written_goes : (e e' : Files) (base disk : List ℕ) → e.phase ≡ Wants CutWrite → e' ≡ free_next (cut_written e) → Stands e base disk
    → GoesTo e'.phase e.call (call_bytes e) e e' base (block_put disk (6 + e.at / 7) e.block)
cut_written_goes e e' base disk phase new s =
    let w : IsCutWrite e base disk = in_hand phase s in
    let r = w.read in let c = r.cutting in
    let i = slice_index c.chain e.reached in
    let made = block_put disk (6 + e.at / 7) e.block in
    let below = (c.cut.index e.reached (omega arith) r.below).below in let low = c.cut.middle.low in
    let at_is = r.at in
    let on : 6 + e.at / 7 < e.blocks = omega (arith, at_is, below, low) in
    let R : ℕ → Type 0 = λ k. IsIndexPut (block_in disk (6 + k / 7)) (k % 7) (freed_index e.index e) e.block in
    let cut = cut_index e.blocks base disk e.header e.slot e.entry c.places c.chain c.blocks e.reached (16 * e.reached)
    (freed_index e.index e) e.block c.cut r.below refl (subst R r.at w.put) in
    let e2 : Files = cut_written e in
    let p2 : Places = record c.places { free_index = i ∷ c.places.free_index; held_index = drop (suc e.reached) c.chain } in
    let short = c.short in let lt = r.below in
    let up : (e.reached + 1) % 4294967296 ≡ suc e.reached = omega (arith, short, lt) in
    let T : ℕ → ℕ → Type 0 = λ k j. IsCut e.blocks base (block_put disk (6 + k / 7) e.block) (let x : Header =
    record e.header { free_index = k } in x) e.slot e.entry p2 c.chain c.blocks j (16 * e.reached) in
    let A : ℕ → Type 0 = λ k. T k (suc e.reached) in
    let B : ℕ → Type 0 = λ j. T e.at j in
    let cut2 = subst B (sym up) (subst A (sym r.at) cut) in
    let c2 : IsCutting e2 (16 * e.reached) base made = cutting_kept e e.phase e.index (record e.header { free_index = e.at }) e.at ((e.reached + 1) % 4294967296) 0 e.block
    (16 * e.reached) (16 * e.reached) base disk made p2 c refl cut2 in
    let cl = c.chain_long in let bl = c.blocks_long in
    let goes = free_next_goes e2 (16 * e.reached) base made (with_disk s.standing (put_whole e base disk (6 + e.at / 7) s on))
    c2 (omega (arith, up)) (omega (arith, up, lt)) (w.index
    ∙ ap (λ k. index_for k c.chain c.blocks) (let q : e.reached ≡ (e.reached + 1) % 4294967296 - 1 = omega (arith, up) in
    q)) (omega arith) (omega (arith, up, lt, cl, bl)) in
    let P : Files → Type 0 = λ x. GoesTo x.phase e.call (call_bytes e) e x base made in
    subst P (sym new) (goes_from (free_next e2).phase e.call (call_bytes e) e2 e (free_next e2) base made refl goes)

-- A data block is written.
pub free_written_goes : (e e' : Files) (b : ℕ) (base disk : List ℕ) → e.phase ≡ Wants (FreeWrite b) → e' ≡ free_next (free_written b e)
    → Stands e base disk → GoesTo e'.phase e.call (call_bytes e) e e' base (block_put disk b e.block)
free_written_goes e e' b base disk phase new s =
    let w : IsFreeWrite e b base disk = in_hand phase s in
    let c = w.cutting in let k = 16 * (e.reached - 1) + e.freed in
    let x = slice_index c.blocks k in
    let made = block_put disk b e.block in
    let here = w.here in let low = c.numbers k w.below in
    let on : b < e.blocks = omega (arith, here, low) in
    let head_small : e.header.free_data < 2 ^ 32 = head_fits e base disk c.places c.cut.middle in
    let word : word_of e.block ≡ e.header.free_data = ap word_of w.block ∙ word_of-bytes e.header.free_data (replicate 508 0) head_small in
    let cut = cut_data e.blocks base disk e.header e.slot e.entry c.places c.chain c.blocks e.reached k e.block c.cut w.below s.outgoing word in
    let e2 : Files = free_written b e in
    let p2 : Places = record c.places { free_data = x ∷ c.places.free_data; held_data = drop (suc k) c.blocks } in
    let row = w.within in
    let up : (e.freed + 1) % 4294967296 ≡ suc e.freed = omega (arith, row) in
    let A : ℕ → Type 0 = λ y. IsCut e.blocks base (block_put disk y e.block) (let h : Header = record e.header { free_data = y } in
    h) e.slot e.entry p2 c.chain c.blocks e.reached (suc k) in
    let cut2 = subst A (sym w.here) cut in
    let c2 : IsCutting e2 (suc k) base made = cutting_kept e e.phase e.index (record e.header { free_data = b }) e.at e.reached ((e.freed + 1) % 4294967296) e.block k (suc k)
    base disk made p2 c refl cut2 in
    let more = w.below in
    let goes = free_next_goes e2 (suc k) base made (with_disk s.standing (put_whole e base disk b s on))
    c2 w.some w.most w.index (omega (arith, up, row)) (omega (arith, up, more)) in
    let P : Files → Type 0 = λ x. GoesTo x.phase e.call (call_bytes e) e x base made in
    subst P (sym new) (goes_from (free_next e2).phase e.call (call_bytes e) e2 e (free_next e2) base made refl goes)
  where
    head_fits : (e : Files) (base disk : List ℕ) (p : Places) → IsMiddle e.blocks base disk e.header e.slot e.entry p []
        → e.header.free_data < 2 ^ 32
    head_fits e base disk p m = ⊎_elim
        (λ (z : e.header.free_data ≡ null). omega (arith, z))
        (λ (z : e.header.free_data ≢ null).
        (let f = free_data_first e.blocks base disk e.header e.slot e.entry p [] e.header.free_data (drop 1 p.free_data) m
        (free_data_some e.blocks base disk e.header e.slot e.entry p [] m z) in
        let high = f.high in let most = m.high in omega (arith, high, most)))
        (cases_eq e.header.free_data null)

-- The file in hand is cut: its blocks are to be freed.
pub cutting_goes : (e : Files) (base : List ℕ) → IsStanding e base base → e.slot < 78 → entry_at base e.slot ≡ e.entry
    → entry_is_used e.entry ≡ true → e.header ≡ header_on base → IsCutFor e.call (but_blocks e) base
    → GoesTo (cutting e.entry e).phase e.call (call_bytes e) e (cutting e.entry e) base base
cutting_goes e base s slot entry used header for =
    either-way (e.entry.size == 0) (λ v. (e.entry.size == 0) ≡ v → G (if v then end_cut e2 else going_on CutRead e2))
    (λ _ t. (let z : e.entry.size ≡ 0 = grind (arith, nat_tests) in
    goes_from (end_cut e2).phase e.call (call_bytes e) e2 e (end_cut e2) base base refl
    (end_cut_goes e2 0 base base s2 c2 (omega (arith, chain_long, z)) (omega (arith, blocks_long, z)))))
    (λ _ t. (let z : e.entry.size ≢ 0 = (λ q. not_zero e.entry.size q t) in
    let more : 0 < length chain = omega (arith, chain_long, z) in
    goes_from (going_on CutRead e2).phase e.call (call_bytes e) e2 e (going_on CutRead e2) base base refl (cut_at_goes e2 base base s2 (record {
      cutting = c2;
      below = more;
      at = first ∙ some_at chain 0 null more;
    }))))
    refl
  where
    G : Files → Type 0
    G x = GoesTo x.phase e.call (call_bytes e) e x base base

    n : ℕ
    n = length base / 512

    same : n ≡ e.blocks
    same = let b = s.blocks in omega (arith, b)

    p : Places
    p = places_of (disk_geometry n) (fields_of (disk_geometry n) base)

    m : IsMiddle n base base (header_on base) e.slot (entry_at base e.slot) p (entry_bytes base (entry_at base e.slot))
    m = middle_begins base e.slot s.clean slot (ap entry_is_used entry ∙ used)

    chain : List ℕ
    chain = numbers_at p.chains e.slot

    blocks : List ℕ
    blocks = numbers_at p.datas e.slot

    read : IsReadBy n base (entry_at base e.slot) chain blocks
    read = middle_read n base base (header_on base) e.slot (entry_at base e.slot) p (entry_bytes base (entry_at base e.slot)) m

    chain_long : length chain ≡ (e.entry.size + 8191) / 8192
    chain_long = read.chain_long ∙ ap (λ (x : Entry). (x.size + 8191) / 8192) entry

    blocks_long : length blocks ≡ (e.entry.size + 511) / 512
    blocks_long = read.blocks_long ∙ ap (λ (x : Entry). (x.size + 511) / 512) entry

    first : e.entry.first ≡ slice_index_or chain 0 null
    first = ap (λ (x : Entry). x.first) (sym entry) ∙ read.first

    e2 : Files
    e2 = record e { at = e.entry.first; reached = 0; freed = 0; entry = record e.entry { size = 0; first = null } }

    s2 : IsStanding e2 base base
    s2 = s

    p2 : Places
    p2 = record p {
      chains = slice_set p.chains e.slot [];
      datas = slice_set p.datas e.slot [];
      held_index = numbers_at p.chains e.slot ++ p.held_index;
      held_data = numbers_at p.datas e.slot ++ p.held_data;
    }

    begun : IsCut n base base (header_on base) e.slot e2.entry p2 chain blocks 0 0
    begun = cut_begins n base base (header_on base) e.slot (entry_at base e.slot) e2.entry p
        (entry_bytes base (entry_at base e.slot)) m refl refl (ap (λ (x : Entry). x.name) (sym entry)) refl refl

    small : e.entry.size ≤ 33557504
    small = let P : Entry → Type 0 = λ x. x.size ≤ 33557504 in
        subst P entry (entry_small base s.clean e.slot slot (ap entry_is_used entry ∙ used))

    c2 : IsCutting e2 0 base base
    c2 = record {
      for = for_cut e.call e base for;
      places = p2;
      chain = chain;
      blocks = blocks;
      chain_long = read.chain_long;
      blocks_long = read.blocks_long;
      numbers = λ j h. (let r = (read.block j h).1 in omega (arith, r, same));
      short = (let l = small in omega (arith, chain_long, l));
      cut = (let C : ℕ → Header → Type 0 = λ k h. IsCut k base base h e.slot e2.entry p2 chain blocks 0 0 in let A : ℕ
          → Type 0 = λ k. C k e.header in let B : Header → Type 0 = λ h. C n h in subst A same (subst B (sym header) begun));
      size = refl;
      first = refl;
      files = ap (λ (x : Header). x.files) header;
    }

    not_zero : (k : ℕ) → k ≡ 0 → (k == 0) ≡ false → ⊥
    not_zero k q t = false≢true (sym t ∙ ap (λ x. x == 0) q)

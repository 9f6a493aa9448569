-- The block that is wanted lies on the disk, and a completion changes no other.
use Rattle.std.proofs.Common.{◌≢◌, ℕ, ◌+◌, ◌-◌, ◌*◌, ◌/◌, ◌%◌, ◌<◌, ◌≤◌, List, [], drop, refl, sym, ◌∙◌, arith, take, Option, Some, None, IsSome, ⊎_elim}
use Rattle.std.proofs.lemmas.Bool.{false≢true, cases_lt}
use Rattle.lfs_check.specs.Geometries.{index_count}
use Rattle.lfs_check.specs.Laid.{Places, numbers_at}
use Rattle.lfs_check.specs.Disks.{disk_geometry, entry_at}
use Rattle.lfs_check.proofs.BlockPuts.{length_put, put_other}
use Rattle.lfs_check.proofs.KeepsAll.{either-way}
use Rattle.xinu_model.specs.Files.Writing.{overwritten}
use Rattle.file_laws.specs.StoredFiles.{entry_bytes, entry_chain, entry_data}
use Rattle.file_laws.specs.Changing.{IsReadBy}
use Rattle.file_laws.proofs.Reached.{middle_read, free_data_first, free_data_some, free_index_first, free_index_some, index_below}
use Rattle.file_laws.proofs.Patched.{held_range, times_first}
use Rattle.local_files.specs.declared.Files.{Files}
use Rattle.local_files.specs.declared.BlockWork.{BlockWork}
use Rattle.local_files.specs.declared.BlockWork.TheVariants as work
use Rattle.local_files.specs.declared.Phase.{Phase}
use Rattle.local_files.specs.Hands.{put_bytes, IsReading, IsCutRead}
use Rattle.local_files.specs.Putting.{IsPutting, IsPatch, IsFilled, IsNew, IsAt}
use Rattle.local_files.specs.Puts.{target}
use Rattle.local_files.specs.Steps.{at_byte, is_truncate}
use Rattle.local_files.specs.Standing.{Stands, InHand, wanted, wanted_in, served, served_by, IsStanding}
use Rattle.local_files.specs.Bounds.{left, left_in, cut_left, put_left}
use Rattle.std.proofs.Common.{if◌then◌else◌}
use Rattle.local_files.specs.Resting.{IsOnDisk, ChangesOneBlock}
use Rattle.local_files.proofs.Closings.{blocks_many}
use Rattle.local_files.proofs.Taking.{reading_file}
use Rattle.local_files.proofs.PutSteps.{inside_is}
use Rattle.local_files.proofs.Standing.{at_base}
use Rattle.local_files.specs.declared.Phase.TheVariants.{Idle, Done, Wants}
use Rattle.local_files.specs.declared.Purpose.TheVariants.{Search, Walk, Fetch, Counts, Reach, PatchRead, PatchWrite, TakeRead, TakeWrite, AddRead, AddWrite, NewRead, NewWrite, LinkRead, LinkWrite, CutRead, CutWrite, FreeWrite, EntryRead, EntryWrite, HeaderRead, HeaderWrite}

-- the disk block of an index block
index_block : (n i : ℕ) → 14 ≤ n → i < index_count (disk_geometry n) → 6 + i / 7 < n
index_block n i low h = omega (arith, low, h)

module _ (e : Files) (base disk : List ℕ) (s : Stands e base disk) where
  st : IsStanding e base disk
  st = s.standing

  low : 14 ≤ e.blocks
  low = (blocks_many e base disk s).0

  -- the file that is read
  read_by : (r : IsReading e base) → IsReadBy e.blocks base r.file.entry (entry_chain base r.file.entry) (entry_data base r.file.entry)
  read_by r = reading_file e base (at_base s.standing) r

  -- the bytes that the file in hand has
  abbrev bytes : List ℕ
  bytes = overwritten e.counters.position (take e.counters.done (put_bytes e)) (entry_bytes base (entry_at base e.slot))

  -- the file that is written
  put_by : (p : Places) → IsPutting e base disk p
      → IsReadBy e.blocks disk e.entry (numbers_at p.chains e.slot) (numbers_at p.datas e.slot)
  put_by p u = middle_read e.blocks base disk e.header e.slot e.entry p bytes u.middle

  -- the index block that a write is at
  at_block : (p : Places) → IsPutting e base disk p → IsAt e p → 0 < e.reached → 6 + e.at / 7 < e.blocks
  at_block p u c some =
      let few = c.below in let at = c.at some in
      let b = ((put_by p u).index (e.reached - 1) (omega (arith, few, some))).below in
      omega (arith, at, b, low)

  -- the data block of bytes within the file
  patch_block : (b : ℕ) → IsPatch e b base disk → b < e.blocks
  patch_block b h =
      let r = h.ready in let p = r.places in
      let i = inside_is e base disk p st r.putting h.inside in
      let n = ((put_by p r.putting).block (at_byte e / 512) i).1 in let here = h.here in
      omega (arith, here, n)

  -- the index block that is before a new data block
  add_block : (b : ℕ) → IsFilled e b base disk → at_byte e % 8192 ≢ 0 → 6 + e.at / 7 < e.blocks
  add_block b h room =
      let k = h.taken in
      let some : 0 < at_byte e = (⊎_elim (λ (z : at_byte e < 1). absurd (room (omega (arith, z)))) (λ (z : 1 ≤ at_byte e). z)
      (cases_lt (at_byte e) 1)) in
      let at = k.reached some in
      at_block k.places k.putting k.cursor (omega (arith, at))

  -- the index block that is to name a new one
  link_block : (b i : ℕ) → IsNew e b i base disk → 0 < at_byte e → 6 + e.at / 7 < e.blocks
  link_block b i n some = let at = n.reached some in at_block n.places n.putting n.cursor (omega (arith, at))

  -- the index block that is cut
  cut_block : IsCutRead e base disk → 6 + e.at / 7 < e.blocks
  cut_block h =
      let at = h.at in let b = (h.cutting.cut.index e.reached (omega arith) h.below).below in
      omega (arith, at, b, low)

  -- each phase wants a block of the disk
  in_phase : (p : Phase) → InHand p e base disk → IsOnDisk (wanted_in p e) e.blocks
  in_phase Idle h = tt
  in_phase (Done r) h = tt
  in_phase (Wants (Search d)) h = let b = h.block in omega (arith, b, low)
  in_phase (Wants (Walk rest at)) h =
      let r = h.reading in let f = read_by r in let here = h.here in let few = h.few in
      let l = f.chain_long in let w = r.within in let t = r.total in let d = r.left in
      let b = (f.index ((r.file.position + e.counters.done) / 8192 - rest) (omega (arith, l, w, t, d))).below in
      omega (arith, here, b, low)
  in_phase (Wants (Fetch k)) h =
      let r = h.reading in let f = read_by r in let here = h.here in
      let l = f.blocks_long in let w = r.within in let t = r.total in let d = r.left in
      let b = (f.block ((r.file.position + e.counters.done) / 512) (omega (arith, l, w, t, d))).1 in
      omega (arith, here, b)
  in_phase (Wants Counts) h = omega (arith, low)
  in_phase (Wants (Reach rest at)) h =
      let here = h.here in let t = h.below in
      let b = ((put_by h.ready.places h.ready.putting).index (target e - rest) (omega (arith, t))).below in
      omega (arith, here, b, low)
  in_phase (Wants (PatchRead k)) h = patch_block k h
  in_phase (Wants (PatchWrite k)) h = patch_block k h.patch
  in_phase (Wants (TakeRead k)) h =
      let r = h.ready in let p = r.places in let m = r.putting.middle in let some = h.some in let head = h.head in
      let f = free_data_first e.blocks base disk e.header e.slot e.entry p bytes e.header.free_data (drop 1 p.free_data) m
      (free_data_some e.blocks base disk e.header e.slot e.entry p bytes m (λ z. some (sym head ∙ z))) in
      let high = f.high in omega (arith, high, head)
  in_phase (Wants (TakeWrite k)) h = (held_range e.blocks base disk e.header e.slot e.entry h.taken.places bytes k h.taken.putting.middle
      (times_first k h.taken.places.held_data [] h.taken.held)).1
  in_phase (Wants (AddRead k)) h = add_block k h.0 h.1
  in_phase (Wants (AddWrite k)) h = add_block k h.filled h.room
  in_phase (Wants (NewRead k i)) h =
      let t = h.0.taken in let p = t.places in let m = t.putting.middle in let head = h.1.1 in
      let f = free_index_first e.blocks base disk e.header e.slot e.entry p bytes e.header.free_index (drop 1 p.free_index) m
      (free_index_some e.blocks base disk e.header e.slot e.entry p bytes m (t.index h.1.0)) in
      let b = f.below in omega (arith, b, head, low)
  in_phase (Wants (NewWrite k i)) h =
      let n = h.new in let one = n.putting.middle.laid.one_index i in let t = times_first i n.places.held_index [] n.held_index in
      index_block e.blocks i low (index_below (index_count (disk_geometry e.blocks)) i (omega (arith, one, t)))
  in_phase (Wants (LinkRead k i)) h = link_block k i h.new h.some
  in_phase (Wants (LinkWrite k i)) h = link_block k i h.link.new h.link.some
  in_phase (Wants CutRead) h = cut_block h
  in_phase (Wants CutWrite) h = cut_block h.read
  in_phase (Wants (FreeWrite k)) h = let b = h.cutting.numbers (16 * (e.reached - 1) + e.freed) h.below in let here = h.here in omega (arith, b, here)
  in_phase (Wants EntryRead) h = let b = h.slot in omega (arith, b, low)
  in_phase (Wants EntryWrite) h = let b = h.slot in omega (arith, b, low)
  in_phase (Wants HeaderRead) h = omega (arith, low)
  in_phase (Wants HeaderWrite) h = omega (arith, low)

  -- what is wanted is on the disk
  pub wanted_within : IsOnDisk (wanted e) e.blocks
  wanted_within = in_phase e.phase s.hand

  -- a completion changes at most one block
  pub one_block : ChangesOneBlock disk (served e disk)
  one_block = by_work (wanted e) wanted_within
    where
      by_work : (w : Option BlockWork) → IsOnDisk w e.blocks → ChangesOneBlock disk (served_by w e.block disk)
      by_work None h = record { block = 0; long = refl; others = λ m ne. refl }
      by_work (Some (work.Read n)) h = record { block = n; long = refl; others = λ m ne. refl }
      by_work (Some (work.Write n)) h =
          let long = (blocks_many e base disk s).1 in
          record {
            block = n;
            long = length_put disk n e.blocks e.block long h s.outgoing;
            others = λ m ne. put_other disk n e.blocks e.block m long h s.outgoing ne;
          }

  -- while a block is wanted, a completion is left
  pub some_left : IsSome (wanted e) → 1 ≤ left e base
  some_left w = by_phase e.phase w s.hand
    where
      by_phase : (p : Phase) → IsSome (wanted_in p e) → InHand p e base disk → 1 ≤ left_in p e base
      by_phase Idle w h = absurd (false≢true w)
      by_phase (Done r) w h = absurd (false≢true w)
      by_phase (Wants (Search d)) w h = omega arith
      by_phase (Wants (Walk rest at)) w h = omega arith
      by_phase (Wants (Fetch b)) w h = let d = h.reading.left in omega (arith, d)
      by_phase (Wants Counts) w h = either-way (is_truncate e.call)
          (λ v. 1 ≤ (if v then 1 + cut_left (entry_at base e.slot).size 0 0 else e.counters.position / 8192 + 8 + put_left e)) (λ _. omega arith)
          (λ _. omega arith)
      by_phase (Wants (Reach rest at)) w h = omega arith
      by_phase (Wants (PatchRead b)) w h = omega arith
      by_phase (Wants (PatchWrite b)) w h = omega arith
      by_phase (Wants (TakeRead b)) w h = omega arith
      by_phase (Wants (TakeWrite b)) w h = omega arith
      by_phase (Wants (AddRead b)) w h = omega arith
      by_phase (Wants (AddWrite b)) w h = omega arith
      by_phase (Wants (NewRead b i)) w h = omega arith
      by_phase (Wants (NewWrite b i)) w h = omega arith
      by_phase (Wants (LinkRead b i)) w h = omega arith
      by_phase (Wants (LinkWrite b i)) w h = omega arith
      by_phase (Wants CutRead) w h = omega arith
      by_phase (Wants CutWrite) w h = omega arith
      by_phase (Wants (FreeWrite b)) w h = omega arith
      by_phase (Wants EntryRead) w h = omega arith
      by_phase (Wants EntryWrite) w h = omega arith
      by_phase (Wants HeaderRead) w h = omega arith
      by_phase (Wants HeaderWrite) w h = omega arith

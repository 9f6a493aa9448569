-- A call that will be refused leaves the disk as it was when the call began.
use Rattle.std.proofs.Common.{◌≡◌, ◌≢◌, ℕ, ◌+◌, ◌-◌, ◌%◌, ◌==◌, ◌<◌, ◌≤◌, true, false, List, [], length, refl, sym, ap, ◌∙◌, subst, arith, Some, ℤ, negsuc, ⊎_elim, take, length-take, ◌⊎◌, inl, inr}
use Rattle.std.proofs.lemmas.Bool.{cases_lt}
use Rattle.std.proofs.lemmas.Bool.Decides.{nat_tests}
use Rattle.lfs_format.specs.declared.Entry.{Entry}
use Rattle.lfs_check.specs.Disks.{entry_at}
use Rattle.lfs_check.specs.Laid.{Places}
use Rattle.lfs_check.proofs.KeepsAll.{either-way}
use Rattle.lfs_layout.specs.Files.{bare_name}
use Rattle.xinu_model.specs.Files.Calls as model
use Rattle.xinu_model.specs.Files.Room.{data_blocks, index_blocks}
use Rattle.xinu_model.specs.Files.Systems as systems
use Rattle.xinu_model.specs.Files.Systems.{open_bytes, is_open}
use Rattle.xinu_model.specs.Files.Writing.{overwritten, fitting}
use Rattle.file_laws.specs.StoredFiles.{entry_bytes}
use Rattle.file_laws.proofs.Effects.{write_granted, putc_granted, truncate_granted, delete_granted}
use Rattle.file_laws.proofs.Fitting.{open_is, length_overwritten, fitting_least}
use Rattle.file_laws.proofs.Reached.{free_index_some}
use Rattle.local_files.specs.declared.OpenFile.{OpenFile}
use Rattle.local_files.specs.declared.Files.{Files}
use Rattle.local_files.specs.declared.FileCall.{FileCall}
use Rattle.local_files.specs.declared.FileCall.TheVariants.{Open, Delete, Close, Read, Write, Getc, Putc, Seek, Truncate, Size}
use Rattle.local_files.specs.declared.Phase.{Phase}
use Rattle.local_files.specs.Hands.{system, IsEnding, IsCutFor, IsEmptied, IsDeleting, name_of, put_bytes, seen, but_blocks}
use Rattle.local_files.specs.Putting.{IsPut, IsPutting, IsReady, IsPatch, IsTaken, IsNew}
use Rattle.local_files.specs.Puts.{at_end}
use Rattle.local_files.specs.Resting.{WillBeRefused}
use Rattle.local_files.specs.Standing.{Stands, InHand, call_of, given_bytes, served, served_by, wanted_in, IsStanding}
use Rattle.local_files.specs.Steps.{at_byte, device_at, device_of, shown}
use Rattle.local_files.proofs.Closings.{creates}
use Rattle.local_files.proofs.Devices.{shown_at}
use Rattle.local_files.proofs.Putting.{put_open, put_entry_is, puts_long, put_size, where_put}
use Rattle.local_files.proofs.PutSteps.{ends_is, not_ends}
use Rattle.local_files.specs.declared.Phase.TheVariants.{Idle, Done, Wants}
use Rattle.local_files.specs.declared.Purpose.TheVariants.{Search, Walk, Fetch, Counts, Reach, PatchRead, PatchWrite, TakeRead, TakeWrite, AddRead, AddWrite, NewRead, NewWrite, LinkRead, LinkWrite, CutRead, CutWrite, FreeWrite, EntryRead, EntryWrite, HeaderRead, HeaderWrite}

-- the reply that a call in hand will have
abbrev reply_for : FileCall → Files → List ℕ → ℤ
reply_for c e base = (model.file_effect (call_of c (given_bytes c (put_bytes e))) (given_bytes c (put_bytes e)) (system e base)).reply

-- how large the file is once the first k bytes are put
abbrev size_with : (e : Files) → OpenFile → ℕ → ℕ
size_with e f k = e.counters.position + k + (f.entry.size - (e.counters.position + k))

-- the first k bytes are put if the blocks that are free and those that are held have room for them
put_least : (e : Files) (base disk : List ℕ) (p : Places) → IsStanding e base disk → (u : IsPutting e base disk p) → (k : ℕ) → k ≤ e.counters.total
    → data_blocks (size_with e u.file k) ≤ data_blocks e.entry.size + (length p.free_data + length p.held_data)
    → index_blocks (size_with e u.file k) ≤ index_blocks e.entry.size + (length p.free_index + length p.held_index)
    → k ≤ fitting (seen u.file) (put_bytes e) (system e base)
put_least e base disk p s u k few datas indexes =
    let o = put_open e base disk p s u in let is = put_entry_is e base disk p s u in let m = u.middle in
    let name : (seen u.file).name ≡ bare_name (entry_at base e.slot).name = ap (λ (x : Entry). bare_name x.name) (sym is) in
    let bytes = overwritten e.counters.position (take e.counters.done (put_bytes e)) (entry_bytes base (entry_at base e.slot)) in
    let old = open_bytes (seen u.file) (system e base) in
    let long = open_is base e.slot (seen u.file) (system e base) e.blocks disk e.header e.entry p bytes m refl name in
    let size = ap (λ (x : Entry). x.size) is in let within = o.position in
    let n = puts_long e base disk p s u in let t = length-take k (put_bytes e) in let a = u.position in
    let l = length_overwritten u.file.position (take k (put_bytes e)) old (omega (arith, within, long, size)) in
    let sized : length (overwritten u.file.position (take k (put_bytes e)) old) ≡ size_with e u.file k =
    omega (arith, l, t, n, few, long, size, a) in
    let D : ℕ → Type 0 = λ j. data_blocks j ≤ data_blocks e.entry.size + (length p.free_data + length p.held_data) in
    let I : ℕ → Type 0 = λ j. index_blocks j ≤ index_blocks e.entry.size + (length p.free_index + length p.held_index) in
    fitting_least e.blocks base disk e.header e.slot e.entry p bytes (seen u.file) (system e base) (put_bytes e) k m refl refl name
    (omega (arith, few, n)) (subst D (sym sized) datas) (subst I (sym sized) indexes)

-- what the abstract machine sees of a device that has a file open
open_seen : (e : Files) (base : List ℕ) (d : ℕ) (f : OpenFile) → device_at e d ≡ Some f → systems.open_at (system e base) d ≡ Some (seen f)
open_seen e base d f at = shown_at e.devices d ∙ ap shown at

-- a call that puts bytes isn't refused if there is room for some of them
granted_put : (e : Files) (base disk : List ℕ) (p : Places) → (u : IsPutting e base disk p)
    → 0 < fitting (seen u.file) (put_bytes e) (system e base) → reply_for e.call e base ≢ negsuc 0
granted_put e base disk p u some = by_call e.call refl u.call
  where
    at : (c : FileCall) → e.call ≡ c → systems.open_at (system e base) (device_of c) ≡ Some (seen u.file)
    at c is = open_seen e base (device_of c) u.file (ap (λ k. device_at e (device_of k)) (sym is) ∙ u.open_is)

    by_call : (c : FileCall) → e.call ≡ c → IsPut c (put_bytes e) → reply_for c e base ≢ negsuc 0
    by_call (Write d) is h = write_granted (put_bytes e) d (seen u.file) (system e base) (at (Write d) is) u.writes some
    by_call (Putc d b) is h =
        let P : List ℕ → Type 0 = λ x. 0 < fitting (seen u.file) x (system e base) in
        putc_granted [] d b (seen u.file) (system e base) (at (Putc d b) is) u.writes (subst P h some)
    by_call (Open a b) is h = absurd h
    by_call (Delete a) is h = absurd h
    by_call (Close a) is h = absurd h
    by_call (Read a b) is h = absurd h
    by_call (Getc a) is h = absurd h
    by_call (Seek a b) is h = absurd h
    by_call (Truncate a) is h = absurd h
    by_call (Size a) is h = absurd h

-- once some bytes are put, there is room for some
some_put : (e : Files) (base disk : List ℕ) (p : Places) → IsStanding e base disk → (u : IsPutting e base disk p) → 0 < e.counters.done
    → 0 < fitting (seen u.file) (put_bytes e) (system e base)
some_put e base disk p s u some =
    let z = put_size e base disk p s u in
    let least = put_least e base disk p s u e.counters.done u.few (omega (arith, z)) (omega (arith, z)) in
    omega (arith, some, least)

-- there is room for one more in a data block of the file
more_in_place : (e : Files) (b : ℕ) (base disk : List ℕ) → IsStanding e base disk → (h : IsPatch e b base disk)
    → 0 < fitting (seen h.ready.putting.file) (put_bytes e) (system e base)
more_in_place e b base disk s h =
    let r = h.ready in let u = r.putting in let p = r.places in
    let z = put_size e base disk p s u in let q = where_put e base disk p s u in let left = h.left in
    let within : (at_byte e < e.entry.size) ⊎ (at_byte e % 512 ≢ 0) =
    ⊎_elim (λ (lt : at_byte e < e.entry.size). inl lt)
    (λ (ge : e.entry.size ≤ at_byte e). inr (not_ends e h.inside (omega (arith, ge, z, q)))) (cases_lt (at_byte e) e.entry.size) in
    let least = put_least e base disk p s u (e.counters.done + 1) (omega (arith, left))
    (⊎_elim (λ (lt : at_byte e < e.entry.size). omega (arith, lt, z, q)) (λ (n : at_byte e % 512 ≢ 0). omega (arith, n, z, q)) within)
    (⊎_elim (λ (lt : at_byte e < e.entry.size). omega (arith, lt, z, q)) (λ (n : at_byte e % 512 ≢ 0). omega (arith, n, z, q)) within) in
    omega (arith, least)

-- there is room for one more if a data block is held, and an index block is there if one is needed
more_at_end : (e : Files) (base disk : List ℕ) (p : Places) → IsStanding e base disk → (u : IsPutting e base disk p) → e.counters.done < e.counters.total
    → at_end e ≡ true → 1 ≤ length p.held_data
    → (at_byte e % 8192 ≡ 0 → 1 ≤ length p.free_index + length p.held_index)
    → 0 < fitting (seen u.file) (put_bytes e) (system e base)
more_at_end e base disk p s u left ends held index =
    let z = put_size e base disk p s u in let q = where_put e base disk p s u in
    let at = ends_is e ends in let same = at.0 in let whole = at.1 in
    let least = put_least e base disk p s u (e.counters.done + 1) (omega (arith, left)) (omega (arith, z, q, same, whole, held))
    (either-way (at_byte e % 8192 == 0) (λ v. (at_byte e % 8192 == 0) ≡ v
    → index_blocks (size_with e u.file (e.counters.done + 1)) ≤ index_blocks e.entry.size + (length p.free_index + length p.held_index))
    (λ _ t. (let first : at_byte e % 8192 ≡ 0 = grind (arith, nat_tests) in let one = index first in
    omega (arith, z, q, same, first, one)))
    (λ _ t. (let inner : at_byte e % 8192 ≢ 0 = grind (arith, nat_tests) in omega (arith, z, q, same, inner)))
    refl) in
    omega (arith, least)

-- so it is once a data block is taken
more_taken : (e : Files) (b : ℕ) (base disk : List ℕ) → IsStanding e base disk → (t : IsTaken e b base disk)
    → 0 < fitting (seen t.putting.file) (put_bytes e) (system e base)
more_taken e b base disk s t =
    let p = t.places in let held = ap length t.held in
    more_at_end e base disk p s t.putting t.left t.ends (omega (arith, held)) (λ z. (
    let free = ap length (free_index_some e.blocks base disk e.header e.slot e.entry p
    (overwritten e.counters.position (take e.counters.done (put_bytes e)) (entry_bytes base (entry_at base e.slot))) t.putting.middle (t.index z)) in
    omega (arith, free)))

-- and once an index block is taken besides
more_new : (e : Files) (b i : ℕ) (base disk : List ℕ) → IsStanding e base disk → (n : IsNew e b i base disk)
    → 0 < fitting (seen n.putting.file) (put_bytes e) (system e base)
more_new e b i base disk s n =
    let held = ap length n.held_data in let index = ap length n.held_index in
    more_at_end e base disk n.places s n.putting n.left n.ends (omega (arith, held)) (λ z. omega (arith, index))

module _ (e : Files) (base disk : List ℕ) (s : Stands e base disk) where
  st : IsStanding e base disk
  st = s.standing

  abbrev Goes : FileCall → Type 0
  Goes c = reply_for c e base ≢ negsuc 0

  -- a file that is deleted is there
  deletes : (name : List ℕ) → e.call ≡ Delete name → IsDeleting (but_blocks e) base → Goes (Delete name)
  deletes name is h =
      let named : (entry_at base e.slot).name ≡ name = h.named ∙ ap name_of is in
      let closed : is_open (bare_name (entry_at base e.slot).name) (system e base) ≡ false =
      ap (λ x. is_open (bare_name x) (system e base)) h.named ∙ h.closed in
      let P : List ℕ → Type 0 = λ x. (model.file_effect (model.Delete (bare_name x)) [] (system e base)).reply ≢ negsuc 0 in
      subst P named (delete_granted base [] e.slot (system e base) s.clean h.slot h.used closed refl)

  -- a file that is emptied may be written
  empties : (d : ℕ) → e.call ≡ Truncate d → IsEmptied (but_blocks e) base → Goes (Truncate d)
  empties d is h =
      truncate_granted [] d (seen h.file) (system e base)
      (open_seen e base d h.file (ap (λ k. device_at e (device_of k)) (sym is) ∙ h.open_is)) h.writes

  -- a call that cuts its file isn't refused
  cuts : (c : FileCall) → e.call ≡ c → IsCutFor c (but_blocks e) base → Goes c
  cuts (Delete name) is h = deletes name is h
  cuts (Truncate d) is h = empties d is h
  cuts (Open a b) is h = absurd h
  cuts (Close a) is h = absurd h
  cuts (Read a b) is h = absurd h
  cuts (Write a) is h = absurd h
  cuts (Getc a) is h = absurd h
  cuts (Putc a b) is h = absurd h
  cuts (Seek a b) is h = absurd h
  cuts (Size a) is h = absurd h

  -- a call that writes the directory isn't refused
  ends : (c : FileCall) → e.call ≡ c → IsEnding c (but_blocks e) base → Goes c
  ends (Open name mode) is h = λ refused. absurd (cc (sym (ap (λ (x : systems.FileEffect). x.reply) (creates e name mode base disk is s h)) ∙ refused))
  ends (Delete name) is h = deletes name is h
  ends (Write d) is h =
      let some = h.some in let fits = h.fits in
      write_granted (put_bytes e) d (seen h.file) (system e base)
      (open_seen e base d h.file (ap (λ k. device_at e (device_of k)) (sym is) ∙ h.open_is)) h.writes (omega (arith, some, fits))
  ends (Putc d b) is h =
      let w = h.0 in let some = w.some in let fits = w.fits in
      let P : List ℕ → Type 0 = λ x. 0 < fitting (seen w.file) x (system e base) in
      putc_granted [] d b (seen w.file) (system e base) (open_seen e base d w.file (ap (λ k. device_at e (device_of k)) (sym is) ∙ w.open_is)) w.writes
      (subst P h.1 (omega (arith, some, fits)))
  ends (Truncate d) is h = empties d is h
  ends (Close a) is h = absurd h
  ends (Read a b) is h = absurd h
  ends (Getc a) is h = absurd h
  ends (Seek a b) is h = absurd h
  ends (Size a) is h = absurd h

  -- the disk before and after a completion
  abbrev Stays : Phase → Type 0
  Stays p = (disk ≡ base) × (served_by (wanted_in p e) e.block disk ≡ base)

  -- a call that puts bytes, and has put none
  not_put : WillBeRefused e base → IsReady e base disk → disk ≡ base
  not_put refused r = ⊎_elim
      (λ (none : e.counters.done < 1). r.fresh (omega (arith, none)))
      (λ (some : 1 ≤ e.counters.done). absurd (granted_put e base disk r.places r.putting (some_put e base disk r.places st r.putting some) refused))
      (cases_lt e.counters.done 1)

  -- it has taken a block
  taken : {P : Type 0} → (b : ℕ) → IsTaken e b base disk → WillBeRefused e base → P
  taken b t refused = absurd (granted_put e base disk t.places t.putting (more_taken e b base disk st t) refused)

  new : {P : Type 0} → (b i : ℕ) → IsNew e b i base disk → WillBeRefused e base → P
  new b i n refused = absurd (granted_put e base disk n.places n.putting (more_new e b i base disk st n) refused)

  -- in each phase
  in_phase : WillBeRefused e base → (p : Phase) → InHand p e base disk → Stays p
  in_phase refused Idle h = (h, h)
  in_phase refused (Done r) h = (h, h)
  in_phase refused (Wants (Search d)) h = (h.same, h.same)
  in_phase refused (Wants (Walk rest at)) h = (h.same, h.same)
  in_phase refused (Wants (Fetch b)) h = (h.same, h.same)
  in_phase refused (Wants Counts) h = (h.same, h.same)
  in_phase refused (Wants (Reach rest at)) h = let same = not_put refused h.ready in (same, same)
  in_phase refused (Wants (PatchRead b)) h = let same = not_put refused h.ready in (same, same)
  in_phase refused (Wants (TakeRead b)) h = let same = not_put refused h.ready in (same, same)
  in_phase refused (Wants (PatchWrite b)) h =
      let r = h.patch.ready in absurd (granted_put e base disk r.places r.putting (more_in_place e b base disk st h.patch) refused)
  in_phase refused (Wants (TakeWrite b)) h = taken b h.taken refused
  in_phase refused (Wants (AddRead b)) h = taken b h.0.taken refused
  in_phase refused (Wants (AddWrite b)) h = taken b h.filled.taken refused
  in_phase refused (Wants (NewRead b i)) h = taken b h.0.taken refused
  in_phase refused (Wants (NewWrite b i)) h = new b i h.new refused
  in_phase refused (Wants (LinkRead b i)) h = new b i h.new refused
  in_phase refused (Wants (LinkWrite b i)) h = new b i h.link.new refused
  in_phase refused (Wants CutRead) h = absurd (cuts e.call refl h.cutting.for refused)
  in_phase refused (Wants CutWrite) h = absurd (cuts e.call refl h.read.cutting.for refused)
  in_phase refused (Wants (FreeWrite b)) h = absurd (cuts e.call refl h.cutting.for refused)
  in_phase refused (Wants EntryRead) h = absurd (ends e.call refl h.ending refused)
  in_phase refused (Wants EntryWrite) h = absurd (ends e.call refl h.ending refused)
  in_phase refused (Wants HeaderRead) h = absurd (ends e.call refl h.ending refused)
  in_phase refused (Wants HeaderWrite) h = absurd (ends e.call refl h.ending refused)

  -- the disk is as it was when the call began
  pub refused_before : WillBeRefused e base → disk ≡ base
  refused_before refused = (in_phase refused e.phase s.hand).0

  -- so it is after the completion
  pub refused_after : WillBeRefused e base → served e disk ≡ base
  refused_after refused = (in_phase refused e.phase s.hand).1

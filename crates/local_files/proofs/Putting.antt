-- A call puts its bytes: where it is in its file, and how it ends.
use Rattle.std.proofs.Common.{◌≡◌, ℕ, ◌+◌, ◌/◌, ◌<◌, ◌≤◌, false, List, [], length, refl, sym, ap, ◌∙◌, subst, arith, Some, negsuc, if◌then◌else◌, ⊎_elim, take, length-take, ◌==◌, inl, inr, ◌⊎◌}
use Rattle.std.proofs.lemmas.Bool.Decides.{nat_tests}
use Rattle.lfs_format.specs.declared.Entry.{Entry}
use Rattle.lfs_check.specs.Rules.{entry_is_used}
use Rattle.lfs_check.specs.Disks.{block_put, entry_at}
use Rattle.lfs_layout.specs.Files.{bare_name}
use Rattle.xinu_model.specs.Files.Systems.{refused_effect}
use Rattle.file_laws.specs.StoredFiles.{entry_bytes}
use Rattle.file_laws.proofs.Named.{bytes_sized}
use Rattle.file_laws.proofs.Counted.{entry_small}
use Rattle.local_files.specs.declared.Files.{Files}
use Rattle.local_files.specs.declared.FileCall.{FileCall}
use Rattle.local_files.specs.declared.FileCall.TheVariants.{Open, Delete, Close, Read, Write, Getc, Putc, Seek, Truncate, Size}
use Rattle.local_files.specs.Hands.{system, IsEnding, IsMade, IsOpenOn, IsWritten, IsEntryBlock, IsHeaderBlock, files_after, seen, put_bytes, put_files, name_in_hand, but_blocks}
use Rattle.local_files.specs.Putting.{IsPutting, IsPut}
use Rattle.local_files.specs.Steps.{device_at, answered, shown, at_byte, device_of, or_none, named_device}
use Rattle.local_files.specs.Standing.{Stands, GoesTo, call_bytes, given_bytes, IsStanding}
use Rattle.local_files.proofs.Devices.{shown_at}
use Rattle.xinu_model.specs.Files.Systems as systems
use Rattle.file_laws.proofs.Effects.{open_bytes_is, write_refused, putc_refused}
use Rattle.xinu_model.specs.Files.Writing.{overwritten, fitting}
use Rattle.std.proofs.Common.{Bool, ◌-◌}
use Rattle.lfs_check.specs.declared.fields.Header.{Header}
use Rattle.lfs_check.specs.Geometries.{first_data, room}
use Rattle.lfs_check.specs.Laid.{Places, numbers_at}
use Rattle.lfs_check.specs.Disks.{disk_geometry}
use Rattle.file_laws.specs.Middle.{IsMiddle}
use Rattle.file_laws.specs.Rewriting.{IsRewriting}
use Rattle.file_laws.proofs.Reached.{middle_read}
use Rattle.file_laws.proofs.Finished.{middle_ends}
use Rattle.file_laws.proofs.Resting.{middle_holds, ending_holds}
use Rattle.local_files.proofs.Freeing.{busy_slot}
use Rattle.file_laws.proofs.Patched.{middle_sized}
use Rattle.file_laws.proofs.Fitting.{length_overwritten, fitting_is}
use Rattle.local_files.proofs.Taking.{open_of}
use Rattle.local_files.specs.Puts.{end_put}
use Rattle.file_laws.specs.Fitting.{IsFull}
use Rattle.lfs_check.proofs.Counting.{length-most}
use Rattle.lfs_check.proofs.Steps.{times_in-part}
use Rattle.lfs_check.proofs.KeepsAll.{either-way}
use Rattle.local_files.proofs.Standing.{at_base}
use Rattle.local_files.specs.declared.Phase.TheVariants.{Done, Wants}
use Rattle.local_files.specs.declared.Purpose.TheVariants.{EntryRead}

-- the file that is written is on the disk
pub put_open : (e : Files) (base disk : List ℕ) (p : Places) → IsStanding e base disk → (u : IsPutting e base disk p) → IsOpenOn base u.file
put_open e base disk p s u = open_of base (device_at e (device_of e.call)) u.file u.open_is (s.device (device_of e.call))

-- its entry
pub put_entry_is : (e : Files) (base disk : List ℕ) (p : Places) → IsStanding e base disk → (u : IsPutting e base disk p)
    → entry_at base e.slot ≡ u.file.entry
put_entry_is e base disk p s u = ap (entry_at base) u.slot ∙ (put_open e base disk p s u).entry

-- it has few bytes
pub put_small : (e : Files) (base disk : List ℕ) (p : Places) → IsStanding e base disk → (u : IsPutting e base disk p)
    → u.file.entry.size ≤ 33557504
put_small e base disk p s u =
    let o = put_open e base disk p s u in
    let P : Entry → Type 0 = λ x. x.size ≤ 33557504 in
    subst P o.entry (entry_small base s.clean u.file.slot o.slot (ap entry_is_used o.entry ∙ o.used))

-- where the call is in it
pub where_put : (e : Files) (base disk : List ℕ) (p : Places) → IsStanding e base disk → (u : IsPutting e base disk p)
    → at_byte e ≡ e.counters.position + e.counters.done
where_put e base disk p s u =
    let small = put_small e base disk p s u in let within = (put_open e base disk p s u).position in
    let a = u.position in let m = u.most in let f = u.few in omega (arith, small, within, a, m, f)

-- how many bytes there are
pub puts_long : (e : Files) (base disk : List ℕ) (p : Places) → IsStanding e base disk → (u : IsPutting e base disk p)
    → length (put_bytes e) ≡ e.counters.total
puts_long e base disk p s u = let t = length-take e.counters.total e.buffer in let l = s.buffer in let m = u.most in omega (arith, t, l, m)

-- how large the file is
pub put_size : (e : Files) (base disk : List ℕ) (p : Places) → IsStanding e base disk → (u : IsPutting e base disk p)
    → e.entry.size ≡ e.counters.position + e.counters.done + (u.file.entry.size - (e.counters.position + e.counters.done))
put_size e base disk p s u =
    let o = put_open e base disk p s u in
    let is = put_entry_is e base disk p s u in
    let m = u.middle in
    let sized = middle_sized e.blocks base disk e.header e.slot e.entry p
    (overwritten e.counters.position (take e.counters.done (put_bytes e)) (entry_bytes base (entry_at base e.slot))) m in
    let old = bytes_sized base s.clean e.slot m.slot_is m.was_used in
    let size_is = ap (λ (x : Entry). x.size) is in
    let within = o.position in let a = u.position in
    let l = length_overwritten e.counters.position (take e.counters.done (put_bytes e)) (entry_bytes base (entry_at base e.slot))
    (omega (arith, within, a, old, size_is)) in
    let t = length-take e.counters.done (put_bytes e) in let n = puts_long e base disk p s u in let f = u.few in
    omega (arith, sized, l, t, n, f, old, size_is)

-- The file has room on the disk.
pub middle_room : (n : ℕ) (base disk : List ℕ) (header : Header) (slot : ℕ) (entry : Entry) (p : Places) (bytes : List ℕ)
    → IsMiddle n base disk header slot entry p bytes → entry.size ≤ room (disk_geometry n)
middle_room n base disk header slot entry p bytes m =
    let r = (middle_read n base disk header slot entry p bytes m).blocks_long in
    let most = length-most (first_data (disk_geometry n)) n (numbers_at p.datas slot) (λ b.
    (let one = m.laid.one_data b in let part = times_in-part b p.datas slot in omega (arith, one, part))) in
    omega (arith, r, most)

-- as many bytes are put as there is room for
put_fits : (e : Files) (base disk : List ℕ) (p : Places) → IsStanding e base disk → (u : IsPutting e base disk p)
    → (e.counters.done ≡ e.counters.total) ⊎ ((e.entry.size ≡ e.counters.position + e.counters.done) × IsFull p e.entry.size)
    → fitting (seen u.file) (put_bytes e) (system e base) ≡ e.counters.done
put_fits e base disk p s u end =
    let o = put_open e base disk p s u in let is = put_entry_is e base disk p s u in let m = u.middle in
    let n = puts_long e base disk p s u in let few = u.few in
    let name : (seen u.file).name ≡ bare_name (entry_at base e.slot).name = ap (λ (x : Entry). bare_name x.name) (sym is) in
    let old = entry_bytes base (entry_at base e.slot) in
    let open_is = open_bytes_is base e.slot (seen u.file) (system e base) s.clean m.slot_is m.was_used refl name in
    let sized = middle_sized e.blocks base disk e.header e.slot e.entry p (overwritten e.counters.position (take e.counters.done (put_bytes e)) old) m in
    let size : e.entry.size ≡ length (overwritten u.file.position (take e.counters.done (put_bytes e))
    (systems.open_bytes (seen u.file) (system e base))) =
    sym sized ∙ ap (λ q. length (overwritten q (take e.counters.done (put_bytes e)) old)) u.position
    ∙ ap (λ b. length (overwritten u.file.position (take e.counters.done (put_bytes e)) b)) (sym open_is) in
    let within = o.position in let size_is = ap (λ (x : Entry). x.size) is in
    let a = u.position in
    fitting_is e.blocks base disk e.header e.slot e.entry p (overwritten e.counters.position (take e.counters.done (put_bytes e)) old) (seen u.file)
    (system e base) (put_bytes e) e.counters.done m refl refl name
    (omega (arith, within, size_is)) (omega (arith, few, n)) size
    (⊎_elim (λ (all : e.counters.done ≡ e.counters.total). inl (all ∙ sym n)) (λ (full : (e.entry.size ≡ e.counters.position + e.counters.done) × IsFull p e.entry.size).
    inr (full.0 ∙ ap (λ q. q + e.counters.done) a, full.1)) end)

-- No more bytes are put.
pub end_put_goes : (e : Files) (base disk : List ℕ) (p : Places) → IsStanding e base disk → IsPutting e base disk p → p.held_index ≡ []
    → p.held_data ≡ [] → (e.counters.done ≡ 0 → disk ≡ base)
    → (e.counters.done ≡ e.counters.total) ⊎ ((e.entry.size ≡ e.counters.position + e.counters.done) × IsFull p e.entry.size)
    → GoesTo (end_put e).phase e.call (call_bytes e) e (end_put e) base disk
end_put_goes e base disk p s u no_index no_data fresh end =
    either-way (e.counters.done == 0) (λ v. (e.counters.done == 0) ≡ v → G (if v then answered (negsuc 0) e else e2))
    (λ _ t. (let z : e.counters.done ≡ 0 = grind (arith, nat_tests) in refused e.call refl u.call z))
    (λ _ t. (let some : 0 < e.counters.done = above e.counters.done t in (
      record {
        standing = s;
        hand = record {
          slot = u.middle.slot_is;
          ending = ending e.call refl u.call some;
          made = made;
          held = λ rests busy. middle_holds e.blocks base disk e.header e.slot e.entry p bytes rests u.middle (used rests busy);
          next = λ eb ee rests busy.
              ending_holds e.blocks base disk e.header e.slot e.entry e.entry p bytes eb rests u.middle ee (used rests busy) (λ _.
              ap (λ n. rests (bare_name n)) u.middle.named ∙ used rests busy);
        };
      },
      refl,
      refl,
      refl,
    )))
    refl
  where
    G : Files → Type 0
    G x = GoesTo x.phase e.call (call_bytes e) e x base disk

    e2 : Files
    e2 = record e { phase = Wants EntryRead }

    bytes : List ℕ
    bytes = overwritten e.counters.position (take e.counters.done (put_bytes e)) (entry_bytes base (entry_at base e.slot))

    used : (rests : List ℕ → Bool) → rests (bare_name (name_in_hand e2 base)) ≡ false → rests (bare_name (entry_at base e.slot).name) ≡ false
    used rests busy = busy_slot e2 base rests u.middle.was_used busy

    above : (k : ℕ) → (k == 0) ≡ false → 0 < k
    above k z = grind (arith, nat_tests)

    fits : fitting (seen u.file) (put_bytes e) (system e base) ≡ e.counters.done
    fits = put_fits e base disk p s u end

    refused_stands : e.counters.done ≡ 0 → Stands (answered (negsuc 0) e) disk disk
    refused_stands z = let D : List ℕ → Type 0 = λ x. Stands (answered (negsuc 0) e) x x in
        subst D (sym (fresh z)) (record {
          standing = at_base s;
          hand = refl;
        })

    same_system : e.counters.done ≡ 0 → system e base ≡ system (answered (negsuc 0) e) disk
    same_system z = ap (system e) (sym (fresh z))

    held : (d : ℕ) (c : FileCall) → e.call ≡ c → named_device c ≡ Some d → systems.open_at (system e base) d ≡ Some (seen u.file)
    held d c is n = shown_at e.devices d ∙ ap shown (ap (λ j. device_at e (or_none j)) (sym n)
        ∙ ap (λ x. device_at e (device_of x)) (sym is) ∙ u.open_is)

    refused : (c : FileCall) → e.call ≡ c → IsPut c (put_bytes e) → e.counters.done ≡ 0
        → GoesTo (Done (negsuc 0)) c (given_bytes c (put_bytes e)) e (answered (negsuc 0) e) base disk
    refused (Write d) is h z =
        let n = puts_long e base disk p s u in let some = u.some in (
          write_refused (put_bytes e) d (seen u.file) (system e base) (held d (Write d) is refl) (fits ∙ z) (omega (arith, n, some))
              ∙ ap refused_effect (same_system z),
          refused_stands z,
        )
    refused (Putc d b) is h z = (
      putc_refused [] d b (seen u.file) (system e base) (held d (Putc d b) is refl) (ap (λ x.
          fitting (seen u.file) x (system e base)) (sym h) ∙ fits ∙ z) ∙ ap refused_effect (same_system z),
      refused_stands z,
    )
    refused (Open a b) is h z = absurd h
    refused (Delete a) is h z = absurd h
    refused (Close a) is h z = absurd h
    refused (Read a b) is h z = absurd h
    refused (Getc a) is h z = absurd h
    refused (Seek a b) is h z = absurd h
    refused (Truncate a) is h z = absurd h
    refused (Size a) is h z = absurd h

    written : 0 < e.counters.done → IsWritten (but_blocks e2) base
    written some = record {
      file = u.file;
      open_is = u.open_is;
      writes = u.writes;
      slot = u.slot;
      position = u.position;
      some = some;
      few = u.few;
      most = u.most;
      fits = fits;
      size = (let z = put_size e base disk p s u in let a = u.position in omega (arith, z, a));
      named = u.middle.named
          ∙ ap (λ (x : Entry). x.name) (put_entry_is e base disk p s u);
    }

    ending : (c : FileCall) → e.call ≡ c → IsPut c (put_bytes e) → 0 < e.counters.done → IsEnding c (but_blocks e2) base
    ending (Write d) is h some = written some
    ending (Putc d b) is h some = (written some, h)
    ending (Open a b) is h some = absurd h
    ending (Delete a) is h some = absurd h
    ending (Close a) is h some = absurd h
    ending (Read a b) is h some = absurd h
    ending (Getc a) is h some = absurd h
    ending (Seek a b) is h some = absurd h
    ending (Truncate a) is h some = absurd h
    ending (Size a) is h some = absurd h

    after : (c : FileCall) → IsPut c (put_bytes e) → put_files e base ≡ files_after c (but_blocks e2) base
    after (Write d) h = refl
    after (Putc d b) h = refl
    after (Open a b) h = absurd h
    after (Delete a) h = absurd h
    after (Close a) h = absurd h
    after (Read a b) h = absurd h
    after (Getc a) h = absurd h
    after (Seek a b) h = absurd h
    after (Truncate a) h = absurd h
    after (Size a) h = absurd h

    made : (eb hb : List ℕ) → IsEntryBlock e2 disk eb → IsHeaderBlock e2 (block_put disk (e.slot / 13) eb) hb
        → IsMade (but_blocks e2) base (block_put (block_put disk (e.slot / 13) eb) 0 hb)
    made eb hb ee hh =
        let m = u.middle in let low = m.low in
        let r : IsRewriting disk e.blocks e.slot e.entry e.header eb hb =
        record { long = m.long; room = omega (arith, low); slot_is = m.slot_is; entry_block = ee; header_block = hh } in
        let f = middle_ends e.blocks base disk e.header e.slot e.entry p bytes eb hb m no_index no_data u.files
        (middle_room e.blocks base disk e.header e.slot e.entry p bytes m) r in
        record { clean = f.clean; size = f.size; files = f.files ∙ after e.call u.call; entry = f.entry_is; others = f.others }

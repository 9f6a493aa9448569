-- The counts are written: the call has its effect.
use Rattle.std.proofs.Common.{◌≡◌, ◌≢◌, ℕ, zero, suc, ◌+◌, ◌<◌, ◌≤◌, Bool, true, false, List, [], ◌∷◌, length, map, refl, sym, ap, ◌∙◌, subst, arith, slice_index_or, slice_set, Option, Some, None, ℤ, pos, negsuc, if◌then◌else◌, not, nat_eq, slice_index, get_or-set_same, get_or-set_other, length-set, ⊎_elim, take, nat_lt, length-take}
use Rattle.std.proofs.lemmas.Bool.{false≢true, cases_eq, or_parts}
use Rattle.std.proofs.lemmas.Bool.Decides.{nat_tests}
use Rattle.std.proofs.lemmas.Slice.Eq.{bytes_eq-Decides}
use Rattle.lfs_format.specs.declared.Entry.{Entry}
use Rattle.lfs_check.specs.Rules.{entry_is_used}
use Rattle.lfs_check.specs.Disks.{block_put, entry_at}
use Rattle.lfs_layout.specs.Files.{bare_name}
use Rattle.xinu_model.specs.Files.Stored.{with_contents, without_file}
use Rattle.xinu_model.specs.Files.Systems.{FileSystem, FileEffect, is_open}
use Rattle.file_laws.specs.StoredFiles.{stored_files, entry_bytes}
use Rattle.file_laws.proofs.Names.{name_padded}
use Rattle.file_laws.proofs.Named.{IsName}
use Rattle.file_laws.proofs.Counted.{entry_small}
use Rattle.local_files.specs.declared.OpenFile.{OpenFile}
use Rattle.local_files.specs.declared.Files.{Files}
use Rattle.local_files.specs.declared.FileCall.{FileCall}
use Rattle.local_files.specs.declared.FileCall.TheVariants.{Open, Delete, Close, Read, Write, Getc, Putc, Seek, Truncate, Size}
use Rattle.local_files.specs.Hands.{system, IsEnding, IsMade, IsHeaderWrite, IsDevice, IsOpenOn, AreApart, IsCall, IsWritten, IsEmptied, IsDeleting, files_after, MayLook, name_of, seen, put_bytes, but_blocks}
use Rattle.local_files.specs.Steps.{device_at, answered, with_device, lowest_free, shown, kept_at, counted, at_byte, device_of, is_write, is_truncate, has_this_open, is_this_open}
use Rattle.local_files.specs.Standing.{Stands, GoesTo, call_bytes, given_bytes}
use Rattle.local_files.specs.Opens.{opened, ended}
use Rattle.local_files.proofs.Devices.{apart_moved, device_some, shown_set, is_open_same, shown_at, some_below, apart_set}
use Rattle.xinu_model.specs.Files.Systems as systems
use Rattle.xinu_model.specs.Files.Calls as model
use Rattle.local_files.proofs.Closings.{made_open}
use Rattle.file_laws.proofs.Effects.{write_effect, putc_effect, truncate_effect, delete_effect}
use Rattle.xinu_model.specs.Files.Writing.{overwritten, fitting}
use Rattle.local_files.proofs.Standing.{on_made, in_hand}
use Rattle.local_files.specs.declared.Phase.TheVariants.{Wants}
use Rattle.local_files.specs.declared.Purpose.TheVariants.{HeaderWrite}

-- a device has something else open
set_each : (P : Option OpenFile → Type 0) (e : Files) (d : ℕ) (x : Option OpenFile) → d < length e.devices → P x
    → ((c : ℕ) → c ≢ d → P (device_at e c)) → (c : ℕ) → P (device_at (with_device d x e) c)
set_each P e d x h mine others c =
    ⊎_elim (λ same. (let Q : ℕ → Type 0 = λ k. P (slice_index_or (slice_set e.devices d x) k None) in
    subst Q (sym same) (subst P (sym (get_or-set_same e.devices d x None h)) mine)))
    (λ other. subst P (sym (get_or-set_other e.devices d c x None other)) (others c other))
    (cases_eq c d)

-- of the made disk, a device whose file has another slot has it as it was
open_there : (e : Files) (base made : List ℕ) (o : Option OpenFile) → IsMade (but_blocks e) base made → (slot : ℕ) → slot ≡ e.slot → (f : OpenFile)
    → f.slot ≡ slot → AreApart o (Some f) → IsDevice base o → IsDevice made o
open_there e base made None m slot q f r a h = tt
open_there e base made (Some g) m slot q f r a h = record {
  slot = h.slot;
  entry = m.others g.slot (λ z. a (z ∙ sym q ∙ sym r))
      ∙ h.entry;
  used = h.used;
  position = h.position;
}

-- the device has the new entry
kept_stands : (e : Files) (base disk made : List ℕ) (d position : ℕ) (f : OpenFile) (reply : ℤ) → Stands e base disk → IsMade (but_blocks e) base made
    → device_at e d ≡ Some f → e.slot ≡ f.slot
    → e.entry.name ≡ f.entry.name → position ≤ e.entry.size
    → Stands (answered reply (with_device d (Some (let g : OpenFile = record f { entry = e.entry; position = position } in g)) e)) made made
kept_stands e base disk made d position f reply s m at slot named within =
    let g : OpenFile = record f { entry = e.entry; position = position } in
    let o = device_some e base disk d f s at in
    let six = s.six in
    let below : d < 6 = (let l = some_below e.devices d f at in omega (arith, l, six)) in
    let P : Option OpenFile → Type 0 = λ x. IsDevice made x in
    let used : entry_is_used e.entry ≡ true = ap (λ x. not (nat_eq (slice_index x 0) 0)) named ∙ o.used in
    let mine : IsOpenOn made g = record {
      slot = o.slot;
      entry = ap (entry_at made) (sym slot)
          ∙ m.entry;
      used = used;
      position = within;
    } in
    let away : (c : ℕ) → c ≢ d → AreApart (device_at e c) (Some f) = λ c ne.
    (let Q : Option OpenFile → Type 0 = λ x. AreApart (device_at e c) x in subst Q at (s.apart c d ne)) in
    let back : (c : ℕ) → c ≢ d → AreApart (Some f) (device_at e c) = λ c ne.
    (let Q : Option OpenFile → Type 0 = λ x. AreApart x (device_at e c) in subst Q at (s.apart d c (λ z. ne (sym z)))) in
    record {
      standing = on_made s.standing (record {
        clean = m.clean;
        blocks = m.size ∙ s.blocks;
        six = length-set e.devices d (Some g)
            ∙ six;
        device = set_each P e d (Some g) (omega (arith, below, six)) mine (λ c ne.
            open_there e base made (device_at e c) m f.slot (sym slot) f refl (away c ne) (s.device c));
        apart = apart_set e base disk d (Some g) s below (λ c ne. apart_moved (device_at e c) f g refl (away c ne) (back c ne));
      });
      hand = refl;
    }

-- what the abstract machine sees of the device
seen_set : (e : Files) (base made : List ℕ) (d position : ℕ) (f : OpenFile) (reply : ℤ) (before : List (Option systems.OpenFile))
    → before ≡ map shown e.devices → e.entry.name ≡ f.entry.name
    → (let r : FileSystem = record {
      blocks = e.blocks;
      files = stored_files made;
      devices = slice_set before d (Some (let x : systems.OpenFile = record (seen f) { position = position } in x));
    } in r)
    ≡ system (answered reply (with_device d (Some (let g : OpenFile = record f { entry = e.entry; position = position } in g)) e)) made
seen_set e base made d position f reply before is named =
    let r : List (Option systems.OpenFile) → FileSystem = λ ds. record { blocks = e.blocks; files = stored_files made; devices = ds } in
    let x : List ℕ → systems.OpenFile = λ n. record { name = n; position = position; may_read = f.read; may_write = f.write } in
    ap (λ b. r (slice_set b d (Some (x (bare_name f.entry.name))))) is
    ∙ ap (λ n. r (slice_set (map shown e.devices) d (Some (x (bare_name n))))) (sym named)
    ∙ ap r (sym (shown_set e.devices d (Some (let g : OpenFile = record f { entry = e.entry; position = position } in g))))

-- the file that is written
record IsHeld (e : Files) (base : List ℕ) (d : ℕ) (f : OpenFile) : Type 0 where
  at : systems.open_at (system e base) d ≡ Some (seen f)
  slot : e.slot < 78
  used : entry_is_used (entry_at base e.slot) ≡ true
  named : (seen f).name ≡ bare_name (entry_at base e.slot).name

-- the device has the file that is in hand
held_file_is : (e : Files) (base disk : List ℕ) (d : ℕ) (f : OpenFile) → Stands e base disk → device_at e d ≡ Some f → e.slot ≡ f.slot
    → IsHeld e base d f
held_file_is e base disk d f s at slot =
    let o = device_some e base disk d f s at in
    let entry : entry_at base e.slot ≡ f.entry = ap (entry_at base) slot ∙ o.entry in
    let below = o.slot in
    record {
      at = shown_at e.devices d ∙ ap shown at;
      slot = omega (arith, slot, below);
      used = ap entry_is_used entry
          ∙ o.used;
      named = ap (λ (x : Entry). bare_name x.name) (sym entry);
    }

-- the device of a call on a device
kept_is : (e : Files) (d position : ℕ) (f : OpenFile) → device_at e d ≡ Some f
    → kept_at (device_at e d) d position e ≡ with_device d (Some (let g : OpenFile = record f { entry = e.entry; position = position } in
    g)) e
kept_is e d position f at = ap (λ o. kept_at o d position e) at

-- small numbers
pub counted_small : (n : ℕ) → n ≤ 1048576 → counted n ≡ pos n
counted_small n h = let t : nat_lt 2147483647 n ≡ false = (let q : n ≤ 2147483647 = omega (arith, h) in grind (arith, nat_tests)) in
    ap (λ v. if v then negsuc 0 else pos n) t

-- `write`
written_goes : (e : Files) (d : ℕ) (base disk made : List ℕ) → e.call ≡ Write d → Stands e base disk → IsWritten (but_blocks e) base → IsMade (but_blocks e) base made
    → GoesTo (ended (Write d) e).phase (Write d) (put_bytes e) e (ended (Write d) e) base made
written_goes e d base disk made is s w m =
    let f = w.file in
    let at : device_at e d ≡ Some f = ap (λ k. device_at e (device_of k)) (sym is) ∙ w.open_is in
    let h = held_file_is e base disk d f s at w.slot in
    let o = device_some e base disk d f s at in
    let small : f.entry.size ≤ 33557504 = (let P : Entry → Type 0 = λ x. x.size ≤ 33557504 in
    subst P o.entry (entry_small base s.clean f.slot o.slot (ap entry_is_used o.entry ∙ o.used))) in
    let few = w.few in let most = w.most in let within = o.position in let where_is = w.position in let long = s.buffer in
    let q : at_byte e ≡ f.position + e.counters.done = omega (arith, small, few, most, within, where_is) in
    let puts : length (put_bytes e) ≡ e.counters.total = (let t = length-take e.counters.total e.buffer in omega (arith, t, most, long)) in
    let files : stored_files made ≡ with_contents (bare_name (entry_at base e.slot).name)
    (overwritten f.position (take e.counters.done (put_bytes e)) (entry_bytes base (entry_at base e.slot))) (stored_files base) =
    m.files ∙ ap (λ k. files_after k (but_blocks e) base) is
    ∙ ap (λ p. with_contents (bare_name (entry_at base e.slot).name)
    (overwritten p (take e.counters.done (put_bytes e)) (entry_bytes base (entry_at base e.slot))) (stored_files base)) w.position in
    let effect = write_effect base made (put_bytes e) d e.slot e.counters.done (seen f)
    (system e base) s.clean h.slot h.used h.at w.writes refl h.named w.fits w.some (omega (arith, few, puts)) files in
    let g : Files = with_device d (Some (let g : OpenFile = record f { entry = e.entry; position = f.position + e.counters.done } in g)) e in
    let new_is : ended (Write d) e ≡ answered (pos e.counters.done) g =
    ap (λ r. answered r (kept_at (device_at e d) d (if is_truncate e.call then 0 else at_byte e) e)) (ap (λ k.
    if is_write k then counted e.counters.done else pos 0) is ∙ counted_small e.counters.done (omega (arith, few, most)))
    ∙ ap (answered (pos e.counters.done)) (ap (λ k. kept_at (device_at e d) d (if is_truncate k then 0 else at_byte e) e) is
    ∙ ap (λ p. kept_at (device_at e d) d p e) q ∙ kept_is e d (f.position + e.counters.done) f at) in
    let P : Files → Type 0 = λ x. GoesTo x.phase (Write d) (put_bytes e) e x base made in
    let result : FileSystem → FileEffect = λ y. record { system = y; reply = pos e.counters.done; bytes = [] } in
    subst P (sym new_is) (
      effect ∙ ap result
          (seen_set e base made d (f.position + e.counters.done) f (pos e.counters.done) (map shown e.devices) refl w.named),
      kept_stands e base disk made d (f.position + e.counters.done) f (pos e.counters.done) s m at w.slot w.named w.size,
    )

-- `putc`
putc_goes : (e : Files) (d b : ℕ) (base disk made : List ℕ) → e.call ≡ Putc d b → Stands e base disk → IsWritten (but_blocks e) base
    → put_bytes e ≡ b ∷ [] → IsMade (but_blocks e) base made
    → GoesTo (ended (Putc d b) e).phase (Putc d b) [] e (ended (Putc d b) e) base made
putc_goes e d b base disk made is s w one m =
    let f = w.file in
    let at : device_at e d ≡ Some f = ap (λ k. device_at e (device_of k)) (sym is) ∙ w.open_is in
    let h = held_file_is e base disk d f s at w.slot in
    let o = device_some e base disk d f s at in
    let small : f.entry.size ≤ 33557504 = (let P : Entry → Type 0 = λ x. x.size ≤ 33557504 in
    subst P o.entry (entry_small base s.clean f.slot o.slot (ap entry_is_used o.entry ∙ o.used))) in
    let few = w.few in let most = w.most in let within = o.position in let where_is = w.position in let long = s.buffer in
    let some = w.some in
    let puts : length (put_bytes e) ≡ e.counters.total = (let t = length-take e.counters.total e.buffer in omega (arith, t, most, long)) in
    let single : e.counters.total ≡ 1 = sym puts ∙ ap length one in
    let done_is : e.counters.done ≡ 1 = omega (arith, single, few, some) in
    let q : at_byte e ≡ f.position + 1 = omega (arith, small, done_is, within, where_is) in
    let put : take e.counters.done (put_bytes e) ≡ b ∷ [] = ap (λ k. take k (put_bytes e)) done_is ∙ ap (take 1) one in
    let old = entry_bytes base (entry_at base e.slot) in let name = bare_name (entry_at base e.slot).name in
    let files : stored_files made ≡ with_contents name (overwritten f.position (b ∷ []) old) (stored_files base) =
    m.files ∙ ap (λ k. files_after k (but_blocks e) base) is
    ∙ ap (λ p. with_contents name (overwritten p (take e.counters.done (put_bytes e)) old) (stored_files base)) w.position
    ∙ ap (λ x. with_contents name (overwritten f.position x old) (stored_files base)) put in
    let fits : fitting (seen f) (b ∷ []) (system e base) ≡ 1 = ap (λ x. fitting (seen f) x (system e base)) (sym one) ∙ w.fits ∙ done_is in
    let effect = putc_effect base made [] d e.slot b (seen f) (system e base) s.clean h.slot h.used h.at w.writes refl h.named fits files in
    let g : Files = with_device d (Some (let g : OpenFile = record f { entry = e.entry; position = f.position + 1 } in g)) e in
    let new_is : ended (Putc d b) e ≡ answered (pos 0) g =
    ap (λ k. answered (if is_write k then counted e.counters.done else pos 0)
    (kept_at (device_at e d) d (if is_truncate k then 0 else at_byte e) e)) is
    ∙ ap (answered (pos 0)) (ap (λ p. kept_at (device_at e d) d p e) q ∙ kept_is e d (f.position + 1) f at) in
    let P : Files → Type 0 = λ x. GoesTo x.phase (Putc d b) [] e x base made in
    let result : FileSystem → FileEffect = λ y. record { system = y; reply = pos 0; bytes = [] } in
    let size = w.size in
    subst P (sym new_is) (
      effect ∙ ap result (seen_set e base made d (f.position + 1) f (pos 0) (map shown e.devices) refl w.named),
      kept_stands e base disk made d (f.position + 1) f (pos 0) s m at w.slot w.named (omega (arith, size, done_is)),
    )

-- `truncate`
emptied_goes : (e : Files) (d : ℕ) (base disk made : List ℕ) → e.call ≡ Truncate d → Stands e base disk → IsEmptied (but_blocks e) base
    → IsMade (but_blocks e) base made
    → GoesTo (ended (Truncate d) e).phase (Truncate d) [] e (ended (Truncate d) e) base made
emptied_goes e d base disk made is s w m =
    let f = w.file in
    let at : device_at e d ≡ Some f = ap (λ k. device_at e (device_of k)) (sym is) ∙ w.open_is in
    let h = held_file_is e base disk d f s at w.slot in
    let files : stored_files made ≡ with_contents (bare_name (entry_at base e.slot).name) [] (stored_files base) = m.files
    ∙ ap (λ k. files_after k (but_blocks e) base) is in
    let effect = truncate_effect base made [] d e.slot (seen f) (system e base) h.at w.writes refl h.named files in
    let g : Files = with_device d (Some (let g : OpenFile = record f { entry = e.entry; position = 0 } in g)) e in
    let new_is : ended (Truncate d) e ≡ answered (pos 0) g =
    ap (λ k. answered (if is_write k then counted e.counters.done else pos 0)
    (kept_at (device_at e d) d (if is_truncate k then 0 else at_byte e) e)) is
    ∙ ap (answered (pos 0)) (kept_is e d 0 f at) in
    let P : Files → Type 0 = λ x. GoesTo x.phase (Truncate d) [] e x base made in
    let result : FileSystem → FileEffect = λ y. record { system = y; reply = pos 0; bytes = [] } in
    subst P (sym new_is) (
      effect ∙ ap result (seen_set e base made d 0 f (pos 0) (map shown e.devices) refl w.named),
      kept_stands e base disk made d 0 f (pos 0) s m at w.slot w.named (omega arith),
    )

-- of the made disk, a device has its file as it was, if that is another than the deleted one
deleted_there : (e : Files) (base made name : List ℕ) (o : Option OpenFile) → IsMade (but_blocks e) base made → (entry_at base e.slot).name ≡ name
    → has_this_open name o ≡ false → IsDevice base o → IsDevice made o
deleted_there e base made name None m is closed h = tt
deleted_there e base made name (Some g) m is closed h =
    record {
      slot = h.slot;
      used = h.used;
      position = h.position;
      entry = m.others g.slot (λ q. false≢true (sym closed ∙ (bytes_eq-Decides g.entry.name name).1 (ap (λ (x : Entry).
          x.name) (sym h.entry) ∙ ap (λ k. (entry_at base k).name) q ∙ is))) ∙ h.entry;
    }

-- `delete`
deleted_goes : (e : Files) (name base disk made : List ℕ) → e.call ≡ Delete name → Stands e base disk → IsDeleting (but_blocks e) base
    → IsMade (but_blocks e) base made
    → GoesTo (ended (Delete name) e).phase (Delete name) [] e (ended (Delete name) e) base made
deleted_goes e name base disk made is s w m =
    let right : IsCall (Delete name) = subst IsCall is w.call in
    let n : IsName name = record { padded = name_padded 27 name right.0; long = right.1 } in
    let named : (entry_at base e.slot).name ≡ name = w.named ∙ ap name_of is in
    let closed : is_open (bare_name name) (system e base) ≡ false = ap (λ k. is_open (bare_name (name_of k)) (system e base)) (sym is)
    ∙ w.closed in
    let none : is_this_open name e.devices ≡ false = sym (is_open_same base name e.devices s.clean n s.device) ∙ closed in
    let files : stored_files made ≡ without_file (bare_name (entry_at base e.slot).name) (stored_files base) = m.files
    ∙ ap (λ k. files_after k (but_blocks e) base) is ∙ ap (λ x. without_file (bare_name x) (stored_files base)) (sym named) in
    let effect = delete_effect base made [] e.slot (system e base) s.clean w.slot w.used (ap (λ x.
    is_open (bare_name x) (system e base)) named ∙ closed) refl files in (
      ap (λ x. model.file_effect (model.Delete (bare_name x)) [] (system e base)) (sym named) ∙ effect,
      record {
        standing = on_made s.standing (record {
          clean = m.clean;
          blocks = m.size ∙ s.blocks;
          six = s.six;
          device = λ c. deleted_there e base made name (device_at e c) m named (closed_at name e.devices c none) (s.device c);
          apart = s.apart;
        });
        hand = refl;
      },
    )
  where
    closed_at : (name : List ℕ) (xs : List (Option OpenFile)) (c : ℕ) → is_this_open name xs ≡ false
        → has_this_open name (slice_index_or xs c None) ≡ false
    closed_at name [] c z = refl
    closed_at name (x ∷ xs) zero z = (or_parts (has_this_open name x) (is_this_open name xs) z).0
    closed_at name (x ∷ xs) (suc c) z = closed_at name xs c (or_parts (has_this_open name x) (is_this_open name xs) z).1

-- what the code leaves
pub header_written_goes : (e e' : Files) (base disk : List ℕ) → e.phase ≡ Wants HeaderWrite → e' ≡ ended e.call e → Stands e base disk
    → GoesTo e'.phase e.call (call_bytes e) e e' base (block_put disk 0 e.block)
header_written_goes e e' base disk phase new s =
    let P : Files → Type 0 = λ x. GoesTo x.phase e.call (call_bytes e) e x base made in
    subst P (sym new) (by_call e.call refl hand.ending)
  where
    hand : IsHeaderWrite e base disk
    hand = in_hand phase s

    made : List ℕ
    made = block_put disk 0 e.block

    is_made : IsMade (but_blocks e) base made
    is_made = hand.made

    by_call : (k : FileCall) → e.call ≡ k → IsEnding k (but_blocks e) base
        → GoesTo (ended k e).phase k (given_bytes k (put_bytes e)) e (ended k e) base made
    by_call (Open name mode) is h =
        let look : MayLook (Open name mode) (system e base) =
        (let L : FileCall → Type 0 = λ k. MayLook k (system e base) in subst L is h.look) in
        let free : nat_lt (lowest_free e) 6 ≡ true = (let t = look.1 in grind (arith, nat_tests)) in
        let P : Bool → Type 0 = λ v. GoesTo (if v then opened e.slot e.entry mode e else answered (negsuc 0) e).phase (Open name mode) [] e
        (if v then opened e.slot e.entry mode e else answered (negsuc 0) e) base made in
        subst P (sym free) (made_open e name mode base disk made is s h is_made)
    by_call (Delete name) is h = deleted_goes e name base disk made is s h is_made
    by_call (Write d) is h = written_goes e d base disk made is s h is_made
    by_call (Putc d b) is h = putc_goes e d b base disk made is s h.0 h.1 is_made
    by_call (Truncate d) is h = emptied_goes e d base disk made is s h is_made
    by_call (Close d) is h = absurd h
    by_call (Read d n) is h = absurd h
    by_call (Getc d) is h = absurd h
    by_call (Seek d n) is h = absurd h
    by_call (Size d) is h = absurd h

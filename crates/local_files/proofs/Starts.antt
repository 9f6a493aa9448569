-- `write`, `putc` and `truncate` begin.
use Rattle.std.proofs.Common.{◌≡◌, ℕ, ◌+◌, ◌<◌, ◌≤◌, Bool, true, false, ◌||◌, nat_le, List, [], ◌∷◌, length, refl, sym, ap, ◌∙◌, subst, arith, slice_set, Option, Some, None, pos, negsuc, if◌then◌else◌, not, ◌&&◌, take, nat_lt, ◌==◌, inl, inr}
use Rattle.std.proofs.lemmas.Bool.Decides.{nat_tests}
use Rattle.lfs_format.specs.declared.Entry.{Entry}
use Rattle.lfs_check.specs.Rules.{entry_is_used}
use Rattle.lfs_check.specs.Disks.{entry_at}
use Rattle.lfs_check.proofs.KeepsAll.{either-way}
use Rattle.lfs_layout.specs.Files.{bare_name}
use Rattle.lfs_layout.specs.Images.{IsCleanImage}
use Rattle.xinu_model.specs.Files.Stored.{with_contents}
use Rattle.xinu_model.specs.Files.Systems.{FileSystem, FileEffect, refused_effect, replies}
use Rattle.file_laws.specs.StoredFiles.{stored_files, entry_bytes}
use Rattle.file_laws.proofs.Named.{bytes_sized}
use Rattle.local_files.specs.declared.OpenFile.{OpenFile}
use Rattle.local_files.specs.declared.Files.{Files}
use Rattle.local_files.specs.declared.FileCall.{FileCall}
use Rattle.local_files.specs.declared.FileCall.TheVariants.{Write, Putc, Truncate}
use Rattle.local_files.specs.Hands.{system, IsOpenOn, AreApart, seen, put_bytes}
use Rattle.local_files.specs.Putting.{IsPut}
use Rattle.local_files.specs.Steps.{device_at, answered, with_device, shown, or_none, named_device, moved_to}
use Rattle.local_files.specs.Standing.{Stands, GoesTo, given_bytes}
use Rattle.local_files.proofs.Devices.{apart_moved, device_some, set_stands, shown_set, answered_stands, shown_at, some_below}
use Rattle.xinu_model.specs.Files.Systems as systems
use Rattle.local_files.specs.Standing as engine
use Rattle.xinu_model.specs.Files.Calls as model
use Rattle.file_laws.proofs.Effects.{truncate_effect}
use Rattle.xinu_model.specs.Files.Writing.{overwritten, fitting}
use Rattle.std.proofs.Common.{drop}
use Rattle.std.proofs.lemmas.List.{take_at, nil_from_length}
use Rattle.file_laws.proofs.Fitting.{length_overwritten}
use Rattle.local_files.specs.Buffers.{put_at}
use Rattle.local_files.specs.Cuts.{truncating, truncating_at, held_file}
use Rattle.local_files.specs.Puts.{writing, writing_at}
use Rattle.file_laws.proofs.Effects.{empty_write, kept_contents}
use Rattle.file_laws.specs.StoredFiles.{stored_files}
use Rattle.xinu_model.specs.Files.Writing.{write_file, putc_file, truncate_file, have_room, files_with}
use Rattle.local_files.proofs.Standing.{at_base, with_buffer}

-- what a call that puts bytes has for its effect, if it puts none
record IsPutCall (call : FileCall) (d : ℕ) (bytes : List ℕ) (sys : FileSystem) : Type 0 where
  named : named_device call ≡ Some d
  put : IsPut call bytes
  closed : systems.open_at sys d ≡ None → model.file_effect (engine.call_of call (given_bytes call bytes)) (given_bytes call bytes) sys
      ≡ refused_effect sys
  refused : (f : systems.OpenFile) → systems.open_at sys d ≡ Some f → f.may_write ≡ false
      → model.file_effect (engine.call_of call (given_bytes call bytes)) (given_bytes call bytes) sys ≡ refused_effect sys

-- `write` that puts no byte
write_call : (d : ℕ) (bytes : List ℕ) (sys : FileSystem) → IsPutCall (Write d) d bytes sys
write_call d bytes sys = record {
  named = refl;
  put = tt;
  closed = λ at. ap (λ o. systems.on_open o (λ f. write_file d bytes f sys) sys) at;
  refused = λ f at r. ap (λ o. systems.on_open o (λ f. write_file d bytes f sys) sys) at
      ∙ ap (λ v. if not v || (nat_lt 0 (length bytes) && (fitting f bytes sys == 0)) then refused_effect sys else rest f) r;
}
  where
    rest : systems.OpenFile → FileEffect
    rest f = replies (pos (fitting f bytes sys)) (record sys {
      files = files_with f (take (fitting f bytes sys) bytes) sys;
      devices = slice_set sys.devices d (Some (record f { position = f.position + length (take (fitting f bytes sys) bytes) }));
    })

-- `putc` that puts no byte
putc_call : (d b : ℕ) (sys : FileSystem) → IsPutCall (Putc d b) d (b ∷ []) sys
putc_call d b sys = record {
  named = refl;
  put = refl;
  closed = λ at. ap (λ o. systems.on_open o (λ f. putc_file d b f sys) sys) at;
  refused = λ f at r. ap (λ o. systems.on_open o (λ f. putc_file d b f sys) sys) at
      ∙ ap (λ v. if not v || not (have_room f (b ∷ []) sys) then refused_effect sys else rest f) r;
}
  where
    rest : systems.OpenFile → FileEffect
    rest f = replies (pos 0) (record sys {
      files = files_with f (b ∷ []) sys;
      devices = slice_set sys.devices d (Some (record f { position = f.position + 1 }));
    })

-- the bytes are in the buffer
put_in : (bytes buffer : List ℕ) → length bytes ≤ 1048576 → length buffer ≡ 1048576
    → (length (put_at 0 bytes buffer) ≡ 1048576) × (take (length bytes) (put_at 0 bytes buffer) ≡ bytes)
put_in bytes buffer few long =
    let t : nat_le (0 + length bytes) 1048576 ≡ true = grind (arith, nat_tests) in
    let P : Bool → Type 0 = λ v. (length (if v then overwritten 0 bytes buffer else buffer) ≡ 1048576)
    × (take (length bytes) (if v then overwritten 0 bytes buffer else buffer) ≡ bytes) in
    let l = length_overwritten 0 bytes buffer (omega arith) in
    subst P (sym t) (omega (arith, l, few, long), take_at bytes (drop (0 + length bytes) buffer) (length bytes) refl)

-- A write of no bytes.
nothing_put : (base bytes : List ℕ) (d : ℕ) (f : OpenFile) (e : Files) → length bytes ≡ 0 → IsCleanImage base → IsOpenOn base f
    → f.write ≡ true → systems.open_at (system e base) d ≡ Some (seen f)
    → model.file_effect (model.Write d (length bytes)) bytes (system e base) ≡ replies (pos 0) (system e base)
nothing_put base [] d f e none c o may at =
    empty_write base d f.slot (seen f) (system e base) c o.slot (ap entry_is_used o.entry
    ∙ o.used) at may refl (ap (λ (x : Entry). bare_name x.name) (sym o.entry))
nothing_put base (x ∷ xs) d f e none c o may at = absurd (omega (arith, none))

-- A call that puts bytes begins.
begin_put_goes : (e e' : Files) (call : FileCall) (d : ℕ) (bytes disk : List ℕ) → IsPutCall call d bytes (system e disk)
    → length bytes ≤ 1048576
    → ((f : OpenFile) → device_at e d ≡ Some f → f.write ≡ true → length bytes ≡ 0
    → model.file_effect (engine.call_of call (given_bytes call bytes)) (given_bytes call bytes) (system e disk) ≡ replies (pos 0)
    (system e disk))
    → e' ≡ writing_at (device_at e d) bytes call e → Stands e disk disk → GoesTo e'.phase call (given_bytes call bytes) e e' disk disk
begin_put_goes e e' call d bytes disk c few nothing new s = subst P (sym new) (by_device (device_at e d) refl)
  where
    P : Files → Type 0
    P x = GoesTo x.phase call (given_bytes call bytes) e x disk disk

    begun : OpenFile → Files
    begun f = record (held_file f call e) {
      buffer = put_at 0 bytes e.buffer;
      counters = record e.counters { position = f.position; total = length bytes; done = 0 };
      reached = 0;
    }

    bytes_put : (f : OpenFile) → put_bytes (begun f) ≡ bytes
    bytes_put f = (put_in bytes e.buffer few s.buffer).1

    put : (k : List ℕ) → k ≡ bytes → IsPut call k
    put k is = let Q : List ℕ → Type 0 = λ x. IsPut call x in subst Q (sym is) c.put

    starts : (f : OpenFile) → device_at e d ≡ Some f → f.write ≡ true → 0 < length bytes → P (begun f)
    starts f at may some = (
      record {
        standing = with_buffer (at_base s.standing) ((put_in bytes e.buffer few s.buffer).0);
        hand = record {
          same = refl;
          file = f;
          open_is = ap (λ k. device_at e (or_none k)) c.named
              ∙ at;
          writes = may;
          slot = refl;
          entry = refl;
          begun = inr (record {
            call = put (put_bytes (begun f)) (bytes_put f);
            position = refl;
            most = few;
            some = some;
            none = refl;
            not_reached = refl;
          });
        };
      },
      refl,
      ap (given_bytes call) (bytes_put f),
      refl,
    )

    in_file : (f : OpenFile) → device_at e d ≡ Some f → P (writing f bytes call e)
    in_file f at =
        let seen_at : systems.open_at (system e disk) d ≡ Some (seen f) = shown_at e.devices d ∙ ap shown at in
        let small : nat_lt 1048576 (length bytes) ≡ false = grind (arith, nat_tests) in
        let last : Bool → Files = λ z. if z then answered (pos 0) e else begun f in
        let first : Bool → Bool → Files = λ w v. if not w || v then answered (negsuc 0) e else last (length bytes == 0) in
        either-way f.write (λ w. f.write ≡ w → P (first w (nat_lt 1048576 (length bytes))))
        (λ _ r. (let Q : Bool → Type 0 = λ v. P (first true v) in
        subst Q (sym small) (either-way (length bytes == 0) (λ z. (length bytes == 0) ≡ z → P (last z))
        (λ _ t. (let z : length bytes ≡ 0 = grind (arith, nat_tests) in (nothing f at r z, answered_stands (pos 0) e disk s)))
        (λ _ t. (let z : 0 < length bytes = above (length bytes) t in starts f at r z))
        refl)))
        (λ _ r. (c.refused (seen f) seen_at r, answered_stands (negsuc 0) e disk s))
        refl
      where
        above : (k : ℕ) → (k == 0) ≡ false → 0 < k
        above k z = grind (arith, nat_tests)

    by_device : (o : Option OpenFile) → device_at e d ≡ o → P (writing_at o bytes call e)
    by_device None at = (c.closed (shown_at e.devices d ∙ ap shown at), answered_stands (negsuc 0) e disk s)
    by_device (Some f) at = in_file f at

-- `write`
pub begin_write_goes : (e e' : Files) (call : FileCall) (d : ℕ) (bytes disk : List ℕ) → call ≡ Write d → length bytes ≤ 1048576
    → e' ≡ writing_at (device_at e d) bytes (Write d) e → Stands e disk disk
    → GoesTo e'.phase call (given_bytes call bytes) e e' disk disk
begin_write_goes e e' call d bytes disk is few new s =
    let P : FileCall → Type 0 = λ k. GoesTo e'.phase k (given_bytes k bytes) e e' disk disk in
    subst P (sym is) (begin_put_goes e e' (Write d) d bytes disk (write_call d bytes (system e disk)) few
    (λ f at r z. nothing_put disk bytes d f e z s.clean (device_some e disk disk d f s at) r (shown_at e.devices d ∙ ap shown at)) new s)

-- `putc`
pub begin_putc_goes : (e e' : Files) (call : FileCall) (d b : ℕ) (disk : List ℕ) → call ≡ Putc d b
    → e' ≡ writing_at (device_at e d) (b ∷ []) (Putc d b) e → Stands e disk disk → GoesTo e'.phase call [] e e' disk disk
begin_putc_goes e e' call d b disk is new s =
    let P : FileCall → Type 0 = λ k. GoesTo e'.phase k [] e e' disk disk in
    subst P (sym is) (begin_put_goes e e' (Putc d b) d (b ∷ []) disk (putc_call d b (system e disk)) (omega arith) (λ f at r z.
    absurd (omega (arith, z))) new s)

-- `truncate`
truncate_goes : (e : Files) (d : ℕ) (disk : List ℕ) → Stands e disk disk
    → GoesTo (truncating_at (device_at e d) d (Truncate d) e).phase (Truncate d) [] e
    (truncating_at (device_at e d) d (Truncate d) e) disk disk
truncate_goes e d disk s = by_device (device_at e d) refl
  where
    P : Files → Type 0
    P x = GoesTo x.phase (Truncate d) [] e x disk disk

    emptied : (f : OpenFile) → device_at e d ≡ Some f → f.write ≡ true → f.entry.size ≡ 0
        → P (answered (pos 0) (with_device d (Some (record f { position = 0 })) e))
    emptied f at may z =
        let o = device_some e disk disk d f s at in
        let g : OpenFile = record f { position = 0 } in
        let u = ap entry_is_used o.entry ∙ o.used in
        let sized = bytes_sized disk s.clean f.slot o.slot u in
        let size = ap (λ (x : Entry). x.size) o.entry in
        let none = nil_from_length (entry_bytes disk (entry_at disk f.slot)) (omega (arith, sized, size, z)) in
        let name = (entry_at disk f.slot).name in
        let kept = ap (λ b. with_contents (bare_name name) b (stored_files disk)) (sym none) ∙ kept_contents disk f.slot s.clean o.slot u in
        let b = some_below e.devices d f at in let six = s.six in (
          truncate_effect disk disk [] d f.slot (seen f) (system e disk) (shown_at e.devices d
              ∙ ap shown at) may refl (ap (λ (x : Entry). bare_name x.name) (sym o.entry)) (sym kept)
              ∙ ap (λ xs. let r : FileEffect = record { system = record (system e disk) { devices = xs }; reply = pos 0; bytes = [] } in
              r) (sym (shown_set e.devices d (Some g))),
          set_stands (pos 0) e disk d (Some g) s (omega (arith, b, six)) (record {
            slot = o.slot;
            entry = o.entry;
            used = o.used;
            position = omega arith;
          }) (λ c ne. (
              let A : Option OpenFile → Type 0 = λ x. AreApart (device_at e c) x in let B : Option OpenFile
              → Type 0 = λ x. AreApart x (device_at e c) in
              apart_moved (device_at e c) f g refl (subst A at (s.apart c d ne)) (subst B at (s.apart d c (λ q. ne (sym q)))))),
        )

    in_file : (f : OpenFile) → device_at e d ≡ Some f → P (truncating f d (Truncate d) e)
    in_file f at =
        let sys = system e disk in
        let seen_at : systems.open_at sys d ≡ Some (seen f) = shown_at e.devices d ∙ ap shown at in
        let held : Files = held_file f (Truncate d) e in
        let last : Bool → Files = λ z. if z then answered (pos 0) (moved_to (device_at e d) d 0 e) else held in
        let rest : FileEffect = replies (pos 0) (record sys {
          files = with_contents (seen f).name [] sys.files;
          devices = slice_set sys.devices d (Some (record (seen f) { position = 0 }));
        }) in
        either-way f.write (λ w. f.write ≡ w → P (if not w then answered (negsuc 0) e else last (f.entry.size == 0)))
        (λ _ r. either-way (f.entry.size == 0) (λ z. (f.entry.size == 0) ≡ z → P (last z))
        (λ _ t. (let z : f.entry.size ≡ 0 = grind (arith, nat_tests) in let Q : Option OpenFile
        → Type 0 = λ o. P (answered (pos 0) (moved_to o d 0 e)) in subst Q (sym at) (emptied f at r z)))
        (λ _ t. (
          record {
            standing = at_base s.standing;
            hand = record {
              same = refl;
              file = f;
              open_is = at;
              writes = r;
              slot = refl;
              entry = refl;
              begun = inl refl;
            };
          },
          refl,
          refl,
          refl,
        ))
        refl)
        (λ _ r. (
          ap (λ o. systems.on_open o (λ g. truncate_file d g sys) sys) seen_at
              ∙ ap (λ v. if not v then refused_effect sys else rest) r,
          answered_stands (negsuc 0) e disk s,
        ))
        refl

    by_device : (o : Option OpenFile) → device_at e d ≡ o → P (truncating_at o d (Truncate d) e)
    by_device None at = (
      ap (λ x. systems.on_open x (λ f. truncate_file d f (system e disk)) (system e disk)) (shown_at e.devices d
          ∙ ap shown at),
      answered_stands (negsuc 0) e disk s,
    )
    by_device (Some f) at = in_file f at

-- the same of what the code leaves
pub begin_truncate_goes : (e e' : Files) (call : FileCall) (d : ℕ) (disk : List ℕ) → call ≡ Truncate d
    → e' ≡ truncating_at (device_at e d) d (Truncate d) e → Stands e disk disk → GoesTo e'.phase call [] e e' disk disk
begin_truncate_goes e e' call d disk is new s =
    let P : Files → Type 0 = λ x. GoesTo x.phase (Truncate d) [] e x disk disk in
    let Q : FileCall → Type 0 = λ k. GoesTo e'.phase k [] e e' disk disk in
    subst Q (sym is) (subst P (sym new) (truncate_goes e d disk s))

-- A call begins.
use Rattle.std.proofs.Common.{◌≡◌, ℕ, ◌≤◌, Bool, true, false, ◌||◌, nat_lt, nat_le, List, [], length, refl, sym, ap, ◌∙◌, subst, arith, Option, Some, None, ℤ, pos, negsuc, if◌then◌else◌, is_some, not}
use Rattle.std.proofs.lemmas.Bool.Decides.{nat_tests}
use Rattle.lfs_format.specs.declared.Entry.{Entry}
use Rattle.lfs_check.specs.Rules.{entry_is_used, is_name}
use Rattle.lfs_check.proofs.KeepsAll.{either-way}
use Rattle.lfs_layout.specs.Files.{bare_name}
use Rattle.xinu_base.specs.declared.files.OpenMode.{OpenMode}
use Rattle.xinu_model.specs.Files.Stored.{file_named, without_file}
use Rattle.xinu_model.specs.Files.Systems.{FileEffect, on_open, is_open, refused_effect, replies}
use Rattle.xinu_model.specs.Files.Opening.{close_file, open_stored}
use Rattle.xinu_model.specs.Files.Reading.{seek_file, size_of_file}
use Rattle.file_laws.proofs.Names.{name_padded}
use Rattle.file_laws.proofs.Named.{IsName}
use Rattle.local_files.specs.declared.OpenFile.{OpenFile}
use Rattle.local_files.specs.declared.Files.{Files}
use Rattle.local_files.specs.declared.FileCall.{FileCall}
use Rattle.local_files.specs.declared.FileCall.TheVariants.{Open, Delete, Close, Seek, Size}
use Rattle.local_files.specs.Steps.{shown, device_at, answered, with_device, lowest_free, is_this_open}
use Rattle.local_files.specs.Hands.{system, AreApart, IsCall, MayLook}
use Rattle.local_files.specs.Standing.{Stands, GoesTo}
use Rattle.local_files.specs.Opens.{closing, seeking, seeking_in, sizing, beginning, looking, deleting}
use Rattle.local_files.proofs.Devices.{apart_moved, shown_at, shown_set, some_below, device_some, open_size, is_open_same, answered_stands, set_stands, apart_none}
use Rattle.xinu_model.specs.Files.Systems as systems
use Rattle.file_laws.proofs.Counted.{entry_small}
use Rattle.local_files.proofs.Standing.{at_base}

-- `close`
pub close_goes : (e : Files) (d : ℕ) (bytes disk : List ℕ) → Stands e disk disk
    → GoesTo (closing (device_at e d) d e).phase (Close d) bytes e (closing (device_at e d) d e) disk disk
close_goes e d bytes disk s = by_device (device_at e d) refl
  where
    by_device : (o : Option OpenFile) → device_at e d ≡ o → GoesTo (closing o d e).phase (Close d) bytes e (closing o d e) disk disk
    by_device None at = (
      ap (λ x. on_open x (λ f. close_file d f (system e disk)) (system e disk)) (shown_at e.devices d
          ∙ ap shown at),
      answered_stands (negsuc 0) e disk s,
    )
    by_device (Some f) at = (
      ap (λ x. on_open x (λ f. close_file d f (system e disk)) (system e disk)) (shown_at e.devices d ∙ ap shown at)
          ∙ ap (λ xs. let r : FileEffect = record { system = record (system e disk) { devices = xs }; reply = pos 0; bytes = [] } in
          r) (sym (shown_set e.devices d None)),
      (let b = some_below e.devices d f at in let six = s.six in
          set_stands (pos 0) e disk d None s (omega (arith, b, six)) tt (λ c ne. apart_none (device_at e c))),
    )

-- `seek`
pub seek_goes : (e : Files) (d : ℕ) (n : ℤ) (bytes disk : List ℕ) → Stands e disk disk
    → GoesTo (seeking (device_at e d) d n e).phase (Seek d n) bytes e (seeking (device_at e d) d n e) disk disk
seek_goes e d n bytes disk s = by_device (device_at e d) refl
  where
    in_file : (f : OpenFile) (n : ℤ) → device_at e d ≡ Some f
        → GoesTo (seeking_in f d n e).phase (Seek d n) bytes e (seeking_in f d n e) disk disk
    in_file f (negsuc n) at = (
      ap (λ x. on_open x (λ f. seek_file d (negsuc n) f (system e disk)) (system e disk)) (shown_at e.devices d
          ∙ ap shown at),
      answered_stands (negsuc 0) e disk s,
    )
    in_file f (pos n) at =
        let o = device_some e disk disk d f s at in
        let start = ap (λ x. on_open x (λ f. seek_file d (pos n) f (system e disk)) (system e disk)) (shown_at e.devices d ∙ ap shown at) in
        let size = open_size disk f s.clean o in
        let g : OpenFile = record f { position = n } in
        let shown_f : systems.OpenFile = record {
          name = bare_name f.entry.name;
          position = f.position;
          may_read = f.read;
          may_write = f.write;
        } in
        let to : Bool → FileEffect = λ v.
        if v then refused_effect (system e disk) else replies (pos 0) (systems.moved d shown_f n (system e disk)) in
        either-way (nat_lt f.entry.size n)
        (λ v. nat_lt f.entry.size n ≡ v → GoesTo (if v then answered (negsuc 0) e else answered (pos 0) (with_device d (Some g) e)).phase
        (Seek d (pos n)) bytes e (if v then answered (negsuc 0) e else answered (pos 0) (with_device d (Some g) e)) disk disk)
        (λ _ t. (start ∙ ap (λ k. to (nat_lt k n)) size ∙ ap to t, answered_stands (negsuc 0) e disk s))
        (λ _ t. (
          start ∙ ap (λ k. to (nat_lt k n)) size ∙ ap to t
              ∙ ap (λ xs. let r : FileEffect = record { system = record (system e disk) { devices = xs }; reply = pos 0; bytes = [] } in
              r) (sym (shown_set e.devices d (Some g))),
          (let b = some_below e.devices d f at in let six = s.six in
              let fits : n ≤ f.entry.size = grind (arith, nat_tests) in
              set_stands (pos 0) e disk d (Some g) s (omega (arith, b, six)) (record {
                slot = o.slot;
                entry = o.entry;
                used = o.used;
                position = fits;
              }) (λ c ne. (
              let P : Option OpenFile → Type 0 = λ x. AreApart (device_at e c) x in let Q : Option OpenFile
              → Type 0 = λ x. AreApart x (device_at e c) in
              apart_moved (device_at e c) f g refl (subst P at (s.apart c d ne)) (subst Q at (s.apart d c (λ q. ne (sym q))))))),
        ))
        refl

    by_device : (o : Option OpenFile) → device_at e d ≡ o → GoesTo (seeking o d n e).phase (Seek d n) bytes e (seeking o d n e) disk disk
    by_device None at = (
      ap (λ x. on_open x (λ f. seek_file d n f (system e disk)) (system e disk)) (shown_at e.devices d
          ∙ ap shown at),
      answered_stands (negsuc 0) e disk s,
    )
    by_device (Some f) at = in_file f n at

-- the size
pub size_goes : (e : Files) (d : ℕ) (bytes disk : List ℕ) → Stands e disk disk
    → GoesTo (sizing (device_at e d) e).phase (Size d) bytes e (sizing (device_at e d) e) disk disk
size_goes e d bytes disk s = by_device (device_at e d) refl
  where
    by_device : (o : Option OpenFile) → device_at e d ≡ o → GoesTo (sizing o e).phase (Size d) bytes e (sizing o e) disk disk
    by_device None at = (
      ap (λ x. on_open x (λ f. size_of_file f (system e disk)) (system e disk)) (shown_at e.devices d
          ∙ ap shown at),
      answered_stands (negsuc 0) e disk s,
    )
    by_device (Some f) at =
        let o = device_some e disk disk d f s at in
        let small : f.entry.size ≤ 33557504 = (let P : Entry → Type 0 = λ x. x.size ≤ 33557504 in
        subst P o.entry (entry_small disk s.clean f.slot o.slot (ap entry_is_used o.entry ∙ o.used))) in
        let t : nat_lt 2147483647 f.entry.size ≡ false = (let q : f.entry.size ≤ 2147483647 = omega (arith, small) in
        grind (arith, nat_tests)) in
        let P : Bool → Type 0 = λ v. GoesTo (answered (if v then negsuc 0 else pos f.entry.size) e).phase (Size d) bytes e
        (answered (if v then negsuc 0 else pos f.entry.size) e) disk disk in
        subst P (sym t) (
          ap (λ x. on_open x (λ f. size_of_file f (system e disk)) (system e disk)) (shown_at e.devices d ∙ ap shown at)
              ∙ ap (λ k. replies (pos k) (system e disk)) (open_size disk f s.clean o),
          answered_stands (pos f.entry.size) e disk s,
        )

-- a call that looks for its name begins
look_stands : (e : Files) (call : FileCall) (disk : List ℕ) → IsCall call → MayLook call (system e disk) → Stands e disk disk
    → Stands (looking call e) disk disk
look_stands e call disk right look s = record {
  standing = at_base s.standing;
  hand = record {
    same = refl;
    block = omega arith;
    call = right;
    look = look;
    none = λ k h. absurd (omega (arith, h));
    free = record { found = λ h. absurd (omega (arith, h)); full = λ h k l. absurd (omega (arith, l)) };
    header = λ h. absurd (omega (arith, h));
  };
}

-- `open`
pub open_goes : (e : Files) (name : List ℕ) (mode : OpenMode) (bytes disk : List ℕ) → is_name 27 name ≡ true → length name ≡ 28 → bytes ≡ []
    → Stands e disk disk
    → GoesTo (beginning (is_this_open name e.devices) (Open name mode) e).phase (Open name mode) bytes e
    (beginning (is_this_open name e.devices) (Open name mode) e) disk disk
open_goes e name mode bytes disk is long none s =
    let n : IsName name = record { padded = name_padded 27 name is; long = long } in
    let opened : is_open (bare_name name) (system e disk) ≡ is_this_open name e.devices =
    is_open_same disk name e.devices s.clean n s.device in
    let sys = system e disk in
    let to : Bool → FileEffect = λ v. if v || nat_le 6 (lowest_free e) then refused_effect sys else open_stored
    (file_named (bare_name name) sys.files) (bare_name name) mode sys in
    either-way (is_this_open name e.devices)
    (λ v. is_this_open name e.devices ≡ v
    → GoesTo (beginning v (Open name mode) e).phase (Open name mode) bytes e (beginning v (Open name mode) e) disk disk)
    (λ _ t. (ap to (opened ∙ t), answered_stands (negsuc 0) e disk s))
    (λ _ t. either-way (nat_le 6 (lowest_free e))
    (λ v. nat_le 6 (lowest_free e) ≡ v → GoesTo (if v then answered (negsuc 0) e else looking (Open name mode) e).phase
    (Open name mode) bytes e (if v then answered (negsuc 0) e else looking (Open name mode) e) disk disk)
    (λ _ u. (
      ap to (opened ∙ t) ∙ ap (λ v.
          if v then refused_effect sys else open_stored (file_named (bare_name name) sys.files) (bare_name name) mode sys) u,
      answered_stands
          (negsuc 0) e disk s,
    ))
    (λ _ u. (
      look_stands e (Open name mode) disk (is, long) (opened ∙ t, u) s,
      refl,
      sym none,
      refl,
    ))
    refl)
    refl

-- `delete`
pub delete_goes : (e : Files) (name bytes disk : List ℕ) → is_name 27 name ≡ true → length name ≡ 28 → bytes ≡ [] → Stands e disk disk
    → GoesTo (deleting (is_this_open name e.devices) (Delete name) e).phase (Delete name) bytes e
    (deleting (is_this_open name e.devices) (Delete name) e) disk disk
delete_goes e name bytes disk is long none s =
    let n : IsName name = record { padded = name_padded 27 name is; long = long } in
    let opened : is_open (bare_name name) (system e disk) ≡ is_this_open name e.devices =
    is_open_same disk name e.devices s.clean n s.device in
    let sys = system e disk in
    let to : Bool → FileEffect = λ v. if v || not (is_some (file_named (bare_name name) sys.files)) then refused_effect sys else replies
    (pos 0) (record sys { files = without_file (bare_name name) sys.files }) in
    either-way (is_this_open name e.devices)
    (λ v. is_this_open name e.devices ≡ v
    → GoesTo (deleting v (Delete name) e).phase (Delete name) bytes e (deleting v (Delete name) e) disk disk)
    (λ _ t. (ap to (opened ∙ t), answered_stands (negsuc 0) e disk s))
    (λ _ t. (
      look_stands e (Delete name) disk (is, long) (opened ∙ t) s,
      refl,
      sym none,
      refl,
    ))
    refl

-- the same of a deletion
pub begin_delete_goes : (e e' : Files) (call : FileCall) (name disk : List ℕ) → call ≡ Delete name → IsCall call
    → e' ≡ deleting (is_this_open name e.devices) (Delete name) e → Stands e disk disk
    → GoesTo e'.phase call [] e e' disk disk
begin_delete_goes e e' call name disk is right new s =
    let P : Files → Type 0 = λ x. GoesTo x.phase (Delete name) [] e x disk disk in
    let Q : FileCall → Type 0 = λ k. GoesTo e'.phase k [] e e' disk disk in
    let r = subst IsCall is right in
    subst Q (sym is) (subst P (sym new) (delete_goes e name [] disk r.0 r.1 refl s))

-- the same of what the code leaves
pub begin_open_goes : (e e' : Files) (call : FileCall) (name : List ℕ) (mode : OpenMode) (disk : List ℕ) → call ≡ Open name mode
    → IsCall call → e' ≡ beginning (is_this_open name e.devices) (Open name mode) e → Stands e disk disk
    → GoesTo e'.phase call [] e e' disk disk
begin_open_goes e e' call name mode disk is right new s =
    let P : Files → Type 0 = λ x. GoesTo x.phase (Open name mode) [] e x disk disk in
    let Q : FileCall → Type 0 = λ k. GoesTo e'.phase k [] e e' disk disk in
    let r = subst IsCall is right in
    subst Q (sym is) (subst P (sym new) (open_goes e name mode [] disk r.0 r.1 refl s))

-- the same of `close`
pub begin_close_goes : (e e' : Files) (call : FileCall) (d : ℕ) (disk : List ℕ) → call ≡ Close d → e' ≡ closing (device_at e d) d e
    → Stands e disk disk → GoesTo e'.phase call [] e e' disk disk
begin_close_goes e e' call d disk is new s =
    let P : Files → Type 0 = λ x. GoesTo x.phase call [] e x disk disk in
    let Q : FileCall → Type 0 = λ k. GoesTo (closing (device_at e d) d e).phase k [] e (closing (device_at e d) d e) disk disk in
    subst P (sym new) (subst Q (sym is) (close_goes e d [] disk s))

-- the same of `seek`
pub begin_seek_goes : (e e' : Files) (call : FileCall) (d : ℕ) (n m : ℤ) (disk : List ℕ) → call ≡ Seek d n → m ≡ n
    → e' ≡ seeking (device_at e d) d m e → Stands e disk disk → GoesTo e'.phase call [] e e' disk disk
begin_seek_goes e e' call d n m disk is same new s =
    let P : Files → Type 0 = λ x. GoesTo x.phase call [] e x disk disk in
    let Q : FileCall → Type 0 = λ k. GoesTo (seeking (device_at e d) d n e).phase k [] e (seeking (device_at e d) d n e) disk disk in
    subst P (sym (new ∙ ap (λ k. seeking (device_at e d) d k e) same)) (subst Q (sym is) (seek_goes e d n [] disk s))

-- the same of the size
pub begin_size_goes : (e e' : Files) (call : FileCall) (d : ℕ) (disk : List ℕ) → call ≡ Size d → e' ≡ sizing (device_at e d) e
    → Stands e disk disk → GoesTo e'.phase call [] e e' disk disk
begin_size_goes e e' call d disk is new s =
    let P : Files → Type 0 = λ x. GoesTo x.phase call [] e x disk disk in
    let Q : FileCall → Type 0 = λ k. GoesTo (sizing (device_at e d) e).phase k [] e (sizing (device_at e d) e) disk disk in
    subst P (sym new) (subst Q (sym is) (size_goes e d [] disk s))

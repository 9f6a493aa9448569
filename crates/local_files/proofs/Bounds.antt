-- A call begins with no more completions left than the abstract machine allows.
use Rattle.std.proofs.Common.{◌≡◌, ℕ, suc, ◌+◌, ◌-◌, ◌*◌, ◌/◌, ◌<◌, ◌≤◌, Bool, false, not, nat_le, nat_lt, ◌==◌, ◌||◌, if◌then◌else◌, min, List, [], ◌∷◌, length, refl, sym, ap, ◌∙◌, subst, arith, Option, Some, None, ℤ, pos, negsuc}
use Rattle.std.proofs.lemmas.Bool.Decides.{nat_tests}
use Rattle.lfs_format.specs.declared.Entry.{Entry}
use Rattle.lfs_check.specs.Disks.{entry_at}
use Rattle.xinu_base.specs.declared.files.OpenMode.{OpenMode}
use Rattle.xinu_model.specs.Files.Calls as model
use Rattle.xinu_model.specs.Files.Systems as systems
use Rattle.xinu_model.specs.Files.Work.{most_turns, size_at}
use Rattle.local_files.specs.declared.OpenFile.{OpenFile}
use Rattle.local_files.specs.declared.Files.{Files}
use Rattle.local_files.specs.declared.FileCall.{FileCall}
use Rattle.local_files.specs.declared.FileCall.TheVariants.{Open, Delete, Read, Write, Getc, Putc, Truncate}
use Rattle.local_files.specs.Hands.{system}
use Rattle.local_files.specs.Steps.{shown, device_at, answered, with_device, moved_to, lowest_free, is_truncate}
use Rattle.local_files.specs.Wanted.{going_on}
use Rattle.local_files.specs.Standing.{Stands, call_of, given_bytes}
use Rattle.local_files.specs.Takes.{reading_at}
use Rattle.local_files.specs.Cuts.{truncating_at, held_file}
use Rattle.local_files.specs.Puts.{writing_at}
use Rattle.local_files.specs.Opens.{closing, seeking, sizing, beginning, deleting, looking}
use Rattle.local_files.specs.Buffers.{put_at}
use Rattle.local_files.specs.Bounds.{left, cut_left, put_left}
use Rattle.local_files.proofs.Devices.{shown_at, device_some, open_size}
use Rattle.local_files.proofs.Falls.{below_if, walking_less}
use Rattle.local_files.specs.declared.Purpose.TheVariants.{Walk}

-- what a call may have left
abbrev pub Within : Files → FileCall → List ℕ → Files → List ℕ → Type 0
Within e' call bytes e disk = left e' disk ≤ most_turns (call_of call bytes) (system e disk)

-- the same of what the code leaves
within_to : (e e' x : Files) (call : FileCall) (bytes disk : List ℕ) → e' ≡ x
    → left x disk < suc (most_turns (call_of call bytes) (system e disk)) → Within e' call bytes e disk
within_to e e' x call bytes disk new h =
    let P : Files → Type 0 = λ y. left y disk ≤ most_turns (call_of call bytes) (system e disk) in
    subst P (sym new) (omega (arith, h))

-- `open`
pub open_within : (e e' : Files) (call : FileCall) (name : List ℕ) (mode : OpenMode) (b : Bool) (bytes disk : List ℕ) → call ≡ Open name mode
    → e' ≡ beginning b (Open name mode) e → Within e' call (given_bytes call bytes) e disk
open_within e e' call name mode b bytes disk is new =
    let P : FileCall → Type 0 = λ k. Within e' k (given_bytes k bytes) e disk in
    subst P (sym is) (within_to e e' (beginning b (Open name mode) e) (Open name mode) [] disk new
    (below_if (b || nat_le 6 (lowest_free e)) (answered (negsuc 0) e) (looking (Open name mode) e) disk
    (suc (most_turns (call_of (Open name mode) []) (system e disk))) (λ _. omega arith) (λ _. omega arith)))

-- `delete`
pub delete_within : (e e' : Files) (call : FileCall) (name : List ℕ) (b : Bool) (bytes disk : List ℕ) → call ≡ Delete name
    → e' ≡ deleting b (Delete name) e → Within e' call (given_bytes call bytes) e disk
delete_within e e' call name b bytes disk is new =
    let P : FileCall → Type 0 = λ k. Within e' k (given_bytes k bytes) e disk in
    subst P (sym is) (within_to e e' (deleting b (Delete name) e) (Delete name) [] disk new
    (below_if b (answered (negsuc 0) e) (looking (Delete name) e) disk
    (suc (most_turns (call_of (Delete name) []) (system e disk))) (λ _. omega arith) (λ _. omega arith)))

-- `close`
pub close_within : (e e' : Files) (call : FileCall) (d : ℕ) (bytes disk : List ℕ) → e' ≡ closing (device_at e d) d e
    → Within e' call bytes e disk
close_within e e' call d bytes disk new = within_to e e' (closing (device_at e d) d e) call bytes disk new (by_device (device_at e d))
  where
    by_device : (o : Option OpenFile) → left (closing o d e) disk < suc (most_turns (call_of call bytes) (system e disk))
    by_device None = omega arith
    by_device (Some f) = omega arith

-- `seek`
pub seek_within : (e e' : Files) (call : FileCall) (d : ℕ) (n : ℤ) (bytes disk : List ℕ) → e' ≡ seeking (device_at e d) d n e
    → Within e' call bytes e disk
seek_within e e' call d n bytes disk new =
    within_to e e' (seeking (device_at e d) d n e) call bytes disk new (by_device (device_at e d) n)
  where
    by_device : (o : Option OpenFile) (n : ℤ) → left (seeking o d n e) disk < suc (most_turns (call_of call bytes) (system e disk))
    by_device None n = omega arith
    by_device (Some f) (negsuc n) = omega arith
    by_device (Some f) (pos n) =
        below_if (nat_lt f.entry.size n) (answered (negsuc 0) e) (answered (pos 0) (with_device d (Some (record f { position = n })) e)) disk
        (suc (most_turns (call_of call bytes) (system e disk))) (λ _. omega arith) (λ _. omega arith)

-- the size
pub size_within : (e e' : Files) (call : FileCall) (d : ℕ) (bytes disk : List ℕ) → e' ≡ sizing (device_at e d) e
    → Within e' call bytes e disk
size_within e e' call d bytes disk new = within_to e e' (sizing (device_at e d) e) call bytes disk new (by_device (device_at e d))
  where
    by_device : (o : Option OpenFile) → left (sizing o e) disk < suc (most_turns (call_of call bytes) (system e disk))
    by_device None = omega arith
    by_device (Some f) = omega arith

-- the size of the file that a device has open
size_is : (e : Files) (d : ℕ) (f : OpenFile) (disk : List ℕ) → Stands e disk disk → device_at e d ≡ Some f
    → size_at (systems.open_at (system e disk) d) (system e disk) ≡ f.entry.size
size_is e d f disk s at =
    ap (λ x. size_at x (system e disk)) (shown_at e.devices d ∙ ap shown at) ∙ open_size disk f s.clean (device_some e disk disk d f s at)

-- a read of n bytes
reads_less : (e : Files) (call : FileCall) (d n m : ℕ) (disk : List ℕ) → Stands e disk disk
    → ((f : OpenFile) → device_at e d ≡ Some f → 32 + 8 * ((f.entry.size + 511) / 512 + (f.entry.size + 8191) / 8192 + (n + 511) / 512) ≤ m)
    → left (reading_at (device_at e d) n call e) disk < suc m
reads_less e call d n m disk s most = by_device (device_at e d) refl
  where
    by_device : (o : Option OpenFile) → device_at e d ≡ o → left (reading_at o n call e) disk < suc m
    by_device None at = omega arith
    by_device (Some f) at =
        let bound = most f at in
        let x : Files = record e { call = call; counters = record e.counters { position = f.position; total = min n (f.entry.size - f.position); done = 0 } } in
        let last = if nat_le f.entry.size f.position then answered (negsuc 1) e else going_on (Walk (f.position / 8192) f.entry.first) x in
        let mid = if n == 0 then answered (pos 0) e else last in
        below_if (not f.read) (answered (negsuc 0) e) mid disk (suc m) (λ _. omega arith)
        (λ _. below_if (n == 0) (answered (pos 0) e) last disk (suc m) (λ _. omega arith)
        (λ _. below_if (nat_le f.entry.size f.position) (answered (negsuc 1) e) (going_on (Walk (f.position / 8192) f.entry.first) x) disk (suc m)
        (λ _. omega arith)
        (λ t. walking_less (f.position / 8192) f.entry.first x disk (suc m)
        (let lt : f.position < f.entry.size = grind (arith, nat_tests) in omega (arith, bound, lt)))))

-- `read`
pub read_within : (e e' : Files) (call : FileCall) (d n : ℕ) (bytes disk : List ℕ) → call ≡ Read d n
    → e' ≡ reading_at (device_at e d) n (Read d n) e → Stands e disk disk → Within e' call (given_bytes call bytes) e disk
read_within e e' call d n bytes disk is new s =
    let P : FileCall → Type 0 = λ k. Within e' k (given_bytes k bytes) e disk in
    subst P (sym is) (within_to e e' (reading_at (device_at e d) n (Read d n) e) (Read d n) [] disk new
    (reads_less e (Read d n) d n (most_turns (model.Read d n) (system e disk)) disk s
    (λ f at. (let z = size_is e d f disk s at in omega (arith, z)))))

-- `getc`
pub getc_within : (e e' : Files) (call : FileCall) (d : ℕ) (bytes disk : List ℕ) → call ≡ Getc d
    → e' ≡ reading_at (device_at e d) 1 (Getc d) e → Stands e disk disk → Within e' call (given_bytes call bytes) e disk
getc_within e e' call d bytes disk is new s =
    let P : FileCall → Type 0 = λ k. Within e' k (given_bytes k bytes) e disk in
    subst P (sym is) (within_to e e' (reading_at (device_at e d) 1 (Getc d) e) (Getc d) [] disk new
    (reads_less e (Getc d) d 1 (most_turns (model.Getc d) (system e disk)) disk s
    (λ f at. (let z = size_is e d f disk s at in omega (arith, z)))))

-- a write of these bytes
writes_less : (e : Files) (call : FileCall) (d m : ℕ) (bytes disk : List ℕ) → Stands e disk disk → is_truncate call ≡ false
    → ((f : OpenFile) → device_at e d ≡ Some f
    → 32 + 8 * ((f.entry.size + 511) / 512 + (f.entry.size + 8191) / 8192 + (length bytes + 511) / 512) ≤ m)
    → left (writing_at (device_at e d) bytes call e) disk < suc m
writes_less e call d m bytes disk s other most = by_device (device_at e d) refl
  where
    by_device : (o : Option OpenFile) → device_at e d ≡ o → left (writing_at o bytes call e) disk < suc m
    by_device None at = omega arith
    by_device (Some f) at =
        let bound = most f at in let within = (device_some e disk disk d f s at).position in
        let x : Files = record (held_file f call e) {
          buffer = put_at 0 bytes e.buffer;
          counters = record e.counters { position = f.position; total = length bytes; done = 0 };
          reached = 0;
        } in
        let Q : Bool → Type 0 = λ v. (if v then 1 + cut_left (entry_at disk x.slot).size 0 0 else x.counters.position / 8192 + 8 + put_left x) < suc m in
        below_if (not f.write || nat_lt 1048576 (length bytes)) (answered (negsuc 0) e)
        (if length bytes == 0 then answered (pos 0) e else x) disk (suc m) (λ _. omega arith)
        (λ _. below_if (length bytes == 0) (answered (pos 0) e) x disk (suc m) (λ _. omega arith)
        (λ _. subst Q (sym other) (omega (arith, bound, within))))

-- `write`
pub write_within : (e e' : Files) (call : FileCall) (d : ℕ) (bytes disk : List ℕ) → call ≡ Write d
    → e' ≡ writing_at (device_at e d) bytes (Write d) e → Stands e disk disk → Within e' call (given_bytes call bytes) e disk
write_within e e' call d bytes disk is new s =
    let P : FileCall → Type 0 = λ k. Within e' k (given_bytes k bytes) e disk in
    subst P (sym is) (within_to e e' (writing_at (device_at e d) bytes (Write d) e) (Write d) bytes disk new
    (writes_less e (Write d) d (most_turns (model.Write d (length bytes)) (system e disk)) bytes disk s refl
    (λ f at. (let z = size_is e d f disk s at in omega (arith, z)))))

-- `putc`
pub putc_within : (e e' : Files) (call : FileCall) (d b : ℕ) (bytes disk : List ℕ) → call ≡ Putc d b
    → e' ≡ writing_at (device_at e d) (b ∷ []) (Putc d b) e → Stands e disk disk → Within e' call (given_bytes call bytes) e disk
putc_within e e' call d b bytes disk is new s =
    let P : FileCall → Type 0 = λ k. Within e' k (given_bytes k bytes) e disk in
    subst P (sym is) (within_to e e' (writing_at (device_at e d) (b ∷ []) (Putc d b) e) (Putc d b) [] disk new
    (writes_less e (Putc d b) d (most_turns (model.Putc d b) (system e disk)) (b ∷ []) disk s refl
    (λ f at. (let z = size_is e d f disk s at in omega (arith, z)))))

-- `truncate`
pub truncate_within : (e e' : Files) (call : FileCall) (d : ℕ) (bytes disk : List ℕ) → call ≡ Truncate d
    → e' ≡ truncating_at (device_at e d) d (Truncate d) e → Stands e disk disk → Within e' call (given_bytes call bytes) e disk
truncate_within e e' call d bytes disk is new s =
    let P : FileCall → Type 0 = λ k. Within e' k (given_bytes k bytes) e disk in
    subst P (sym is) (within_to e e' (truncating_at (device_at e d) d (Truncate d) e) (Truncate d) [] disk new (by_device (device_at e d) refl))
  where
    m : ℕ
    m = suc (most_turns (model.Truncate d) (system e disk))

    by_device : (o : Option OpenFile) → device_at e d ≡ o → left (truncating_at o d (Truncate d) e) disk < m
    by_device None at = omega arith
    by_device (Some f) at =
        let z = size_is e d f disk s at in
        let same = ap (λ (x : Entry). x.size) (device_some e disk disk d f s at).entry in
        below_if (not f.write) (answered (negsuc 0) e)
        (if f.entry.size == 0 then answered (pos 0) (moved_to (device_at e d) d 0 e) else held_file f (Truncate d) e) disk m
        (λ _. omega arith)
        (λ _. below_if (f.entry.size == 0) (answered (pos 0) (moved_to (device_at e d) d 0 e)) (held_file f (Truncate d) e) disk m
        (λ _. omega arith) (λ _. omega (arith, z, same)))

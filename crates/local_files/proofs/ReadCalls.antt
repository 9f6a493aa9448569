-- `read` and `getc` begin.
use Rattle.std.proofs.Common.{◌≡◌, ℕ, ◌+◌, ◌/◌, ◌<◌, ◌≤◌, Bool, true, false, nat_le, List, [], length, refl, sym, ap, ◌∙◌, subst, arith, Option, Some, None, pos, negsuc, if◌then◌else◌, not, slice_index, take, ◌==◌}
use Rattle.std.proofs.lemmas.Bool.Decides.{nat_tests}
use Rattle.xinu_model.specs.Files.Systems.{FileSystem, FileEffect, refused_effect, replies}
use Rattle.file_laws.specs.StoredFiles.{entry_chain}
use Rattle.local_files.specs.declared.OpenFile.{OpenFile}
use Rattle.local_files.specs.declared.Files.{Files}
use Rattle.local_files.specs.declared.FileCall.{FileCall}
use Rattle.local_files.specs.declared.FileCall.TheVariants.{Read, Getc}
use Rattle.local_files.specs.Hands.{system, IsOpenOn, IsCall, seen, put_bytes, IsReading, read_count}
use Rattle.local_files.specs.Steps.{device_at, answered, shown, or_none, named_device}
use Rattle.local_files.specs.Wanted.{going_on}
use Rattle.local_files.specs.Standing.{Stands, GoesTo, given_bytes, IsStanding}
use Rattle.local_files.proofs.Devices.{device_some, answered_stands, shown_at, open_size}
use Rattle.xinu_model.specs.Files.Systems as systems
use Rattle.local_files.specs.Standing as engine
use Rattle.xinu_model.specs.Files.Calls as model
use Rattle.std.proofs.Common.{◌-◌, min}
use Rattle.lfs_check.specs.Meets.{null}
use Rattle.lfs_check.proofs.KeepsAll.{either-way}
use Rattle.local_files.proofs.Freeing.{some_at, goes_from}
use Rattle.std.proofs.lemmas.List.{drop_all}
use Rattle.local_files.specs.Takes.{reading_at}
use Rattle.xinu_model.specs.Files.Reading.{read_file, getc_file, first_byte, taken, bytes_ahead}
use Rattle.local_files.proofs.Taking.{reading_file, walking_goes}
use Rattle.local_files.proofs.Taking.{no_bytes}
use Rattle.local_files.proofs.Standing.{at_base}
use Rattle.local_files.specs.declared.Purpose.TheVariants.{Walk}

-- what a call that reads has for its effect, if it gives no byte
pub record IsReadCall (call : FileCall) (d n : ℕ) (sys : FileSystem) : Type 0 where
  named : named_device call ≡ Some d
  count : read_count call ≡ n
  closed : systems.open_at sys d ≡ None → model.file_effect (engine.call_of call []) [] sys ≡ refused_effect sys
  refused : (f : systems.OpenFile) → systems.open_at sys d ≡ Some f → f.may_read ≡ false
      → model.file_effect (engine.call_of call []) [] sys ≡ refused_effect sys
  nothing : (f : systems.OpenFile) → systems.open_at sys d ≡ Some f → f.may_read ≡ true → n ≡ 0
      → model.file_effect (engine.call_of call []) [] sys ≡ replies (pos 0) sys
  end : (f : systems.OpenFile) → systems.open_at sys d ≡ Some f → f.may_read ≡ true → 0 < n → length (systems.open_bytes f sys) ≤ f.position
      → model.file_effect (engine.call_of call []) [] sys ≡ replies (negsuc 1) sys

-- `read` that gives no byte
read_call : (d n : ℕ) (sys : FileSystem) → IsReadCall (Read d n) d n sys
read_call d n sys = record {
  named = refl;
  count = refl;
  closed = λ at. ap (λ o. systems.on_open o (λ f. read_file d n f sys) sys) at;
  refused = λ f at r. ap (λ o. systems.on_open o (λ f. read_file d n f sys) sys) at
      ∙ ap (λ v. if not v then refused_effect sys else rest f) r;
  nothing = λ f at r z. ap (λ o. systems.on_open o (λ f. read_file d n f sys) sys) at
      ∙ ap (λ v. if not v then refused_effect sys else rest f) r
      ∙ ap (λ v. if v then replies (pos 0) sys else late f) (ap (λ k. k == 0) z);
  end = λ f at r some past. (let t : (n == 0) ≡ false = grind (arith, nat_tests) in
      let u : nat_le (length (systems.open_bytes f sys)) f.position ≡ true = grind (arith, nat_tests) in
      ap (λ o. systems.on_open o (λ f. read_file d n f sys) sys) at ∙ ap (λ v. if not v then refused_effect sys else rest f) r
      ∙ ap (λ v. if v then replies (pos 0) sys else late f) t
      ∙ ap (λ v. if v then replies (negsuc 1) sys else taken (bytes_ahead n f sys) d f sys) u);
}
  where
    late : systems.OpenFile → FileEffect
    late f = if nat_le (length (systems.open_bytes f sys)) f.position then replies (negsuc 1) sys else taken (bytes_ahead n f sys) d f sys

    rest : systems.OpenFile → FileEffect
    rest f = if n == 0 then replies (pos 0) sys else late f

-- `getc` that gives no byte
getc_call : (d : ℕ) (sys : FileSystem) → IsReadCall (Getc d) d 1 sys
getc_call d sys = record {
  named = refl;
  count = refl;
  closed = λ at. ap (λ o. systems.on_open o (λ f. getc_file d f sys) sys) at;
  refused = λ f at r. ap (λ o. systems.on_open o (λ f. getc_file d f sys) sys) at
      ∙ ap (λ v. if not v then refused_effect sys else first_byte (bytes_ahead 1 f sys) d f sys) r;
  nothing = λ f at r z. absurd (omega (arith, z));
  end = λ f at r some past. ap (λ o. systems.on_open o (λ f. getc_file d f sys) sys) at
      ∙ ap (λ v. if not v then refused_effect sys else first_byte (bytes_ahead 1 f sys) d f sys) r
      ∙ ap (λ b. first_byte (take 1 b) d f sys) (drop_all f.position (systems.open_bytes f sys) past);
}

-- A read begins.
pub begin_read_goes : (e e' : Files) (call : FileCall) (d n : ℕ) (disk : List ℕ) → IsReadCall call d n (system e disk) → n ≤ 1048576
    → e' ≡ reading_at (device_at e d) n call e → Stands e disk disk → GoesTo e'.phase call [] e e' disk disk
begin_read_goes e e' call d n disk c most new s = subst (λ x.
    GoesTo x.phase call [] e x disk disk) (sym new) (by_device (device_at e d) refl)
  where
    sys : FileSystem
    sys = system e disk

    by_device : (o : Option OpenFile) → device_at e d ≡ o → GoesTo (reading_at o n call e).phase call [] e (reading_at o n call e) disk disk
    by_device None at = (c.closed (shown_at e.devices d ∙ ap shown at), answered_stands (negsuc 0) e disk s)
    by_device (Some f) at =
        let o = device_some e disk disk d f s at in
        let seen_at : systems.open_at sys d ≡ Some (seen f) = shown_at e.devices d ∙ ap shown at in
        let size = open_size disk f s.clean o in
        let start : Files = record e { call = call; counters = record e.counters { position = f.position; total = min n (f.entry.size - f.position); done = 0 } } in
        let last : Bool → Files = λ w. if w then answered (negsuc 1) e else going_on (Walk (f.position / 8192) f.entry.first) start in
        let mid : Bool → Files = λ v. if v then answered (pos 0) e else last (nat_le f.entry.size f.position) in
        let G : Files → Type 0 = λ x. GoesTo x.phase call [] e x disk disk in
        either-way f.read (λ u. f.read ≡ u → G (if not u then answered (negsuc 0) e else mid (n == 0)))
        (λ _ r. either-way (n == 0) (λ v. (n == 0) ≡ v → G (mid v))
        (λ _ z. (c.nothing (seen f) seen_at r (let y : n ≡ 0 = grind (arith, nat_tests) in y), answered_stands (pos 0) e disk s))
        (λ _ z. (let some : 0 < n = above n z in either-way (nat_le f.entry.size f.position) (λ w. nat_le f.entry.size f.position ≡ w
        → G (last w))
        (λ _ p. (let past : f.entry.size ≤ f.position = grind (arith, nat_tests) in
        (c.end (seen f) seen_at r some (omega (arith, size, past)), answered_stands (negsuc 1) e disk s)))
        (λ _ p. (let within : f.position < f.entry.size = grind (arith, nat_tests) in goes f o at r some within))
        refl))
        refl)
        (λ _ r. (c.refused (seen f) seen_at r, answered_stands (negsuc 0) e disk s))
        refl
      where
        above : (k : ℕ) → (k == 0) ≡ false → 0 < k
        above k z = grind (arith, nat_tests)

        goes : (f : OpenFile) → IsOpenOn disk f → device_at e d ≡ Some f → f.read ≡ true → 0 < n → f.position < f.entry.size
            → GoesTo (going_on (Walk (f.position / 8192) f.entry.first) (record e {
              call = call;
              counters = record e.counters { position = f.position; total = min n (f.entry.size - f.position); done = 0 };
            })).phase call [] e
            (going_on (Walk (f.position / 8192) f.entry.first) (record e {
              call = call;
              counters = record e.counters { position = f.position; total = min n (f.entry.size - f.position); done = 0 };
            })) disk disk
        goes f o at r some within =
            let start : Files = record e { call = call; counters = record e.counters { position = f.position; total = min n (f.entry.size - f.position); done = 0 } } in
            let st : IsStanding start disk disk = at_base s.standing in
            let count = c.count in
            let reading_is : IsReading start disk = record {
              some = omega (arith, some, count);
              few = omega (arith, most, count);
              file = f;
              open_is = ap (λ k. device_at e (or_none k)) c.named
                  ∙ at;
              reads = r;
              position = refl;
              within = within;
              total = ap (λ k. min k (f.entry.size - f.position)) (sym c.count);
              left = omega (arith, some, within);
              taken = refl;
            } in
            let file = reading_file start disk st reading_is in
            let cl = file.chain_long in
            let first : f.entry.first ≡ slice_index (entry_chain disk f.entry) ((f.position + 0) / 8192 - f.position / 8192) =
            file.first ∙ some_at (entry_chain disk f.entry) 0 null (omega (arith, cl, within))
            ∙ ap (slice_index (entry_chain disk f.entry)) (omega arith) in
            let x = going_on (Walk (f.position / 8192) f.entry.first) start in
            let B : List ℕ → Type 0 = λ bs. GoesTo x.phase call bs start x disk disk in
            goes_from x.phase call [] start e x disk disk refl
            (subst B (no_bytes call (put_bytes start) (omega (arith, some, count)))
            (walking_goes start (f.position / 8192) f.entry.first disk st reading_is (omega arith) first))

-- `read`
pub read_goes : (e e' : Files) (call : FileCall) (d n : ℕ) (disk : List ℕ) → call ≡ Read d n → IsCall call
    → e' ≡ reading_at (device_at e d) n (Read d n) e → Stands e disk disk → GoesTo e'.phase call (given_bytes call []) e e' disk disk
read_goes e e' call d n disk is right new s =
    let P : FileCall → Type 0 = λ k. GoesTo e'.phase k [] e e' disk disk in
    let B : List ℕ → Type 0 = λ bs. GoesTo e'.phase call bs e e' disk disk in
    subst B (sym (ap (λ k. given_bytes k []) is))
    (subst P (sym is) (begin_read_goes e e' (Read d n) d n disk (read_call d n (system e disk)) (subst IsCall is right) new s))

-- `getc`
pub getc_goes : (e e' : Files) (call : FileCall) (d : ℕ) (disk : List ℕ) → call ≡ Getc d → e' ≡ reading_at (device_at e d) 1 (Getc d) e
    → Stands e disk disk → GoesTo e'.phase call (given_bytes call []) e e' disk disk
getc_goes e e' call d disk is new s =
    let P : FileCall → Type 0 = λ k. GoesTo e'.phase k [] e e' disk disk in
    let B : List ℕ → Type 0 = λ bs. GoesTo e'.phase call bs e e' disk disk in
    subst B (sym (ap (λ k. given_bytes k []) is))
    (subst P (sym is) (begin_read_goes e e' (Getc d) d 1 disk (getc_call d (system e disk)) (omega arith) new s))

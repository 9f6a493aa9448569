-- The counts of the disk are read: a call that writes goes on.
use Rattle.std.proofs.Common.{◌≡◌, ℕ, ◌+◌, ◌/◌, ◌<◌, Bool, true, false, List, length, refl, sym, ap, ◌∙◌, subst, arith, if◌then◌else◌, ⊎_elim, take, ◌++◌}
use Rattle.std.proofs.lemmas.Bool.{false≢true}
use Rattle.lfs_format.specs.declared.Entry.{Entry}
use Rattle.lfs_check.specs.Rules.{entry_is_used, block_in}
use Rattle.lfs_check.specs.Disks.{entry_at}
use Rattle.file_laws.specs.StoredFiles.{entry_bytes}
use Rattle.local_files.specs.declared.Files.{Files}
use Rattle.local_files.specs.declared.FileCall.{FileCall}
use Rattle.local_files.specs.declared.FileCall.TheVariants.{Open, Delete, Close, Read, Write, Getc, Putc, Seek, Truncate, Size}
use Rattle.local_files.specs.Hands.{IsOpenOn, put_bytes}
use Rattle.local_files.specs.Putting.{IsPut, IsReady}
use Rattle.local_files.specs.Steps.{device_at, device_of, is_truncate}
use Rattle.local_files.specs.Standing.{Stands, GoesTo, call_bytes, IsStanding}
use Rattle.lfs_format.specs.Directory.{dir_of}
use Rattle.xinu_model.specs.Files.Writing.{overwritten}
use Rattle.std.proofs.Common.{drop}
use Rattle.lfs_check.specs.declared.fields.Header.{Header}
use Rattle.lfs_check.specs.Laid.{Places}
use Rattle.lfs_check.specs.Clean.{places_of}
use Rattle.lfs_check.specs.Fields.{fields_of}
use Rattle.lfs_check.specs.Disks.{disk_geometry, header_on}
use Rattle.file_laws.specs.Middle.{IsMiddle}
use Rattle.file_laws.proofs.Middles.{middle_begins}
use Rattle.local_files.specs.Hands.{IsCutFor, but_blocks}
use Rattle.local_files.specs.Cuts.{cutting}
use Rattle.local_files.proofs.Freeing.{goes_from}
use Rattle.local_files.proofs.Taking.{open_of}
use Rattle.local_files.specs.Puts.{next_put}
use Rattle.local_files.proofs.PutSteps.{next_put_goes}
use Rattle.local_files.specs.Putting.{IsCounting, IsBegun}
use Rattle.local_files.specs.Puts.{counts_read}
use Rattle.local_files.proofs.CutWrites.{cutting_goes}
use Rattle.lfs_check.specs.Fields.{header_2}
use Rattle.std.proofs.lemmas.List.{take-append-drop}
use Rattle.local_files.proofs.Standing.{at_base, in_hand}
use Rattle.local_files.specs.declared.Phase.TheVariants.{Wants}
use Rattle.local_files.specs.declared.Purpose.TheVariants.{Counts}

-- what the counts are
counts_are : (base disk read : List ℕ) → read ≡ block_in disk 0 → disk ≡ base → header_2 (dir_of read) ≡ header_on base
unfolding header_on
counts_are base disk read honest same = ap (λ b. header_2 (dir_of b)) (honest ∙ ap (λ x. block_in x 0) same)

-- a call that puts bytes doesn't truncate
pub not_truncate : (c : FileCall) (bytes : List ℕ) → IsPut c bytes → is_truncate c ≡ false
not_truncate (Write d) bytes h = refl
not_truncate (Putc d b) bytes h = refl
not_truncate (Open a b) bytes h = absurd h
not_truncate (Delete a) bytes h = absurd h
not_truncate (Close a) bytes h = absurd h
not_truncate (Read a b) bytes h = absurd h
not_truncate (Getc a) bytes h = absurd h
not_truncate (Seek a b) bytes h = absurd h
not_truncate (Truncate a) bytes h = absurd h
not_truncate (Size a) bytes h = absurd h

-- bytes of which none is put
none_put : (q k : ℕ) (new old : List ℕ) → k ≡ 0 → overwritten q (take k new) old ≡ old
none_put q k new old none = ap (λ j. overwritten q (take j new) old) none
    ∙ ap (λ j. take q old ++ drop j old) (let z : q + 0 ≡ q = omega arith in z) ∙ take-append-drop q old

-- The counts were read.
pub counts_read_goes : (e e' : Files) (base disk read : List ℕ) → e.phase ≡ Wants Counts → e' ≡ counts_read (dir_of read) e → Stands e base disk
    → read ≡ block_in disk 0 → GoesTo e'.phase e.call (call_bytes e) e e' base disk
counts_read_goes e e' base disk read phase new s honest =
    let D : List ℕ → Type 0 = λ x. GoesTo e'.phase e.call (call_bytes e) e e' base x in
    subst D (sym h.same) (subst P (sym new) (⊎_elim
    (λ (t : is_truncate e.call ≡ true). (let Q : Bool → Type 0 = λ v. P (if v then cutting e.entry x else next_put x) in subst Q (sym t)
    (goes_from (cutting e.entry x).phase e.call (call_bytes e) x e (cutting e.entry x) base base refl
    (cutting_goes x base st slot entry used header (for e.call refl t)))))
    (λ (b : IsBegun e h.file). (let Q : Bool → Type 0 = λ v. P (if v then cutting e.entry x else next_put x) in
    subst Q (sym (not_truncate e.call (put_bytes e) b.call))
    (goes_from (next_put x).phase e.call (call_bytes e) x e (next_put x) base base refl (next_put_goes x base base st (ready b)))))
    h.begun))
  where
    P : Files → Type 0
    P y = GoesTo y.phase e.call (call_bytes e) e y base base

    h : IsCounting e base disk
    h = in_hand phase s

    x : Files
    x = record e { header = header_2 (dir_of read) }

    st : IsStanding x base base
    st = at_base s.standing

    header : x.header ≡ header_on base
    header = counts_are base disk read honest h.same

    o : IsOpenOn base h.file
    o = open_of base (device_at e (device_of e.call)) h.file h.open_is (s.device (device_of e.call))

    slot : e.slot < 78
    slot = let b = o.slot in let is = h.slot in omega (arith, b, is)

    entry : entry_at base e.slot ≡ e.entry
    entry = ap (entry_at base) h.slot ∙ o.entry ∙ sym h.entry

    used : entry_is_used e.entry ≡ true
    used = ap entry_is_used h.entry ∙ o.used

    for : (c : FileCall) → e.call ≡ c → is_truncate c ≡ true → IsCutFor c (but_blocks x) base
    for (Truncate d) is t = record {
      file = h.file;
      open_is = h.open_is;
      writes = h.writes;
      slot = h.slot;
      named = ap (λ (y : Entry). y.name) h.entry;
    }
    for (Open a b) is t = absurd (false≢true t)
    for (Delete a) is t = absurd (false≢true t)
    for (Close a) is t = absurd (false≢true t)
    for (Read a b) is t = absurd (false≢true t)
    for (Write a) is t = absurd (false≢true t)
    for (Getc a) is t = absurd (false≢true t)
    for (Putc a b) is t = absurd (false≢true t)
    for (Seek a b) is t = absurd (false≢true t)
    for (Size a) is t = absurd (false≢true t)

    n : ℕ
    n = length base / 512

    same : n ≡ e.blocks
    same = let b = s.blocks in omega (arith, b)

    p : Places
    p = places_of (disk_geometry n) (fields_of (disk_geometry n) base)

    middle : e.counters.done ≡ 0 → IsMiddle e.blocks base base x.header e.slot e.entry p
        (overwritten e.counters.position (take e.counters.done (put_bytes e)) (entry_bytes base (entry_at base e.slot)))
    middle none =
        let old = entry_bytes base (entry_at base e.slot) in
        let A : ℕ → Type 0 = λ k. IsMiddle k base base x.header e.slot e.entry p (overwritten e.counters.position (take e.counters.done (put_bytes e)) old) in
        let B : Header → Type 0 = λ k. IsMiddle n base base k e.slot e.entry p (overwritten e.counters.position (take e.counters.done (put_bytes e)) old) in
        let C : Entry → Type 0 = λ k. IsMiddle n base base (header_on base) e.slot k p
        (overwritten e.counters.position (take e.counters.done (put_bytes e)) old) in
        let E : List ℕ → Type 0 = λ k. IsMiddle n base base (header_on base) e.slot (entry_at base e.slot) p k in
        subst A same (subst B (sym header)
        (subst C entry (subst E (sym (none_put e.counters.position e.counters.done (put_bytes e) old none))
        (middle_begins base e.slot s.clean slot (ap entry_is_used entry ∙ used)))))

    ready : IsBegun e h.file → IsReady x base base
    ready b =
        let none = b.none in let not_reached = b.not_reached in
        record {
          places = p;
          no_index = refl;
          no_data = refl;
          fresh = λ _. refl;
          putting = record {
            call = b.call;
            file = h.file;
            open_is = h.open_is;
            writes = h.writes;
            slot = h.slot;
            position = b.position;
            most = b.most;
            few = omega (arith, none);
            some = b.some;
            files = ap (λ (y : Header). y.files) header;
            middle = middle b.none;
          };
          cursor = record {
            below = omega (arith, not_reached);
            at = λ z. absurd (omega (arith, z, not_reached));
            index = λ z. absurd (omega (arith, z, not_reached));
          };
          near = λ z. absurd (omega (arith, z, not_reached));
        }

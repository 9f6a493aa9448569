-- The disk holds the files at rest, whatever the engine waits for.
use Rattle.std.proofs.Common.{not, ◌*◌, ◌+◌, ◌-◌, ◌≡◌, ℕ, zero, suc, Bool, true, false, ◌||◌, List, [], ◌∷◌, map, refl, sym, ap, ◌∙◌, subst, Option, Some, None, slice_index_or, is_some, bytes_eq, if◌then◌else◌, take}
use Rattle.std.specs.List.{list_any}
use Rattle.std.proofs.lemmas.Bool.{false≢true, and_parts, or_parts}
use Rattle.std.proofs.lemmas.Slice.Eq.{bytes_eq-Decides}
use Rattle.std.proofs.Math.Bool.{or-true}
use Rattle.lfs_format.specs.declared.Entry.{Entry}
use Rattle.lfs_check.specs.Rules.{entry_is_used}
use Rattle.lfs_check.specs.Laid.{Places}
use Rattle.lfs_check.specs.Disks.{entry_at}
use Rattle.lfs_layout.specs.Files.{bare_name}
use Rattle.xinu_model.specs.Files.Systems.{FileSystem, is_open, has_open}
use Rattle.xinu_model.specs.Files.Rest.{names_file, is_at_rest}
use Rattle.xinu_model.specs.Files.Work.{FileRequest, FileWork}
use Rattle.xinu_model.specs.Files.Writing.{overwritten}
use Rattle.file_laws.specs.StoredFiles.{stored_files, entry_bytes}
use Rattle.file_laws.specs.Holds.{Holds}
use Rattle.file_laws.proofs.Resting.{clean_holds, middle_holds}
use Rattle.local_files.specs.declared.OpenFile.{OpenFile}
use Rattle.local_files.specs.declared.BlockWork.{BlockWork}
use Rattle.local_files.specs.declared.Files.{Files}
use Rattle.local_files.specs.declared.FileCall.{FileCall}
use Rattle.local_files.specs.declared.FileCall.TheVariants.{Open, Delete, Close, Read, Write, Getc, Putc, Seek, Truncate, Size}
use Rattle.local_files.specs.declared.Phase.{Phase}
use Rattle.local_files.specs.Hands.{system, put_bytes, name_of, IsEnding, IsCutFor, IsCutting, HoldsOthers, name_in_hand, but_blocks}
use Rattle.local_files.specs.Putting.{IsPutting}
use Rattle.local_files.specs.Steps.{shown, device_at, device_of}
use Rattle.local_files.specs.Standing.{Stands, InHand, call_of, wanted, wanted_in, call_bytes}
use Rattle.local_files.specs.Resting.{AreAtRest, IsFirstCall}
use Rattle.local_files.proofs.Devices.{device_some}
use Rattle.local_files.specs.declared.Phase.TheVariants.{Idle, Done, Wants}
use Rattle.local_files.specs.declared.Purpose.TheVariants.{Search, Walk, Fetch, Counts, Reach, PatchRead, PatchWrite, TakeRead, TakeWrite, AddRead, AddWrite, NewRead, NewWrite, LinkRead, LinkWrite, CutRead, CutWrite, FreeWrite, EntryRead, EntryWrite, HeaderRead, HeaderWrite}

-- a name that isn't at rest
not_resting : (b : Bool) → (b ≡ true → ⊥) → b ≡ false
not_resting true h = absurd (h refl)
not_resting false h = refl

-- equal names
same_name : (a b : List ℕ) → a ≡ b → bytes_eq a b ≡ true
same_name a b e = (bytes_eq-Decides a b).1 e

-- the file of a device is open
open_there : (xs : List (Option OpenFile)) (d : ℕ) (f : OpenFile) → slice_index_or xs d None ≡ Some f
    → list_any (has_open (bare_name f.entry.name)) (map shown xs) ≡ true
open_there [] d f e = absurd (cc (e))
open_there (x ∷ xs) zero f e =
    let n = bare_name f.entry.name in
    ap (λ o. has_open n (shown o) || list_any (has_open n) (map shown xs)) e
    ∙ ap (λ v. v || list_any (has_open n) (map shown xs)) (same_name n n refl)
open_there (x ∷ xs) (suc d) f e =
    let n = bare_name f.entry.name in ap (λ v. has_open n (shown x) || v) (open_there xs d f e) ∙ or-true (has_open n (shown x))

-- it isn't at rest
open_busy : (e : Files) (base : List ℕ) (rests : List ℕ → Bool) (d : ℕ) (f : OpenFile) → AreAtRest e base rests → device_at e d ≡ Some f
    → rests (bare_name f.entry.name) ≡ false
open_busy e base rests d f a at =
    not_resting (rests (bare_name f.entry.name)) (λ r. false≢true (sym (a.closed (bare_name f.entry.name) r) ∙ open_there e.devices d f at))

-- the file that the call in hand names isn't at rest
named_busy : (e : Files) (base : List ℕ) (rests : List ℕ → Bool) (name : List ℕ) → AreAtRest e base rests → is_some (wanted e) ≡ true
    → names_file (bare_name name) (call_of e.call []) ≡ true → rests (bare_name name) ≡ false
named_busy e base rests name a w n = not_resting (rests (bare_name name)) (λ r. false≢true (sym (a.unnamed (bare_name name) r w) ∙ n))

-- the file of a slot that a device has open isn't at rest
slot_busy : (e : Files) (base disk : List ℕ) (rests : List ℕ → Bool) (d : ℕ) (f : OpenFile) → Stands e base disk → AreAtRest e base rests
    → device_at e d ≡ Some f → e.slot ≡ f.slot
    → (entry_is_used (entry_at base e.slot) ≡ true) × (rests (bare_name (entry_at base e.slot).name) ≡ false)
slot_busy e base disk rests d f s a at slot =
    let o = device_some e base disk d f s at in
    let is : entry_at base e.slot ≡ f.entry = ap (entry_at base) slot ∙ o.entry in
    (ap entry_is_used is ∙ o.used, ap (λ (x : Entry). rests (bare_name x.name)) is ∙ open_busy e base rests d f a at)

-- the file that is deleted isn't at rest
deleted_busy : (e : Files) (base : List ℕ) (rests : List ℕ → Bool) (name : List ℕ) → AreAtRest e base rests → is_some (wanted e) ≡ true
    → e.call ≡ Delete name → (entry_at base e.slot).name ≡ name_of e.call → rests (bare_name (entry_at base e.slot).name) ≡ false
deleted_busy e base rests name a w is named =
    let n : (entry_at base e.slot).name ≡ name = named ∙ ap name_of is in
    ap (λ x. rests (bare_name x)) n
    ∙ named_busy e base rests name a w (ap (λ c. names_file (bare_name name) (call_of c [])) is
    ∙ same_name (bare_name name) (bare_name name) refl)

-- a file that is written
putting_holds : (e : Files) (base disk : List ℕ) (rests : List ℕ → Bool) (p : Places) → Stands e base disk → AreAtRest e base rests
    → IsPutting e base disk p → Holds disk (stored_files base) rests
putting_holds e base disk rests p s a u =
    middle_holds e.blocks base disk e.header e.slot e.entry p
    (overwritten e.counters.position (take e.counters.done (put_bytes e)) (entry_bytes base (entry_at base e.slot))) rests u.middle
    (slot_busy e base disk rests (device_of e.call) u.file s a u.open_is u.slot).1

-- a file that is cut
cutting_holds : (e : Files) (freed : ℕ) (base disk : List ℕ) (rests : List ℕ → Bool) → Stands e base disk → AreAtRest e base rests
    → is_some (wanted e) ≡ true → IsCutting e freed base disk → Holds disk (stored_files base) rests
cutting_holds e freed base disk rests s a w c =
    middle_holds e.blocks base disk e.header e.slot e.entry c.places [] rests c.cut.middle (by_call e.call refl c.for)
  where
    by_call : (k : FileCall) → e.call ≡ k → IsCutFor k (but_blocks e) base → rests (bare_name (entry_at base e.slot).name) ≡ false
    by_call (Delete name) is h = deleted_busy e base rests name a w is h.named
    by_call (Truncate d) is h = (slot_busy e base disk rests (device_of e.call) h.file s a h.open_is h.slot).1
    by_call (Open n m) is h = absurd h
    by_call (Close n) is h = absurd h
    by_call (Read n m) is h = absurd h
    by_call (Write n) is h = absurd h
    by_call (Getc n) is h = absurd h
    by_call (Putc n m) is h = absurd h
    by_call (Seek n m) is h = absurd h
    by_call (Size n) is h = absurd h

-- a call that writes the directory
ending_busy : (e : Files) (base disk : List ℕ) (rests : List ℕ → Bool) → Stands e base disk → AreAtRest e base rests
    → is_some (wanted e) ≡ true → IsEnding e.call (but_blocks e) base → rests (bare_name (name_in_hand e base)) ≡ false
ending_busy e base disk rests s a w h = by_call e.call refl h
  where
    in_slot : entry_is_used (entry_at base e.slot) ≡ true → rests (bare_name (entry_at base e.slot).name) ≡ false
        → rests (bare_name (name_in_hand e base)) ≡ false
    in_slot used busy = ap (λ v. rests (bare_name (if v then (entry_at base e.slot).name else e.entry.name))) used ∙ busy

    on_device : (d : ℕ) (f : OpenFile) → device_at e d ≡ Some f → e.slot ≡ f.slot → rests (bare_name (name_in_hand e base)) ≡ false
    on_device d f at slot = let b = slot_busy e base disk rests d f s a at slot in in_slot b.0 b.1

    by_call : (k : FileCall) → e.call ≡ k → IsEnding k (but_blocks e) base → rests (bare_name (name_in_hand e base)) ≡ false
    by_call (Open name mode) is h =
        let n : e.entry.name ≡ name = h.named ∙ ap name_of is in
        ap (λ v. rests (bare_name (if v then (entry_at base e.slot).name else e.entry.name))) h.free ∙ ap (λ x. rests (bare_name x)) n
        ∙ named_busy e base rests name a w (ap (λ c. names_file (bare_name name) (call_of c [])) is
        ∙ same_name (bare_name name) (bare_name name) refl)
    by_call (Delete name) is h = in_slot h.used (deleted_busy e base rests name a w is h.named)
    by_call (Write d) is h = on_device (device_of e.call) h.file h.open_is h.slot
    by_call (Putc d b) is h = on_device (device_of e.call) h.0.file h.0.open_is h.0.slot
    by_call (Truncate d) is h = on_device (device_of e.call) h.file h.open_is h.slot
    by_call (Close n) is h = absurd h
    by_call (Read n m) is h = absurd h
    by_call (Getc n) is h = absurd h
    by_call (Seek n m) is h = absurd h
    by_call (Size n) is h = absurd h

-- the disk is the base
clean_still : (base disk : List ℕ) (rests : List ℕ → Bool) (e : Files) → Stands e base disk → disk ≡ base
    → Holds disk (stored_files base) rests
clean_still base disk rests e s same = let P : List ℕ → Type 0 = λ x. Holds x (stored_files base) rests in
    subst P (sym same) (clean_holds base rests s.clean)

-- At each moment the disk holds the files at rest.
pub held_always : (e : Files) (base disk : List ℕ) (rests : List ℕ → Bool) → Stands e base disk → AreAtRest e base rests
    → Holds disk (stored_files base) rests
held_always e base disk rests s a = by_phase e.phase refl s.hand
  where
    busy : (p : Phase) → e.phase ≡ p → is_some (wanted_in p e) ≡ true → is_some (wanted e) ≡ true
    busy p is w = ap (λ q. is_some (wanted_in q e)) is ∙ w

    ends : (p : Phase) → e.phase ≡ p → is_some (wanted_in p e) ≡ true → IsEnding e.call (but_blocks e) base → HoldsOthers e base disk
        → Holds disk (stored_files base) rests
    ends p is w h held = held rests (ending_busy e base disk rests s a (busy p is w) h)

    cuts : (p : Phase) (freed : ℕ) → e.phase ≡ p → is_some (wanted_in p e) ≡ true → IsCutting e freed base disk
        → Holds disk (stored_files base) rests
    cuts p freed is w c = cutting_holds e freed base disk rests s a (busy p is w) c

    puts : (p : Places) → IsPutting e base disk p → Holds disk (stored_files base) rests
    puts p u = putting_holds e base disk rests p s a u

    still : disk ≡ base → Holds disk (stored_files base) rests
    still same = clean_still base disk rests e s same

    by_phase : (p : Phase) → e.phase ≡ p → InHand p e base disk → Holds disk (stored_files base) rests
    by_phase Idle is h = still h
    by_phase (Done r) is h = still h
    by_phase (Wants (Search d)) is h = still h.same
    by_phase (Wants (Walk rest at)) is h = still h.same
    by_phase (Wants (Fetch b)) is h = still h.same
    by_phase (Wants Counts) is h = still h.same
    by_phase (Wants (Reach rest at)) is h = puts h.ready.places h.ready.putting
    by_phase (Wants (PatchRead b)) is h = puts h.ready.places h.ready.putting
    by_phase (Wants (PatchWrite b)) is h = puts h.patch.ready.places h.patch.ready.putting
    by_phase (Wants (TakeRead b)) is h = puts h.ready.places h.ready.putting
    by_phase (Wants (TakeWrite b)) is h = puts h.taken.places h.taken.putting
    by_phase (Wants (AddRead b)) is h = puts h.0.taken.places h.0.taken.putting
    by_phase (Wants (AddWrite b)) is h = puts h.filled.taken.places h.filled.taken.putting
    by_phase (Wants (NewRead b i)) is h = puts h.0.taken.places h.0.taken.putting
    by_phase (Wants (NewWrite b i)) is h = puts h.new.places h.new.putting
    by_phase (Wants (LinkRead b i)) is h = puts h.new.places h.new.putting
    by_phase (Wants (LinkWrite b i)) is h = puts h.link.new.places h.link.new.putting
    by_phase (Wants CutRead) is h = cuts (Wants CutRead) (16 * e.reached) is refl h.cutting
    by_phase (Wants CutWrite) is h = cuts (Wants CutWrite) (16 * e.reached) is refl h.read.cutting
    by_phase (Wants (FreeWrite b)) is h = cuts (Wants (FreeWrite b)) (16 * (e.reached - 1) + e.freed) is refl h.cutting
    by_phase (Wants EntryRead) is h = ends (Wants EntryRead) is refl h.ending h.held
    by_phase (Wants EntryWrite) is h = ends (Wants EntryWrite) is refl h.ending h.held
    by_phase (Wants HeaderRead) is h = ends (Wants HeaderRead) is refl h.ending h.held
    by_phase (Wants HeaderWrite) is h = ends (Wants HeaderWrite) is refl h.ending h.held

-- a call names a file whatever bytes it has
names_same : (name : List ℕ) (call : FileCall) (a b : List ℕ) → names_file name (call_of call a) ≡ names_file name (call_of call b)
names_same name (Open n m) a b = refl
names_same name (Delete n) a b = refl
names_same name (Close d) a b = refl
names_same name (Read d n) a b = refl
names_same name (Write d) a b = refl
names_same name (Getc d) a b = refl
names_same name (Putc d n) a b = refl
names_same name (Seek d n) a b = refl
names_same name (Truncate d) a b = refl
names_same name (Size d) a b = refl

-- What is at rest of the file work is at rest of the engine that has its first call in hand.
pub work_held : (e : Files) (base disk : List ℕ) (w : FileWork) → Stands e base disk → w.system ≡ system e base
    → IsFirstCall (wanted e) (call_of e.call (call_bytes e)) w.calls → Holds disk w.system.files (λ name. is_at_rest name w)
work_held e base disk w s same first =
    let P : FileSystem → Type 0 = λ x. Holds disk x.files (λ name. is_at_rest name w) in
    subst P (sym same) (held_always e base disk (λ name. is_at_rest name w) s (record { closed = closed; unnamed = unnamed }))
  where
    both : (name : List ℕ) → is_at_rest name w ≡ true
        → (is_open name w.system ≡ false) × (list_any (λ (a : FileRequest). names_file name a.call) w.calls ≡ false)
    both name r =
        let two = and_parts (not (is_open name w.system)) (not (list_any (λ (a : FileRequest). names_file name a.call) w.calls)) r in
        (not_true (is_open name w.system) two.0, not_true (list_any (λ (a : FileRequest). names_file name a.call) w.calls) two.1)
      where
        not_true : (b : Bool) → not b ≡ true → b ≡ false
        not_true true h = absurd (false≢true h)
        not_true false h = refl

    closed : (name : List ℕ) → is_at_rest name w ≡ true → is_open name (system e base) ≡ false
    closed name r = ap (is_open name) (sym same) ∙ (both name r).0

    in_hand : (name : List ℕ) (o : Option BlockWork) (calls : List FileRequest) → is_some o ≡ true
        → IsFirstCall o (call_of e.call (call_bytes e)) calls
        → list_any (λ (a : FileRequest). names_file name a.call) calls ≡ false → names_file name (call_of e.call []) ≡ false
    in_hand name None calls some f none = absurd (false≢true some)
    in_hand name (Some x) [] some f none = absurd f
    in_hand name (Some x) (a ∷ calls) some f none =
        names_same name e.call [] (call_bytes e) ∙ ap (names_file name) (sym f)
        ∙ (or_parts (names_file name a.call) (list_any (λ (b : FileRequest). names_file name b.call) calls) none).0

    unnamed : (name : List ℕ) → is_at_rest name w ≡ true → is_some (wanted e) ≡ true → names_file name (call_of e.call []) ≡ false
    unnamed name r some = in_hand name (wanted e) w.calls some first (both name r).1

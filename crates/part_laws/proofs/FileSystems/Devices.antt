-- Open devices: what one of them is says nothing of the others.
use Rattle.std.proofs.Common.{◌≡◌, ◌≢◌, ℕ, zero, suc, ◌+◌, ◌<◌, ◌≤◌, Bool, true, false, List, [], ◌∷◌, length, set, get_or, bytes_eq, Option, Some, None, refl, sym, ap, ◌∙◌, subst, arith}
use Rattle.std.specs.List.{list_any}
use Rattle.std.proofs.lemmas.Bool.{cond_both, or_parts, false≢true, false_from_ne_true}
use Rattle.part_laws.proofs.FileSystems.Orders.{own_bytes, differ}
use Rattle.table_laws.proofs.Lists.Maps.{one, times_first, times_set}
use Rattle.xinu_model.specs.Files.Sound.{IsOpened, IsDevice, IsSoundFiles}
use Rattle.xinu_model.specs.Files.Stored.{StoredFile, file_named}
use Rattle.xinu_model.specs.Files.Systems.{OpenFile, FileSystem, open_at, has_open, is_open, free_device}
use Rattle.xinu_model.specs.Sound.Tables.{times}

-- what holds of a new element, and of all others, holds after it was written
pub at_each : {A : Type 0} (P : A → Type 0) (l : List A) (d : ℕ) (x z : A) → P z → P x → ((e : ℕ) → e ≢ d → P (get_or l e z))
    → (e : ℕ) → P (get_or (set l d x) e z)
at_each P [] d x z none new others e = none
at_each P (y ∷ l) zero x z none new others zero = new
at_each P (y ∷ l) zero x z none new others (suc e) = others (suc e) (λ (h : suc e ≡ zero). absurd (omega arith))
at_each P (y ∷ l) (suc d) x z none new others zero = others zero (λ (h : zero ≡ suc d). absurd (omega arith))
at_each P (y ∷ l) (suc d) x z none new others (suc e) =
    at_each P l d x z none new (λ e ne. others (suc e) (λ (h : suc e ≡ suc d). ne (let q : e ≡ d = omega (arith, h) in q))) e

-- where none passes a test, none does at any place
pub none_passes : {A : Type 0} (test : A → Bool) (l : List A) (z : A) → test z ≡ false → list_any test l ≡ false → (e : ℕ)
    → test (get_or l e z) ≡ false
none_passes test [] z none all e = none
none_passes test (x ∷ l) z none all zero = (or_parts (test x) (list_any test l) all).0
none_passes test (x ∷ l) z none all (suc e) = none_passes test l z none (or_parts (test x) (list_any test l) all).1 e

pub none_counted : {A : Type 0} (test : A → Bool) (l : List A) → list_any test l ≡ false → times test l ≡ 0
none_counted test [] all = refl
none_counted test (x ∷ l) all =
    let parts = or_parts (test x) (list_any test l) all in
    let n = times_first test x l in
    let b = ap one parts.0 in
    let rest = none_counted test l parts.1 in
    omega (arith, n, b, rest)

first_counted : {A : Type 0} (test : A → Bool) (x : A) (l : List A) → times test (x ∷ l) ≡ 0 → (test x ≡ false) × (times test l ≡ 0)
first_counted test x l all =
    cond_both (test x) (suc (times test l)) (times test l) (λ n. n ≡ 0 → (test x ≡ false) × (times test l ≡ 0))
    (λ _ h. absurd (omega (arith, h))) (λ b h. (b, h)) all

zero_passes : {A : Type 0} (test : A → Bool) (l : List A) (z : A) → test z ≡ false → times test l ≡ 0 → (e : ℕ)
    → test (get_or l e z) ≡ false
zero_passes test [] z none all e = none
zero_passes test (x ∷ l) z none all zero = (first_counted test x l all).0
zero_passes test (x ∷ l) z none all (suc e) = zero_passes test l z none (first_counted test x l all).1 e

-- where at most one passes, and this one does, no other does
pub only_one : {A : Type 0} (test : A → Bool) (l : List A) (z : A) → test z ≡ false → times test l ≤ 1 → (d e : ℕ) → d ≢ e
    → test (get_or l d z) ≡ true → test (get_or l e z) ≡ false
only_one test [] z none few d e ne here = none
only_one test (x ∷ l) z none few zero zero ne here = absurd (ne refl)
only_one test (x ∷ l) z none few zero (suc e) ne here =
    let n = times_first test x l in
    let b = ap one here in
    zero_passes test l z none (omega (arith, n, b, few)) e
only_one test (x ∷ l) z none few (suc d) zero ne here =
    false_from_ne_true (test x)
    (λ t. let n = times_first test x l in let b = ap one t in
    false≢true (sym (zero_passes test l z none (omega (arith, n, b, few)) d) ∙ here))
only_one test (x ∷ l) z none few (suc d) (suc e) ne here =
    let n = times_first test x l in
    only_one test l z none (omega (arith, n, few)) d e (λ (h : d ≡ e). ne (ap suc h)) here

-- a device whose file is the same in other files
pub device_beside : (files others : List StoredFile) (x : Option OpenFile)
    → ((f : OpenFile) → x ≡ Some f → file_named f.name others ≡ file_named f.name files) → IsDevice files x → IsDevice others x
device_beside files others None same h = tt
device_beside files others (Some f) same h = subst (λ o. IsOpened o f) (sym (same f refl)) h

-- the file that a device has open
pub has_file : (files : List StoredFile) (f : OpenFile) → IsDevice files (Some f)
    → (file : StoredFile) × ((file_named f.name files ≡ Some file) × (f.position ≤ length file.bytes))
has_file files f h = by_file (file_named f.name files) refl h
  where
    by_file : (o : Option StoredFile) → file_named f.name files ≡ o → IsOpened o f
        → (file : StoredFile) × ((file_named f.name files ≡ Some file) × (f.position ≤ length file.bytes))
    by_file None e h = absurd h
    by_file (Some file) e h = (file, (e, h))

-- the device that has a file open is the only one
pub others_differ : (s : FileSystem) → IsSoundFiles s → (d e : ℕ) (f g : OpenFile) → e ≢ d → open_at s d ≡ Some f → open_at s e ≡ Some g
    → bytes_eq f.name g.name ≡ false
others_differ s sound d e f g ne at_d at_e =
    let only = only_one (has_open f.name) s.devices None refl (sound.once f.name) d e (λ (h : d ≡ e). ne (sym h))
    (ap (has_open f.name) at_d ∙ own_bytes f.name) in
    differ g.name f.name (sym (ap (has_open f.name) at_e) ∙ only)

-- what isn't open isn't open on any device
pub not_open : (name : List ℕ) (s : FileSystem) → is_open name s ≡ false → (e : ℕ) (g : OpenFile) → open_at s e ≡ Some g
    → bytes_eq name g.name ≡ false
not_open name s none e g at =
    differ g.name name (sym (ap (has_open name) at) ∙ none_passes (has_open name) s.devices None refl none e)

-- a device gets a file that none has, or keeps its file, or has none any longer
pub once_written : (devices : List (Option OpenFile)) (d : ℕ) (x : Option OpenFile) (name : List ℕ) → times (has_open name) devices ≤ 1
    → (has_open name x ≡ true → times (has_open name) devices ≤ one (has_open name (get_or devices d None)))
    → times (has_open name) (set devices d x) ≤ 1
once_written devices d x name few taken =
    let n = times_set (has_open name) devices d x None refl in
    by_test (has_open name x) refl n
  where
    by_test : (b : Bool) → has_open name x ≡ b
        → times (has_open name) (set devices d x) + one (has_open name (get_or devices d None)) ≤ times (has_open name) devices
        + one (has_open name x)
        → times (has_open name) (set devices d x) ≤ 1
    by_test true e n = let few = taken e in let b = ap one e in omega (arith, n, few, b)
    by_test false e n = let b = ap one e in omega (arith, n, few, b)

-- the lowest device that has nothing open
pub free_is_free : (devices : List (Option OpenFile)) → get_or devices (free_device devices) None ≡ None
free_is_free [] = refl
free_is_free (None ∷ devices) = refl
free_is_free (Some f ∷ devices) = free_is_free devices

pub lower_are_open : (devices : List (Option OpenFile)) (e : ℕ) → e < free_device devices → get_or devices e None ≢ None
lower_are_open [] e h = absurd (omega arith)
lower_are_open (None ∷ devices) e h = absurd (omega arith)
lower_are_open (Some f ∷ devices) zero h = λ same. cc
lower_are_open (Some f ∷ devices) (suc e) h = lower_are_open devices e (omega arith)

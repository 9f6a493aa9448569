-- Which files are due: the one that is refused comes after those before it.
use Rattle.std.proofs.Common.{◌≡◌, ◌∙◌, ◌+◌, ◌-◌, ◌<◌, ℕ, zero, suc, append_assoc, append-nil, List, [], ◌∷◌, ◌++◌, take, Option, Some, None, refl, sym, ap, subst, arith}
use Rattle.std.specs.Prelude.{option_map}
use Rattle.command_line.specs.Reading.{Text}
use Rattle.elf_loader.specs.LoadedFiles.{loads}
use Rattle.given_disks.specs.Disks.{disks_of}
use Rattle.lfs_check.specs.declared.faults.DiskFault.{DiskFault}
use Rattle.lfs_layout.specs.Images.{opened}
use Rattle.xinu_base.specs.declared.events.Event.{Event}
use Rattle.xinu_model.specs.Boot.{Loaded}
use Rattle.run_inputs.specs.Fetching.{disks_up_to, fetches_due}
use Rattle.run_inputs.specs.InputDisks.{disk_fault, raw_broken, raw_fault, rule_broken}
use Rattle.run_inputs.specs.InputFaults.{image_fault}
use Rattle.run_inputs.specs.InputFiles.{InputFiles, if_named}
use Rattle.run_inputs.specs.Judging.{Judged, Refused, Accepted, disk0_judged, disk1_judged, images_judged, unless_fault}
use Rattle.run_inputs.specs.Reading.{IsAccepted, images_left}
use Rattle.run_inputs.specs.declared.refusals.Refusal.{Refusal}
use Rattle.run_inputs.specs.declared.refusals.Refusal.TheVariants as refusal

-- ---- the images

-- None of the schedule, the disks and the first n images was refused.
abbrev pub IsAfter : ℕ → Judged → Type 0
IsAfter n (Refused (refusal.Schedule l)) = ⊥
IsAfter n (Refused (refusal.Disk d b r)) = ⊥
IsAfter n (Refused (refusal.Image i f)) = n < i
IsAfter n _ = Unit {0}

-- what holds of the refusals of a file and of what follows holds of both
unless_fault_is : {T : Type 0} (P : Judged → Type 0) (fault : Option Refusal) (read : Option T) (next : T → Judged) → ((r : Refusal) → fault ≡ Some r → P (Refused r))
    → P (Refused refusal.NoMemory) → ((x : T) → P (next x)) → P (unless_fault fault read next)
unless_fault_is P (Some r) read next at memory rest = at r refl
unless_fault_is P None None next at memory rest = memory
unless_fault_is P None (Some x) next at memory rest = rest x

-- a fault of a later image
image_after : (n i : ℕ) (fault : Option ℕ) → n < i → (r : Refusal) → option_map (refusal.Image i) fault ≡ Some r → IsAfter n (Refused r)
image_after n i None later r is = absurd (cc)
image_after n i (Some f) later r is =
    let same : refusal.Image i f ≡ r = cc in
    let P : Refusal → Type 0 = λ x. IsAfter n (Refused x) in subst P same later

accepted_after : (n : ℕ) (j : Judged) → IsAccepted j → IsAfter n j
accepted_after n (Refused cause) accepted = absurd accepted
accepted_after n (Accepted events disks images) accepted = tt

-- the images from a later one on
pub images_after : (n i : ℕ) (files : List (List ℕ)) (next : List Loaded → Judged) → n < i → ((images : List Loaded) → IsAccepted (next images))
    → IsAfter n (images_judged i files next)
images_after n i [] next later rest = accepted_after n (next []) (rest [])
images_after n i (bytes ∷ files) next later rest =
    unless_fault_is (IsAfter n) (option_map (refusal.Image i) (image_fault bytes)) (loads bytes) (λ x. images_judged (i + 1) files (λ images. next (x ∷ images)))
    (image_after n i (image_fault bytes) later) tt (λ x. images_after n (i + 1) files (λ images. next (x ∷ images)) (omega arith) (λ images. rest (x ∷ images)))

-- The next image is fetched, and then those that are left.
pub left_next : (n : ℕ) (name : Text) (names : List Text) (j : Judged) → IsAfter n j → images_left n (name ∷ names) j ≡ name ∷ images_left (n + 1) names j
left_next n name names (Refused (refusal.Image i f)) after =
    let left : i - n ≡ suc (i - (n + 1)) = omega (arith, after) in ap (λ m. take m (name ∷ names)) left
left_next n name names (Refused (refusal.Schedule l)) after = absurd after
left_next n name names (Refused (refusal.Disk d b r)) after = absurd after
left_next n name names (Refused other) after = refl
left_next n name names (Accepted events disks images) after = refl

-- after all images none is left
pub none_left : (n : ℕ) (j : Judged) → IsAccepted j → images_left n [] j ≡ []
none_left n (Refused cause) accepted = absurd accepted
none_left n (Accepted events disks images) accepted = refl

-- an image that is refused is the last that was fetched
pub left_refused : (n m : ℕ) (name : Text) (names : List Text) (j : Judged) (f : ℕ) → j ≡ Refused (refusal.Image m f) → m ≡ n + 1 → images_left n (name ∷ names) j ≡ name ∷ []
left_refused n m name names j f is same =
    let one : m - n ≡ 1 = omega (arith, same) in
    ap (images_left n (name ∷ names)) is ∙ ap (λ k. take k (name ∷ names)) one

-- ---- the disks

-- Neither the schedule nor the raw disk was refused.
abbrev IsPastRaw : Judged → Type 0
IsPastRaw (Refused (refusal.Schedule l)) = ⊥
IsPastRaw (Refused (refusal.Disk zero b r)) = ⊥
IsPastRaw _ = Unit {0}

-- The schedule wasn't refused.
abbrev IsPastSchedule : Judged → Type 0
IsPastSchedule (Refused (refusal.Schedule l)) = ⊥
IsPastSchedule _ = Unit {0}

after_past_raw : (j : Judged) → IsAfter 0 j → IsPastRaw j
after_past_raw (Refused (refusal.Schedule l)) after = after
after_past_raw (Refused (refusal.Disk d b r)) after = absurd after
after_past_raw (Refused other) after = tt
after_past_raw (Accepted events disks images) after = tt

raw_past_schedule : (j : Judged) → IsPastRaw j → IsPastSchedule j
raw_past_schedule (Refused (refusal.Schedule l)) past = past
raw_past_schedule (Refused other) past = tt
raw_past_schedule (Accepted events disks images) past = tt

clean_past : (f : Option DiskFault) (r : Refusal) → option_map rule_broken f ≡ Some r → IsPastRaw (Refused r)
clean_past None r is = absurd (cc)
clean_past (Some x) r is =
    let same : rule_broken x ≡ r = cc in
    let P : Refusal → Type 0 = λ c. IsPastRaw (Refused c) in subst P same tt

raw_past : (f : Option DiskFault) (r : Refusal) → option_map raw_broken f ≡ Some r → IsPastSchedule (Refused r)
raw_past None r is = absurd (cc)
raw_past (Some x) r is =
    let same : raw_broken x ≡ r = cc in
    let P : Refusal → Type 0 = λ c. IsPastSchedule (Refused c) in subst P same tt

-- the disk with files comes after the raw disk
disk1_past : (events : List Event) (disk0 disk1 : List ℕ) (images : List (List ℕ)) → IsPastRaw (disk1_judged events disk0 disk1 images)
disk1_past events disk0 disk1 images =
    unless_fault_is IsPastRaw (option_map rule_broken (disk_fault disk1)) (Some (opened disk1)) (λ d. images_judged 1 images (Accepted events (disks_of disk0 d)))
    (clean_past (disk_fault disk1)) tt
    (λ d. after_past_raw (images_judged 1 images (Accepted events (disks_of disk0 d))) (images_after 0 1 images (Accepted events (disks_of disk0 d)) (omega arith) (λ x. tt)))

-- and both after the schedule
disk0_past : (events : List Event) (disk0 disk1 : List ℕ) (images : List (List ℕ)) → IsPastSchedule (disk0_judged events disk0 disk1 images)
disk0_past events disk0 disk1 images =
    unless_fault_is IsPastSchedule (option_map raw_broken (raw_fault disk0)) (Some disk0) (λ d. disk1_judged events d disk1 images)
    (raw_past (raw_fault disk0)) tt (λ d. raw_past_schedule (disk1_judged events d disk1 images) (disk1_past events d disk1 images))

-- ---- the files in their order

-- the files that are due after the raw disk: the disk with files, unless the raw one is refused, and the images
abbrev disk1_left : InputFiles → Judged → List Text
disk1_left f (Refused (refusal.Disk zero b rule)) = []
disk1_left f j = if_named f.disk1 ++ images_left 0 f.images j

disk1_then : (f : InputFiles) (j : Judged) → IsPastRaw j → disk1_left f j ≡ if_named f.disk1 ++ images_left 0 f.images j
disk1_then f (Refused (refusal.Disk zero b rule)) past = absurd past
disk1_then f (Refused (refusal.Disk (suc d) b rule)) past = refl
disk1_then f (Refused other) past = refl
disk1_then f (Accepted events disks images) past = refl

-- the disks and then some images
both_disks : (f : InputFiles) (images : List Text) → if_named f.disk0 ++ (if_named f.disk1 ++ images) ≡ disks_up_to 1 f ++ images
both_disks f images = sym (append_assoc (if_named f.disk0) (if_named f.disk1) images)

schedule_then : (f : InputFiles) (j : Judged) → IsPastSchedule j → fetches_due f j ≡ f.schedule ∷ if_named f.disk0 ++ disk1_left f j
schedule_then f (Refused (refusal.Schedule l)) past = absurd past
schedule_then f (Refused (refusal.Disk zero b rule)) past = ap (λ l. f.schedule ∷ l) (sym (append-nil (if_named f.disk0)))
schedule_then f (Refused (refusal.Disk (suc d) b rule)) past =
    ap (λ l. f.schedule ∷ if_named f.disk0 ++ l) (sym (append-nil (if_named f.disk1)))
schedule_then f (Refused (refusal.Image i fault)) past =
    let all : i - 0 ≡ i = omega arith in
    sym (ap (λ l. f.schedule ∷ l) (both_disks f (take (i - 0) f.images) ∙ ap (λ n. disks_up_to 1 f ++ take n f.images) all))
schedule_then f (Refused other) past = ap (λ l. f.schedule ∷ l) (sym (both_disks f f.images))
schedule_then f (Accepted events disks images) past = ap (λ l. f.schedule ∷ l) (sym (both_disks f f.images))

-- the schedule is due
pub due_first : (f : InputFiles) (j : Judged) → (rest : List Text) × (fetches_due f j ≡ (f.schedule ∷ []) ++ rest)
due_first f (Refused (refusal.Schedule l)) = ([], refl)
due_first f (Refused (refusal.Disk d b rule)) = (disks_up_to d f, refl)
due_first f (Refused (refusal.Image i fault)) = (disks_up_to 1 f ++ take i f.images, refl)
due_first f (Refused other) = (disks_up_to 1 f ++ f.images, refl)
due_first f (Accepted events disks images) = (disks_up_to 1 f ++ f.images, refl)

module _ (f : InputFiles) (j : Judged) (events : List Event) (disk0 disk1 : List ℕ) (images : List (List ℕ)) where
  -- after a schedule that is read the raw disk is due
  pub due_second : j ≡ disk0_judged events disk0 disk1 images → (rest : List Text) × (fetches_due f j ≡ ((f.schedule ∷ []) ++ if_named f.disk0) ++ rest)
  due_second is = (disk1_left f j, schedule_then f j (subst IsPastSchedule (sym is) (disk0_past events disk0 disk1 images)))

  -- and after a raw disk that is accepted the disk with files, and then the images
  pub due_third : j ≡ disk1_judged events disk0 disk1 images
      → fetches_due f j ≡ (((f.schedule ∷ []) ++ if_named f.disk0) ++ if_named f.disk1) ++ images_left 0 f.images j
  due_third is =
      let past = subst IsPastRaw (sym is) (disk1_past events disk0 disk1 images) in
      schedule_then f j (raw_past_schedule j past) ∙ ap (λ l. f.schedule ∷ if_named f.disk0 ++ l) (disk1_then f j past)
      ∙ ap (λ l. f.schedule ∷ l) (sym (append_assoc (if_named f.disk0) (if_named f.disk1) (images_left 0 f.images j)))

-- What files are judged to be, one after another.
use Rattle.std.proofs.Common.{◌≡◌, ◌≢◌, ◌+◌, ◌∙◌, ◌||◌, ℕ, true, false, List, [], ◌∷◌, Option, Some, None, refl, sym, ap}
use Rattle.std.specs.Prelude.{is_some, option_and_then, option_map}
use Rattle.elf_loader.specs.LoadedFiles.{loads}
use Rattle.given_disks.specs.Disks.{disks_of}
use Rattle.lfs_check.specs.declared.faults.DiskFault.{DiskFault}
use Rattle.lfs_layout.specs.Images.{opened}
use Rattle.schedule_file.specs.ScheduleFiles.{events_in}
use Rattle.xinu_base.specs.declared.events.Event.{Event}
use Rattle.xinu_model.specs.Boot.{Loaded}
use Rattle.run_inputs.specs.InputDisks.{disk_fault, raw_broken, raw_fault, rule_broken}
use Rattle.run_inputs.specs.InputFaults.{ReadsAs, have_fault, image_fault, images_loaded, schedule_fault}
use Rattle.run_inputs.specs.Judging.{Judged, Refused, Accepted, disk0_judged, disk1_judged, images_judged, judged, unless_fault}
use Rattle.run_inputs.specs.declared.refusals.Refusal.{Refusal}
use Rattle.run_inputs.specs.declared.refusals.Refusal.TheVariants as refusal
use Rattle.run_inputs.proofs.GoodImages.{good_loads, good_parts}

-- ---- one file

pub unless_fault_read : {T : Type 0} (fault : Option Refusal) (read : Option T) (next : T → Judged) (x : T) → fault ≡ None → read ≡ Some x
    → unless_fault fault read next ≡ next x
unless_fault_read fault read next x none some = rw (none, some) refl

pub unless_fault_refused : {T : Type 0} (fault : Option Refusal) (read : Option T) (next : T → Judged) (cause : Refusal) → fault ≡ Some cause
    → unless_fault fault read next ≡ Refused cause
unless_fault_refused fault read next cause is = rw is refl

-- a schedule file that is read
pub schedule_read : (bytes : List ℕ) (events : List Event) (disk0 disk1 : List ℕ) (images : List (List ℕ)) → ReadsAs bytes events
    → judged bytes disk0 disk1 images ≡ disk0_judged events disk0 disk1 images
schedule_read bytes events disk0 disk1 images reads =
    unless_fault_read (option_map refusal.Schedule (schedule_fault bytes)) (events_in bytes) (λ x. disk0_judged x disk0 disk1 images) events
    (ap (option_map refusal.Schedule) reads.good) reads.reads

-- and one with a fault
pub schedule_refused : (bytes : List ℕ) (l : ℕ) (disk0 disk1 : List ℕ) (images : List (List ℕ)) → schedule_fault bytes ≡ Some l
    → judged bytes disk0 disk1 images ≡ Refused (refusal.Schedule l)
schedule_refused bytes l disk0 disk1 images is =
    unless_fault_refused (option_map refusal.Schedule (schedule_fault bytes)) (events_in bytes) (λ x. disk0_judged x disk0 disk1 images)
    (refusal.Schedule l) (ap (option_map refusal.Schedule) is)

module _ (events : List Event) (images : List (List ℕ)) where
  -- a raw disk that is accepted
  pub raw_read : (disk0 disk1 : List ℕ) → raw_fault disk0 ≡ None → disk0_judged events disk0 disk1 images ≡ disk1_judged events disk0 disk1 images
  raw_read disk0 disk1 none =
      unless_fault_read (option_map raw_broken (raw_fault disk0)) (Some disk0) (λ d. disk1_judged events d disk1 images) disk0 (ap (option_map raw_broken) none) refl

  -- and one that isn't
  pub raw_refused : (disk0 disk1 : List ℕ) (f : DiskFault) → raw_fault disk0 ≡ Some f → disk0_judged events disk0 disk1 images ≡ Refused (raw_broken f)
  raw_refused disk0 disk1 f is =
      unless_fault_refused (option_map raw_broken (raw_fault disk0)) (Some disk0) (λ d. disk1_judged events d disk1 images) (raw_broken f) (ap (option_map raw_broken) is)

  -- a disk with files that is accepted
  pub clean_read : (disk0 disk1 : List ℕ) → disk_fault disk1 ≡ None
      → disk1_judged events disk0 disk1 images ≡ images_judged 1 images (Accepted events (disks_of disk0 (opened disk1)))
  clean_read disk0 disk1 none =
      unless_fault_read (option_map rule_broken (disk_fault disk1)) (Some (opened disk1))
      (λ d. images_judged 1 images (Accepted events (disks_of disk0 d))) (opened disk1) (ap (option_map rule_broken) none) refl

  -- and one that isn't
  pub clean_refused : (disk0 disk1 : List ℕ) (f : DiskFault) → disk_fault disk1 ≡ Some f → disk1_judged events disk0 disk1 images ≡ Refused (rule_broken f)
  clean_refused disk0 disk1 f is =
      unless_fault_refused (option_map rule_broken (disk_fault disk1)) (Some (opened disk1))
      (λ d. images_judged 1 images (Accepted events (disks_of disk0 d))) (rule_broken f) (ap (option_map rule_broken) is)

-- an image file that is read
pub image_read : (i : ℕ) (bytes : List ℕ) (image : Loaded) (files : List (List ℕ)) (next : List Loaded → Judged) → option_map (refusal.Image i) (image_fault bytes) ≡ None
    → loads bytes ≡ Some image → images_judged i (bytes ∷ files) next ≡ images_judged (i + 1) files (λ images. next (image ∷ images))
image_read i bytes image files next good is =
    unless_fault_read (option_map (refusal.Image i) (image_fault bytes)) (loads bytes) (λ x. images_judged (i + 1) files (λ images. next (x ∷ images))) image good is

-- and one with a fault
pub image_refused : (i : ℕ) (bytes : List ℕ) (f : ℕ) (files : List (List ℕ)) (next : List Loaded → Judged) → image_fault bytes ≡ Some f
    → images_judged i (bytes ∷ files) next ≡ Refused (refusal.Image i f)
image_refused i bytes f files next is =
    unless_fault_refused (option_map (refusal.Image i) (image_fault bytes)) (loads bytes) (λ x. images_judged (i + 1) files (λ images. next (x ∷ images))) (refusal.Image i f) (ap (option_map (refusal.Image i)) is)

-- ---- image files

-- Files without a fault load, and are judged by their images.
pub images_read : (i : ℕ) (files : List (List ℕ)) (next : List Loaded → Judged) → have_fault files ≡ false
    → (images : List Loaded) × ((images_loaded files ≡ Some images) × (images_judged i files next ≡ next images))
images_read i [] next good = ([], (refl, refl))
images_read i (bytes ∷ files) next good =
    let parts = good_parts bytes files good in
    let image = good_loads bytes parts.0 in
    let rest = images_read (i + 1) files (λ images. next (image.0 ∷ images)) parts.1 in (
      image.0 ∷ rest.0,
      (
        ap (option_and_then (λ x. option_map (λ images. x ∷ images) (images_loaded files))) image.1 ∙ ap (option_map (λ images. image.0 ∷ images)) rest.1.0,
        image_read i bytes image.0 files next (ap (option_map (refusal.Image i)) parts.0) image.1 ∙ rest.1.1,
      ),
    )

-- Some image is refused for a fault.
abbrev pub IsRefused : Judged → Type 0
IsRefused j = (n : ℕ) × (fault : ℕ) × (j ≡ Refused (refusal.Image n fault))

first_refused : (i : ℕ) (bytes : List ℕ) (files : List (List ℕ)) (next : List Loaded → Judged) (f : Option ℕ) → image_fault bytes ≡ f
    → (is_some (image_fault bytes) || have_fault files) ≡ true
    → ((image : Loaded) → have_fault files ≡ true → IsRefused (images_judged (i + 1) files (λ images. next (image ∷ images)))) → IsRefused (images_judged i (bytes ∷ files) next)
first_refused i bytes files next (Some fault) is bad rest = (i, fault, image_refused i bytes fault files next is)
first_refused i bytes files next None is bad rest =
    let later : have_fault files ≡ true = sym (ap (λ f. is_some f || have_fault files) is) ∙ bad in
    let image = good_loads bytes is in
    let refused = rest image.0 later in
    (refused.0, refused.1, image_read i bytes image.0 files next (ap (option_map (refusal.Image i)) is) image.1 ∙ refused.2)

-- Of files of which one has a fault one is refused.
pub images_refused : (i : ℕ) (files : List (List ℕ)) (next : List Loaded → Judged) → have_fault files ≡ true → IsRefused (images_judged i files next)
unfolding have_fault
images_refused i [] next bad = absurd (cc)
images_refused i (bytes ∷ files) next bad =
    first_refused i bytes files next (image_fault bytes) refl bad (λ image later. images_refused (i + 1) files (λ images. next (image ∷ images)) later)

-- ---- no file is refused as arguments are

unless_fault_keeps : {T : Type 0} (fault : Option Refusal) (read : Option T) (next : T → Judged) → fault ≢ Some refusal.Usage
    → ((x : T) → next x ≢ Refused refusal.Usage) → unless_fault fault read next ≢ Refused refusal.Usage
unless_fault_keeps (Some cause) read next other rest is =
    let same : cause ≡ refusal.Usage = cc in other (ap Some same)
unless_fault_keeps None None next other rest is = cc
unless_fault_keeps None (Some x) next other rest is = rest x is

schedule_keeps : (fault : Option ℕ) → option_map refusal.Schedule fault ≢ Some refusal.Usage
schedule_keeps None is = cc
schedule_keeps (Some l) is = cc

image_keeps : (i : ℕ) (fault : Option ℕ) → option_map (refusal.Image i) fault ≢ Some refusal.Usage
image_keeps i None is = cc
image_keeps i (Some f) is = cc

pub raw_keeps : (f : Option DiskFault) → option_map raw_broken f ≢ Some refusal.Usage
raw_keeps None is = cc
raw_keeps (Some x) is = cc

pub clean_keeps : (f : Option DiskFault) → option_map rule_broken f ≢ Some refusal.Usage
clean_keeps None is = cc
clean_keeps (Some x) is = cc

images_keep : (i : ℕ) (files : List (List ℕ)) (next : List Loaded → Judged)
    → ((images : List Loaded) → next images ≢ Refused refusal.Usage) → images_judged i files next ≢ Refused refusal.Usage
images_keep i [] next rest is = rest [] is
images_keep i (bytes ∷ files) next rest is =
    unless_fault_keeps (option_map (refusal.Image i) (image_fault bytes)) (loads bytes) (λ x. images_judged (i + 1) files (λ images. next (x ∷ images))) (image_keeps i (image_fault bytes))
    (λ x. images_keep (i + 1) files (λ images. next (x ∷ images)) (λ images. rest (x ∷ images))) is

disk1_keeps : (events : List Event) (disk0 disk1 : List ℕ) (images : List (List ℕ)) → disk1_judged events disk0 disk1 images ≢ Refused refusal.Usage
disk1_keeps events disk0 disk1 images is =
    unless_fault_keeps (option_map rule_broken (disk_fault disk1)) (Some (opened disk1)) (λ d. images_judged 1 images (Accepted events (disks_of disk0 d))) (clean_keeps (disk_fault disk1))
    (λ d. images_keep 1 images (Accepted events (disks_of disk0 d)) (λ x same. cc)) is

disk0_keeps : (events : List Event) (disk0 disk1 : List ℕ) (images : List (List ℕ)) → disk0_judged events disk0 disk1 images ≢ Refused refusal.Usage
disk0_keeps events disk0 disk1 images is =
    unless_fault_keeps (option_map raw_broken (raw_fault disk0)) (Some disk0) (λ d. disk1_judged events d disk1 images) (raw_keeps (raw_fault disk0))
    (λ d. disk1_keeps events d disk1 images) is

pub judged_keeps : (schedule disk0 disk1 : List ℕ) (images : List (List ℕ)) → judged schedule disk0 disk1 images ≢ Refused refusal.Usage
judged_keeps schedule disk0 disk1 images is =
    unless_fault_keeps (option_map refusal.Schedule (schedule_fault schedule)) (events_in schedule) (λ events. disk0_judged events disk0 disk1 images) (schedule_keeps (schedule_fault schedule))
    (λ events. disk0_keeps events disk0 disk1 images) is

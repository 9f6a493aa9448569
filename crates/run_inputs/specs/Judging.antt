-- What the inputs of a run are judged to be by their bytes: a schedule, a raw disk, a disk with files, and images. They are judged in this order, and
-- the first with a fault is refused.
use Rattle.std.specs.Prelude.{◌+◌, ℕ, List, [], ◌∷◌, Option, Some, None, option_map}
use Rattle.elf_loader.specs.LoadedFiles.{loads}
use Rattle.given_disks.specs.Disks.{disks_of}
use Rattle.lfs_layout.specs.Images.{opened}
use Rattle.schedule_file.specs.ScheduleFiles.{events_in}
use Rattle.xinu_base.specs.declared.events.Event.{Event}
use Rattle.xinu_model.specs.Boot.{Disks, Loaded}
use Rattle.run_inputs.specs.InputDisks.{disk_fault, raw_broken, raw_fault, rule_broken}
use Rattle.run_inputs.specs.InputFaults.{image_fault, schedule_fault}
use Rattle.run_inputs.specs.declared.refusals.Refusal.{Refusal}
use Rattle.run_inputs.specs.declared.refusals.Refusal.TheVariants as refusal

-- refused for a cause, or accepted as these events, disks and images
pub data Judged : Type 0 where
  Refused : (cause : Refusal) → Judged
  Accepted : (events : List Event) → (disks : Disks) → (images : List Loaded) → Judged

-- A file with a fault is refused; by what is read of any other the rest is judged. (A file without a fault can be read, so the middle
-- equation is never reached.)
abbrev pub unless_fault : {T : Type 0} → Option Refusal → Option T → (T → Judged) → Judged
unless_fault (Some cause) read next = Refused cause
unless_fault None None next = Refused refusal.NoMemory
unless_fault None (Some x) next = next x

-- the image files, ELF or not, are read in order, from image i on
abbrev pub images_judged : ℕ → List (List ℕ) → (List Loaded → Judged) → Judged
images_judged i [] next = next []
images_judged i (bytes ∷ files) next =
    unless_fault (option_map (refusal.Image i) (image_fault bytes)) (loads bytes) (λ image. images_judged (i + 1) files (λ images. next (image ∷ images)))

-- The disk with files is checked, and goes on as it is worked on, in version 2; then the images are read.
abbrev pub disk1_judged : List Event → List ℕ → List ℕ → List (List ℕ) → Judged
disk1_judged events disk0 disk1 images =
    unless_fault (option_map rule_broken (disk_fault disk1)) (Some (opened disk1)) (λ d. images_judged 1 images (Accepted events (disks_of disk0 d)))

-- The raw disk is checked, and goes on as it is; then the disk with files.
abbrev pub disk0_judged : List Event → List ℕ → List ℕ → List (List ℕ) → Judged
disk0_judged events disk0 disk1 images =
    unless_fault (option_map raw_broken (raw_fault disk0)) (Some disk0) (λ d. disk1_judged events d disk1 images)

-- The schedule file is read, then the disks, and then the images.
abbrev pub judged : List ℕ → List ℕ → List ℕ → List (List ℕ) → Judged
judged schedule disk0 disk1 images =
    unless_fault (option_map refusal.Schedule (schedule_fault schedule)) (events_in schedule) (λ events. disk0_judged events disk0 disk1 images)

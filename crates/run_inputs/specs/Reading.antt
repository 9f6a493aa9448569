-- What the calls that fetch and judge the inputs promise, part by part and at last of them all.
use Rattle.std.specs.Prelude.{◌≡◌, ◌∷◌, ◌+◌, ◌-◌, ℕ, List, [], ◌++◌, length, map, take, Option, Some, None, Result, Ok, Err}
use Rattle.command_line.specs.Reading.{Text}
use Rattle.given_disks.specs.Disks.{disks_of}
use Rattle.host_port.specs.Outside.{Outside}
use Rattle.lfs_check.specs.declared.faults.DiskFault.{DiskFault}
use Rattle.xinu_base.specs.declared.events.Event.{Event}
use Rattle.xinu_model.specs.Boot.{Loaded}
use Rattle.run_inputs.specs.Fetching.{FetchesFiles, fetches_due, refusal_of}
use Rattle.run_inputs.specs.InputDisks.{IsDiskCause}
use Rattle.run_inputs.specs.InputFaults.{ReadsAs, images_loaded, schedule_fault}
use Rattle.run_inputs.specs.InputFiles.{InputFiles, Unseen, disk_bytes, file_bytes, held, if_named, image_bytes}
use Rattle.run_inputs.specs.Judging.{Judged, Refused, Accepted, images_judged}
use Rattle.run_inputs.specs.declared.inputs.Inputs.{Inputs}
use Rattle.run_inputs.specs.declared.refusals.Refusal.{Refusal}
use Rattle.run_inputs.specs.declared.refusals.Refusal.TheVariants as refusal

-- ---- the schedule

-- A schedule file is read as these events, or refused for its fault, or the host failed or memory ran out.
abbrev pub IsScheduleAnswer : List ℕ → Result (List Event) Refusal → Type 0
IsScheduleAnswer bytes (Ok events) = ReadsAs bytes events
IsScheduleAnswer bytes (Err (refusal.Schedule l)) = schedule_fault bytes ≡ Some l
IsScheduleAnswer bytes (Err refusal.HostFault) = Unit {0}
IsScheduleAnswer bytes (Err refusal.NoMemory) = Unit {0}
IsScheduleAnswer bytes (Err _) = ⊥

-- The schedule file was fetched and read, for some bytes of it if it can't be observed.
pub record ReadsSchedule (name : Text) (result : Result (List Event) Refusal) (old new : Outside) : Type 0 where
  pub unseen : List ℕ
  pub answers : IsScheduleAnswer (file_bytes (old.file name) unseen) result
  pub fetches : FetchesFiles (name ∷ []) (refusal_of result) old new

-- ---- a disk

-- A disk is accepted, and then opened, if it breaks no rule; or refused for the rule that it breaks, or the host failed or memory ran out.
abbrev pub IsDiskAnswer : ℕ → (List ℕ → Option DiskFault) → (List ℕ → List ℕ) → List ℕ → Result (List ℕ) Refusal → Type 0
IsDiskAnswer number fault opens bytes (Ok image) = (fault bytes ≡ None) × (image ≡ opens bytes)
IsDiskAnswer number fault opens bytes (Err refusal.HostFault) = Unit {0}
IsDiskAnswer number fault opens bytes (Err cause) = IsDiskCause number (fault bytes) cause

-- A disk was fetched, if a file is named for it, and checked, for some bytes of the file if it can't be observed. Without a file it has these first bytes.
pub record ReadsDisk (number : ℕ) (fault : List ℕ → Option DiskFault) (opens : List ℕ → List ℕ) (first : List ℕ) (name : Option Text)
    (result : Result (List ℕ) Refusal) (old new : Outside) : Type 0 where
  pub unseen : List ℕ
  pub answers : IsDiskAnswer number fault opens (disk_bytes name first old.file unseen) result
  pub fetches : FetchesFiles (if_named name) (refusal_of result) old new

-- ---- the images

-- The inputs were accepted.
abbrev pub IsAccepted : Judged → Type 0
IsAccepted (Refused cause) = ⊥
IsAccepted (Accepted events disks images) = Unit {0}

-- The images that are fetched after the first n, by the names of those that are left: up to the image that is refused; none if a disk is.
abbrev pub images_left : ℕ → List Text → Judged → List Text
images_left n names (Refused (refusal.Image i f)) = take (i - n) names
images_left n names (Refused (refusal.Disk d b r)) = []
images_left n names _ = names

-- After these image files, those with these bytes were added to them; or one of them is refused for its fault, or the host failed or memory ran out.
abbrev pub AreJudged : {T : Type 0} → (T → List (List ℕ)) → List (List ℕ) → List (List ℕ) → Result T Refusal → Type 0
AreJudged files before bytes (Ok x) = files x ≡ before ++ bytes
AreJudged files before bytes (Err (refusal.Image i f)) = (next : List Loaded → Judged) → images_judged (length before + 1) bytes next ≡ Refused (refusal.Image i f)
AreJudged files before bytes (Err refusal.HostFault) = Unit {0}
AreJudged files before bytes (Err refusal.NoMemory) = Unit {0}
AreJudged files before bytes (Err _) = ⊥

-- After these image files, those of these names were fetched and judged in order, for some bytes of those that can't be observed.
pub record ReadsImages {T : Type 0} (files : T → List (List ℕ)) (before : List (List ℕ)) (names : List Text) (result : Result T Refusal) (old new : Outside) : Type 0 where
  pub unseen : ℕ → List ℕ
  pub answers : AreJudged files before (image_bytes (length before + 1) names old.file unseen) result
  pub fetches : (next : List Loaded → Judged) → ((images : List Loaded) → IsAccepted (next images))
      → FetchesFiles (images_left (length before) names (images_judged (length before + 1) (image_bytes (length before + 1) names old.file unseen) next)) (refusal_of result) old new

-- ---- all of them

-- The inputs are judged to be these: their events, their disks, and what their image files load.
pub record Accepts (j : Judged) (x : Inputs) : Type 0 where
  pub images : List Loaded
  pub loads : images_loaded (map (λ v. v.items) x.images.items) ≡ Some images
  pub accepted : j ≡ Accepted x.schedule (disks_of x.disk0 x.disk1) images

-- The answer is what the inputs are judged to be, or the host failed or memory ran out.
abbrev pub IsAnswer : Judged → Result Inputs Refusal → Type 0
IsAnswer j (Ok x) = Accepts j x
IsAnswer j (Err (refusal.Schedule l)) = j ≡ Refused (refusal.Schedule l)
IsAnswer j (Err (refusal.Disk d b r)) = j ≡ Refused (refusal.Disk d b r)
IsAnswer j (Err (refusal.Image i f)) = j ≡ Refused (refusal.Image i f)
IsAnswer j (Err refusal.HostFault) = Unit {0}
IsAnswer j (Err refusal.NoMemory) = Unit {0}
IsAnswer j (Err _) = ⊥

-- The inputs were fetched and judged, for some bytes of the files that can't be observed. The files up to the one that is refused were fetched, and
-- nothing else was done.
pub record ReadsInputs (f : InputFiles) (result : Result Inputs Refusal) (old new : Outside) : Type 0 where
  pub unseen : Unseen
  pub answers : IsAnswer (held f old.file unseen) result
  pub fetches : FetchesFiles (fetches_due f (held f old.file unseen)) (refusal_of result) old new

-- The files of the inputs: their names, and the bytes that they hold.
use Rattle.std.specs.Prelude.{◌+◌, ℕ, List, [], ◌∷◌, Option, Some, None}
use Rattle.command_line.specs.Reading.{Text}
use Rattle.run_inputs.specs.InputDisks.{empty_disk0, empty_disk1}
use Rattle.run_inputs.specs.Judging.{Judged, judged}

-- their names: the schedule, the raw disk and the disk with files, each if it is named, and the images
pub record InputFiles : Type 0 where
  pub schedule : Text
  pub disk0 : Option Text
  pub disk1 : Option Text
  pub images : List Text

-- a file, if one is named
abbrev pub if_named : Option Text → List Text
if_named None = []
if_named (Some name) = name ∷ []

-- The bytes of the files that can't be observed. The images are counted from 1.
pub record Unseen : Type 0 where
  pub schedule : List ℕ
  pub disk0 : List ℕ
  pub disk1 : List ℕ
  pub images : ℕ → List ℕ

-- what a file holds: the bytes that can be observed, or else the unseen ones
abbrev pub file_bytes : Option (List ℕ) → List ℕ → List ℕ
file_bytes None unseen = unseen
file_bytes (Some bytes) unseen = bytes

-- what the image files hold, from image i on
abbrev pub image_bytes : ℕ → List Text → (Text → Option (List ℕ)) → (ℕ → List ℕ) → List (List ℕ)
image_bytes i [] file unseen = []
image_bytes i (name ∷ names) file unseen =
    file_bytes (file name) (unseen i) ∷ image_bytes (i + 1) names file unseen

-- what a disk of a run holds: what its file holds if one is named, or else these first bytes
abbrev pub disk_bytes : Option Text → List ℕ → (Text → Option (List ℕ)) → List ℕ → List ℕ
disk_bytes None first file unseen = first
disk_bytes (Some name) first file unseen = file_bytes (file name) unseen

-- what the inputs are judged to be if their files hold these bytes
abbrev pub held : InputFiles → (Text → Option (List ℕ)) → Unseen → Judged
held f file unseen =
    judged (file_bytes (file f.schedule) unseen.schedule) (disk_bytes f.disk0 empty_disk0 file unseen.disk0) (disk_bytes f.disk1 empty_disk1 file unseen.disk1)
    (image_bytes 1 f.images file unseen.images)

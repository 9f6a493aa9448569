-- The command `run`, and which run its arguments give.
use Rattle.std.specs.Prelude.{◌&&◌, ℕ, Bool, true, List, [], ◌∷◌, Option, Some, None, length, nat_lt, nat_le, codes, if◌then◌else◌}
use Rattle.std.specs.List.{list_all}
use Rattle.command_line.specs.Reading.{OptionRow, Taken, Text, flag_option, is_given, option_value, value_option}

-- The files of a run's disks, each if it is named: those that the raw disk and the disk with files start as, and those that they are
-- written to at the end.
pub record DiskFiles : Type 0 where
  pub disk0 : Option Text
  pub disk1 : Option Text
  pub out0 : Option Text
  pub out1 : Option Text

-- What to run: the names of the schedule's file, of the disks' files and of the images' files, and whether the output is plain.
pub record RunFiles : Type 0 where
  pub schedule : Text
  pub disks : DiskFiles
  pub images : List Text
  pub plain : Bool

abbrev pub run_options : List OptionRow
run_options =
    value_option (codes "schedule")
    ∷ value_option (codes "disk0")
    ∷ value_option (codes "disk1")
    ∷ value_option (codes "out0")
    ∷ value_option (codes "out1")
    ∷ flag_option (codes "plain")
    ∷ []

-- the most images of a run
abbrev pub most_images : ℕ
most_images = 8

-- a file's name isn't empty
abbrev pub is_file_name : Text → Bool
is_file_name name = nat_lt 0 (length name)

-- a file that may be named has no empty name
abbrev pub may_be_named : Option Text → Bool
may_be_named None = true
may_be_named (Some name) = is_file_name name

-- the files of the disks, by the values of their options
abbrev pub disk_files : (Text → Option Text) → DiskFiles
disk_files value = record {
  disk0 = value (codes "disk0");
  disk1 = value (codes "disk1");
  out0 = value (codes "out0");
  out1 = value (codes "out1");
}

-- none of them has an empty name
abbrev pub may_be_disks : DiskFiles → Bool
may_be_disks d = may_be_named d.disk0 && (may_be_named d.disk1 && (may_be_named d.out0 && may_be_named d.out1))

-- whether these can be the files of a run's schedule, disks and images: there is at least one image, there are at most as many as there
-- may be, and each file that is named has a name
abbrev pub are_run_files : Text → DiskFiles → List Text → Bool
are_run_files schedule disks images = is_file_name schedule && (may_be_disks disks && (list_all is_file_name images
    && (nat_lt 0 (length images) && nat_le (length images) most_images)))

-- `run --schedule FILE [--disk0 FILE] [--disk1 FILE] [--out0 FILE] [--out1 FILE] [--plain] IMAGE..`
abbrev pub run_of : Option Text → DiskFiles → Bool → List Text → Option RunFiles
run_of None disks plain images = None
run_of (Some schedule) disks plain images = if are_run_files schedule disks images
    then Some (record { schedule = schedule; disks = disks; images = images; plain = plain })
    else None

abbrev pub run_from : Taken → Option RunFiles
run_from t = run_of (option_value (codes "schedule") t) (disk_files (λ name. option_value name t)) (is_given (codes "plain") t) t.positional

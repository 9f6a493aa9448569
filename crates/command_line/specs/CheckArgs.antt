-- The command `check`, and which files its arguments name.
use Rattle.std.specs.Prelude.{◌&&◌, List, [], ◌∷◌, Option, Some, None, codes, if◌then◌else◌}
use Rattle.command_line.specs.Reading.{OptionRow, Taken, Text, option_value, value_option}
use Rattle.command_line.specs.RunArgs.{DiskFiles, are_run_files, is_file_name}

-- What to check: the names of the file with the transcript, and of the schedule's file, the disks' files and the images' files of the run
-- that it is to be the transcript of.
pub record CheckFiles : Type 0 where
  pub schedule : Text
  pub trace : Text
  pub disks : DiskFiles
  pub images : List Text

abbrev pub check_options : List OptionRow
check_options =
    value_option (codes "schedule")
    ∷ value_option (codes "trace")
    ∷ value_option (codes "disk0")
    ∷ value_option (codes "disk1")
    ∷ []

-- the files that the disks start as, by the values of their options; the disks are written to no file
abbrev pub start_files : (Text → Option Text) → DiskFiles
start_files value = record {
  disk0 = value (codes "disk0");
  disk1 = value (codes "disk1");
  out0 = None;
  out1 = None;
}

-- `check --schedule FILE --trace FILE [--disk0 FILE] [--disk1 FILE] IMAGE..`: these can be the files of a run, and the transcript's file
-- has a name
abbrev pub check_of : Option Text → Option Text → DiskFiles → List Text → Option CheckFiles
check_of (Some schedule) (Some trace) disks images = if is_file_name trace && are_run_files schedule disks images
    then Some (record { schedule = schedule; trace = trace; disks = disks; images = images })
    else None
check_of schedule trace disks images = None

abbrev pub check_from : Taken → Option CheckFiles
check_from t =
    check_of (option_value (codes "schedule") t) (option_value (codes "trace") t) (start_files (λ name. option_value name t)) t.positional

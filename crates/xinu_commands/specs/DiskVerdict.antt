-- What each action on a disk deserves by the bytes of its files: the disk is checked first, and then the action is done.
use Rattle.std.specs.Prelude.{◌-◌, ◌/◌, ℕ, List, [], ◌++◌, length, Option, Some, None, option_map, codes, count_by, if◌then◌else◌}
use Rattle.std.specs.List.{flat_map}
use Rattle.std.specs.Fmt.{decimal}
use Rattle.command_line.specs.Reading.{Text}
use Rattle.xinu_base.specs.Hexadecimal.{hex_of}
use Rattle.lfs_check.specs.Fields.{geometry_of, fields_of, directory_entries}
use Rattle.lfs_check.specs.Faults.{named, report}
use Rattle.lfs_check.specs.Kept.{kept_entries}
use Rattle.lfs_check.specs.Rules.{entry_is_used, rule_0}
use Rattle.lfs_check.specs.declared.faults.DiskFault.{DiskFault}
use Rattle.lfs_check.specs.declared.faults.Report.{Report}
use Rattle.lfs_layout.specs.Files.{files_of, found, have_room, listing, padded_name, placed_files, with_set}
use Rattle.lfs_layout.specs.Images.{opened, repaired}
use Rattle.lfs_layout.specs.Made.{geometry_2, image_with}
use Rattle.xinu_commands.specs.Work.{Verdict, Does, Outputs, if_some, unless_fault}
use Rattle.run_inputs.specs.InputDisks.{disk_fault, rule_broken}
use Rattle.run_inputs.specs.declared.refusals.Refusal.TheVariants as refusal

-- ---- the stages

-- rule 0 if a disk breaks it: it has whole blocks, and not too few or too many
unfoldable pub size_fault : List ℕ → Option DiskFault
size_fault disk = named 0 (rule_0 (geometry_of disk) disk)

-- A disk that breaks a rule is refused. Any other goes on as it is worked on, in version 2.
abbrev pub with_disk : List ℕ → (List ℕ → Verdict) → Verdict
with_disk disk next = unless_fault (option_map rule_broken (disk_fault disk)) (Some (opened disk)) next

-- ---- what is printed

-- the line of a file of this name and size: its size, and its name in hexadecimal
abbrev pub file_line : List ℕ × ℕ → List ℕ
file_line f = codes "file " ++ decimal f.1 ++ codes " " ++ hex_of f.0 ++ codes "\n"

-- the lines of the files of a disk, in the order of their names
unfoldable pub file_lines : List ℕ → List ℕ
file_lines disk = flat_map file_line (listing (files_of disk))

-- the line of a clean disk: how many files, free data blocks and free index blocks it has
abbrev pub report_line : Report → List ℕ
report_line r = codes "clean " ++ decimal r.files ++ codes " " ++ decimal r.free_data ++ codes " " ++ decimal r.free_index ++ codes "\n"

-- how many entries of a disk are kept, and how many other used ones are dropped
unfoldable pub kept_count : List ℕ → ℕ
kept_count disk = length (kept_entries (geometry_of disk) (fields_of (geometry_of disk) disk).indexes (directory_entries (geometry_of disk) disk))

unfoldable pub dropped_count : List ℕ → ℕ
dropped_count disk = count_by entry_is_used (directory_entries (geometry_of disk) disk) - kept_count disk

abbrev pub repair_line : List ℕ → List ℕ
repair_line disk = codes "kept " ++ decimal (kept_count disk) ++ codes " dropped " ++ decimal (dropped_count disk) ++ codes "\n"

-- ---- the actions

-- a disk without files
unfoldable pub mkfs_verdict : ℕ → Verdict
mkfs_verdict blocks = Does (Outputs [] (Some (image_with blocks [])) None)

-- the files of a disk
unfoldable pub ls_verdict : List ℕ → Verdict
ls_verdict disk = with_disk disk (λ d. Does (Outputs (file_lines d) None None))

-- the bytes of the file of a name
unfoldable pub file_on : Text → List ℕ → Option (List ℕ)
file_on name d = found name (placed_files d)

-- a file, if there is one of this name
unfoldable pub get_verdict : Text → List ℕ → Verdict
get_verdict name disk = with_disk disk (λ d. if_some refusal.NoSuchFile (file_on name d) (λ bytes. Does (Outputs [] None (Some bytes))))

-- the disk with a file set to these bytes, if there is room for it
unfoldable pub disk_with : Text → List ℕ → List ℕ → Option (List ℕ)
disk_with name bytes d =
    let files = with_set (record { name = padded_name name; bytes = bytes }) (placed_files d) in
    if have_room (geometry_2 (length d / 512)) files then Some (image_with (length d / 512) files) else None

unfoldable pub set_verdict : Text → List ℕ → List ℕ → Verdict
set_verdict name source d = if_some refusal.DoesNotFit (disk_with name source d) (λ made. Does (Outputs [] (Some made) None))

unfoldable pub put_verdict : Text → List ℕ → List ℕ → Verdict
put_verdict name source disk = with_disk disk (set_verdict name source)

-- what is on a disk as it is, in its own version
unfoldable pub check_verdict : List ℕ → Verdict
check_verdict disk = with_disk disk (λ d. Does (Outputs (report_line (report disk)) None None))

-- The disk of the files that can be kept. Only one that isn't whole blocks, or not as many as its version allows, is refused.
unfoldable pub repair_verdict : List ℕ → Verdict
repair_verdict disk =
    unless_fault (option_map rule_broken (size_fault disk)) (Some disk) (λ d. Does (Outputs (repair_line d) (Some (repaired d)) None))

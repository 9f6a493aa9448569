-- The verdicts on the actions on a disk, by what was found of their files.
use Rattle.std.proofs.Common.{◌≡◌, ◌∙◌, ◌+◌, ◌-◌, ◌/◌, ◌++◌, ℕ, Bool, true, false, List, [], length, count_by, codes, Option, Some, None, refl, sym, ap, ap₂, subst, cond, arith}
use Rattle.std.specs.Prelude.{option_map, Ok, MatchOption}
use Rattle.std.specs.Fmt.{decimal}
use Rattle.command_line.specs.Reading.{Text}
use Rattle.lfs_check.specs.Fields.{directory_entries, fields_of, geometry_of}
use Rattle.lfs_check.specs.Kept.{kept_entries}
use Rattle.lfs_check.specs.Faults.{fault, named, report}
use Rattle.lfs_check.specs.Rules.{entry_is_used, rule_0}
use Rattle.lfs_check.specs.declared.faults.DiskFault.{DiskFault}
use Rattle.lfs_layout.specs.Files.{File, found, have_room, padded_name, placed_files, with_set}
use Rattle.lfs_layout.specs.Images.{Puts, opened, repaired}
use Rattle.lfs_layout.specs.Made.{geometry_2, image_with}
use Rattle.run_inputs.specs.InputDisks.{disk_fault, rule_broken}
use Rattle.xinu_commands.specs.DiskVerdict.{check_verdict, disk_with, dropped_count, file_lines, file_on, get_verdict, kept_count, ls_verdict, mkfs_verdict, put_verdict, repair_line, repair_verdict, report_line, set_verdict, size_fault, with_disk}
use Rattle.xinu_commands.specs.Work.{Verdict, Refuses, Does, Outputs, if_some, unless_fault}
use Rattle.run_inputs.specs.declared.refusals.Refusal.{Refusal}
use Rattle.run_inputs.specs.declared.refusals.Refusal.TheVariants as refusal

-- ---- the stages

clean : (disk : List ℕ) (next : List ℕ → Verdict) → disk_fault disk ≡ None → with_disk disk next ≡ next (opened disk)
clean disk next none = ap (λ (f : Option DiskFault). unless_fault (option_map rule_broken f) (Some (opened disk)) next) none

broken : (disk : List ℕ) (next : List ℕ → Verdict) (f : DiskFault) → disk_fault disk ≡ Some f → with_disk disk next ≡ Refuses (rule_broken f)
broken disk next f is = ap (λ (f : Option DiskFault). unless_fault (option_map rule_broken f) (Some (opened disk)) next) is

there : {T : Type 0} (cause : Refusal) (o : Option T) (next : T → Verdict) (x : T) → o ≡ Some x → if_some cause o next ≡ next x
there cause o next x is = ap (λ o. if_some cause o next) is

missing : {T : Type 0} (cause : Refusal) (o : Option T) (next : T → Verdict) → o ≡ None → if_some cause o next ≡ Refuses cause
missing cause o next is = ap (λ o. if_some cause o next) is

-- ---- a disk without files

pub mkfs_does : (blocks : ℕ) → mkfs_verdict blocks ≡ Does (Outputs [] (Some (image_with blocks [])) None)
unfolding mkfs_verdict
mkfs_does blocks = refl

-- ---- a list

pub ls_does : (disk : List ℕ) → disk_fault disk ≡ None → ls_verdict disk ≡ Does (Outputs (file_lines (opened disk)) None None)
unfolding ls_verdict
ls_does disk none = clean disk (λ d. Does (Outputs (file_lines d) None None)) none

pub ls_broken : (disk : List ℕ) (f : DiskFault) → disk_fault disk ≡ Some f → ls_verdict disk ≡ Refuses (rule_broken f)
unfolding ls_verdict
ls_broken disk f is = broken disk (λ d. Does (Outputs (file_lines d) None None)) f is

-- ---- a file

abbrev get_next : Text → List ℕ → Verdict
get_next name d = if_some refusal.NoSuchFile (file_on name d) (λ bytes. Does (Outputs [] None (Some bytes)))

pub get_does : (name disk bytes : List ℕ) → disk_fault disk ≡ None → file_on name (opened disk) ≡ Some bytes
    → get_verdict name disk ≡ Does (Outputs [] None (Some bytes))
unfolding get_verdict
get_does name disk bytes none is = clean disk (get_next name) none
    ∙ there refusal.NoSuchFile (file_on name (opened disk)) (λ bytes. Does (Outputs [] None (Some bytes))) bytes is

pub get_missing : (name disk : List ℕ) → disk_fault disk ≡ None → file_on name (opened disk) ≡ None
    → get_verdict name disk ≡ Refuses refusal.NoSuchFile
unfolding get_verdict
get_missing name disk none is = clean disk (get_next name) none
    ∙ missing refusal.NoSuchFile (file_on name (opened disk)) (λ bytes. Does (Outputs [] None (Some bytes))) is

pub get_broken : (name disk : List ℕ) (f : DiskFault) → disk_fault disk ≡ Some f → get_verdict name disk ≡ Refuses (rule_broken f)
unfolding get_verdict
get_broken name disk f is = broken disk (get_next name) f is

-- ---- a file that is set

pub put_sets : (name source disk : List ℕ) → disk_fault disk ≡ None → put_verdict name source disk ≡ set_verdict name source (opened disk)
unfolding put_verdict
put_sets name source disk none = clean disk (set_verdict name source) none

pub put_broken : (name source disk : List ℕ) (f : DiskFault) → disk_fault disk ≡ Some f → put_verdict name source disk ≡ Refuses (rule_broken f)
unfolding put_verdict
put_broken name source disk f is = broken disk (set_verdict name source) f is

-- the files of a disk with one set
abbrev pub files_with : List ℕ → List ℕ → List ℕ → List File
files_with name source d = with_set (record { name = padded_name name; bytes = source }) (placed_files d)

fits : (name source d : List ℕ) → have_room (geometry_2 (length d / 512)) (files_with name source d) ≡ true
    → disk_with name source d ≡ Some (image_with (length d / 512) (files_with name source d))
unfolding disk_with
fits name source d room = ap (λ b. cond b (Some (image_with (length d / 512) (files_with name source d))) None) room

fits_not : (name source d : List ℕ) → have_room (geometry_2 (length d / 512)) (files_with name source d) ≡ false → disk_with name source d ≡ None
unfolding disk_with
fits_not name source d full = ap (λ b. cond b (Some (image_with (length d / 512) (files_with name source d))) None) full

pub set_done : (name source d made : List ℕ) → disk_with name source d ≡ Some made → set_verdict name source d ≡ Does (Outputs [] (Some made) None)
unfolding set_verdict
set_done name source d made is = there refusal.DoesNotFit (disk_with name source d) (λ made. Does (Outputs [] (Some made) None)) made is

pub set_full : (name source d : List ℕ) → disk_with name source d ≡ None → set_verdict name source d ≡ Refuses refusal.DoesNotFit
unfolding set_verdict
set_full name source d is = missing refusal.DoesNotFit (disk_with name source d) (λ made. Does (Outputs [] (Some made) None)) is

pub set_does : (name source d : List ℕ) → have_room (geometry_2 (length d / 512)) (files_with name source d) ≡ true
    → set_verdict name source d ≡ Does (Outputs [] (Some (image_with (length d / 512) (files_with name source d))) None)
set_does name source d room = set_done name source d (image_with (length d / 512) (files_with name source d)) (fits name source d room)

pub set_refused : (name source d : List ℕ) → have_room (geometry_2 (length d / 512)) (files_with name source d) ≡ false
    → set_verdict name source d ≡ Refuses refusal.DoesNotFit
set_refused name source d full = set_full name source d (fits_not name source d full)

-- by what the layer below answers of a file that is set
pub set_made : (name source old new : List ℕ) (b : Bool) → Puts old new (record { name = padded_name name; bytes = source }) (Ok b) → b ≡ true
    → set_verdict name source old ≡ Does (Outputs [] (Some new) None)
set_made name source old new b puts is =
    let P : Bool → Type 0 = λ b. Puts old new (record { name = padded_name name; bytes = source }) (Ok b) in
    let made = subst P is puts in
    set_does name source old made.0 ∙ ap (λ im. Does (Outputs [] (Some im) None)) (sym made.3)

pub set_unmade : (name source old new : List ℕ) (b : Bool) → Puts old new (record { name = padded_name name; bytes = source }) (Ok b) → b ≡ false
    → set_verdict name source old ≡ Refuses refusal.DoesNotFit
set_unmade name source old new b puts is =
    let P : Bool → Type 0 = λ b. Puts old new (record { name = padded_name name; bytes = source }) (Ok b) in
    set_refused name source old (subst P is puts).0

-- ---- a report

pub check_does : (disk : List ℕ) → disk_fault disk ≡ None → check_verdict disk ≡ Does (Outputs (report_line (report disk)) None None)
unfolding check_verdict
check_does disk none = clean disk (λ d. Does (Outputs (report_line (report disk)) None None)) none

pub check_broken : (disk : List ℕ) (f : DiskFault) → disk_fault disk ≡ Some f → check_verdict disk ≡ Refuses (rule_broken f)
unfolding check_verdict
check_broken disk f is = broken disk (λ d. Does (Outputs (report_line (report disk)) None None)) f is

-- ---- a repair

pub repair_does : (disk : List ℕ) → size_fault disk ≡ None → repair_verdict disk ≡ Does (Outputs (repair_line disk) (Some (repaired disk)) None)
unfolding repair_verdict
repair_does disk none = ap (λ (f : Option DiskFault). unless_fault (option_map rule_broken f) (Some disk) (λ d. Does (Outputs (repair_line d) (Some (repaired d)) None))) none

pub repair_broken : (disk : List ℕ) (f : DiskFault) → size_fault disk ≡ Some f → repair_verdict disk ≡ Refuses (rule_broken f)
unfolding repair_verdict
repair_broken disk f is = ap (λ (f : Option DiskFault). unless_fault (option_map rule_broken f) (Some disk) (λ d. Does (Outputs (repair_line d) (Some (repaired d)) None))) is

-- the line of a repaired disk, by what the layer below counts
pub repair_counts : (disk : List ℕ) (kept_n dropped_n : ℕ) → kept_n ≡ length (kept_entries (geometry_of disk) (fields_of (geometry_of disk) disk).indexes (directory_entries (geometry_of disk) disk))
    → kept_n + dropped_n ≡ count_by entry_is_used (directory_entries (geometry_of disk) disk)
    → codes "kept " ++ decimal kept_n ++ codes " dropped " ++ decimal dropped_n ++ codes "\n" ≡ repair_line disk
unfolding kept_count dropped_count
repair_counts disk kept_n dropped_n kept_is sum_is =
    let used = count_by entry_is_used (directory_entries (geometry_of disk) disk) in
    let dropped : dropped_n ≡ used - kept_n = omega arith in
    ap₂ (λ a b. codes "kept " ++ decimal a ++ codes " dropped " ++ decimal b ++ codes "\n") kept_is (dropped ∙ ap (λ n. used - n) kept_is)

-- ---- the faults as the layers below name them

pub faultless : (disk : List ℕ) → fault disk ≡ None → disk_fault disk ≡ None
unfolding disk_fault
faultless disk is = is

pub faulty : (disk : List ℕ) (f : DiskFault) → fault disk ≡ Some f → disk_fault disk ≡ Some f
unfolding disk_fault
faulty disk f is = is

-- by what the layer below answers of a file that is read
module _ {V : Type 0} (items : V → List ℕ) (o : Option V) (name d : List ℕ)
    (found_is : MatchOption o (found name (placed_files d) ≡ None) (λ v. found name (placed_files d) ≡ Some (items v))) where
  pub file_found : (v : V) → o ≡ Some v → file_on name d ≡ Some (items v)
  unfolding file_on
  file_found v is =
      let P : Option V → Type 0 = λ x. MatchOption x (found name (placed_files d) ≡ None) (λ v. found name (placed_files d) ≡ Some (items v)) in
      subst P is found_is

  pub file_missing : o ≡ None → file_on name d ≡ None
  unfolding file_on
  file_missing is =
      let P : Option V → Type 0 = λ x. MatchOption x (found name (placed_files d) ≡ None) (λ v. found name (placed_files d) ≡ Some (items v)) in
      subst P is found_is

pub sized : (disk : List ℕ) → rule_0 (geometry_of disk) disk ≡ None → size_fault disk ≡ None
unfolding size_fault
sized disk is = ap (named 0) is

pub unsized : (disk : List ℕ) (f : DiskFault) → named 0 (rule_0 (geometry_of disk) disk) ≡ Some f → size_fault disk ≡ Some f
unfolding size_fault
unsized disk f is = is

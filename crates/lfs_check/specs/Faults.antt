-- What the checker answers: the lowest rule that is broken with its lowest block, or the report of a clean image.
use Rattle.std.specs.Prelude.{ℕ, ◌≡◌, Result, Ok, Err, List, length, Option, Some, None}
use Rattle.lfs_format.specs.declared.Entry.{Entry}
use Rattle.lfs_check.specs.declared.geometry.Geometry.{Geometry}
use Rattle.lfs_check.specs.declared.fields.Header.{Header}
use Rattle.lfs_check.specs.declared.faults.DiskFault.{DiskFault}
use Rattle.lfs_check.specs.declared.faults.CheckFault.{CheckFault}
use Rattle.lfs_check.specs.declared.faults.CheckFault.TheVariants.{Broken, NoMemory}
use Rattle.lfs_check.specs.declared.faults.Report.{Report}
use Rattle.lfs_check.specs.Rules.{rule_0, rule_1, rule_2, rule_3}
use Rattle.lfs_check.specs.Laid.{Shape}
use Rattle.lfs_check.specs.Checks.{rule_4, rule_5, rule_6, rule_7, free_data_of, free_index_of}
use Rattle.lfs_check.specs.Fields.{geometry_of, fields_of}

-- a block with the rule that is broken there
abbrev pub named : ℕ → Option ℕ → Option DiskFault
named rule None = None
named rule (Some block) = Some (record { block = block; rule = rule })

-- a fault, or else another
abbrev pub either_fault : Option DiskFault → Option DiskFault → Option DiskFault
either_fault None b = b
either_fault (Some a) b = Some a

-- rules 1 to 3
abbrev pub dir_fault : Geometry → Header → List Entry → List ℕ → Option DiskFault
dir_fault g header entries image =
    either_fault (named 1 (rule_1 g entries)) (either_fault (named 2 (rule_2 g header entries image)) (named 3 (rule_3 g entries)))

-- rules 4 to 7
abbrev pub walks_fault : Geometry → Shape → Option DiskFault
walks_fault g d = either_fault (named 4 (rule_4 g d)) (either_fault (named 5 (rule_5 g d)) (either_fault (named 6 (rule_6 g d)) (named 7 (rule_7 g d))))

-- rules 1 to 7 of a disk by its fields
abbrev pub shape_fault : Geometry → Shape → List ℕ → Option DiskFault
shape_fault g d image = either_fault (dir_fault g d.header d.entries image) (walks_fault g d)

-- the fault of an image: the lowest rule that it breaks, and for it the lowest block
abbrev pub fault : List ℕ → Option DiskFault
fault image = either_fault (named 0 (rule_0 (geometry_of image) image)) (shape_fault (geometry_of image) (fields_of (geometry_of image) image) image)

-- the number of files, and of free blocks of both kinds
abbrev pub counted_report : Geometry → Shape → Report
counted_report g d = record { files = d.header.files; free_data = length (free_data_of g d); free_index = length (free_index_of g d) }

-- what is on an image
abbrev pub report : List ℕ → Report
report image = counted_report (geometry_of image) (fields_of (geometry_of image) image)

-- a refusal names the fault; out of memory says nothing of the image
abbrev pub Refuses : Option DiskFault → CheckFault → Type 0
Refuses f (Broken x) = f ≡ Some x
Refuses f NoMemory = Unit {0}

-- an answer is the report if there is no fault, and else a refusal
abbrev pub IsCheckResult : Option DiskFault → Report → Result Report CheckFault → Type 0
IsCheckResult f r (Ok x) = (f ≡ None) × (x ≡ r)
IsCheckResult f r (Err e) = Refuses f e

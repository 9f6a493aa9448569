-- The disks of a run: the rules that they can break, and what they are if no file is named for them.
use Rattle.std.specs.Prelude.{◌≡◌, ℕ, List, [], Option, Some, None, replicate, if◌then◌else◌}
use Rattle.lfs_check.specs.Faults.{fault}
use Rattle.lfs_check.specs.declared.faults.DiskFault.{DiskFault}
use Rattle.lfs_layout.specs.Images.{is_raw}
use Rattle.lfs_layout.specs.Made.{image_with}
use Rattle.run_inputs.specs.declared.refusals.Refusal.{Refusal}
use Rattle.run_inputs.specs.declared.refusals.Refusal.TheVariants as refusal

-- the disks of a run that names none: a raw one of 64 empty blocks, and one of 256 blocks without files
unfoldable pub empty_disk0 : List ℕ
empty_disk0 = replicate 32768 0

unfoldable pub empty_disk1 : List ℕ
empty_disk1 = image_with 256 []

-- the rule that a raw disk breaks: rule 0 at block 0, unless it is 8 to 65,536 whole blocks
unfoldable pub raw_fault : List ℕ → Option DiskFault
raw_fault disk = if is_raw disk then None else Some (record { block = 0; rule = 0 })

-- the lowest rule that a disk with files breaks, with its lowest block
unfoldable pub disk_fault : List ℕ → Option DiskFault
disk_fault disk = fault disk

-- the refusal of the raw disk at the rule that it breaks
abbrev pub raw_broken : DiskFault → Refusal
raw_broken f = refusal.Disk 0 f.block f.rule

-- and that of the disk with files
abbrev pub rule_broken : DiskFault → Refusal
rule_broken f = refusal.Disk 1 f.block f.rule

-- Why a disk with this number isn't accepted: it breaks a rule, or memory ran out.
abbrev pub IsDiskCause : ℕ → Option DiskFault → Refusal → Type 0
IsDiskCause disk fault (refusal.Disk d b r) = (d ≡ disk) × (fault ≡ Some (record { block = b; rule = r }))
IsDiskCause disk fault refusal.NoMemory = Unit {0}
IsDiskCause disk fault _ = ⊥

-- What `soak` deserves, by its disks and by how the machine starts.
use Rattle.std.proofs.Common.{◌≡◌, ◌≢◌, ◌∙◌, ℕ, List, Some, None, refl, sym, ap, ap₂}
use Rattle.std.specs.Prelude.{option_map}
use Rattle.given_disks.specs.Disks.{disks_of}
use Rattle.lfs_check.specs.declared.faults.DiskFault.{DiskFault}
use Rattle.lfs_layout.specs.Images.{opened}
use Rattle.workload.specs.Programs.{programs}
use Rattle.xinu_model.specs.Boot.{Start, Boots, Overlaps, NoRoom, boot_on}
use Rattle.run_inputs.specs.InputDisks.{disk_fault, empty_disk0, empty_disk1, raw_broken, raw_fault, rule_broken}
use Rattle.xinu_commands.specs.DiskVerdict.{with_disk}
use Rattle.xinu_commands.specs.SoakVerdict.{soak_on, soak_verdict, soaking_verdict}
use Rattle.xinu_commands.specs.Work.{Refuses, Verdict}
use Rattle.run_inputs.specs.declared.refusals.Refusal.TheVariants as refusal
use Rattle.xinu_commands.proofs.Files.{unless_fault_keeps, unless_fault_read, unless_fault_refused}
use Rattle.xinu_commands.proofs.Staged.{disk_keeps}
use Rattle.run_inputs.proofs.JudgedFiles.{raw_keeps}

-- what is left after the raw disk
abbrev after_raw : ℕ → List ℕ → Verdict
after_raw seed disk0 = with_disk empty_disk1 (soak_on seed disk0)

-- a raw disk that isn't accepted
pub raw_refuses : (seed : ℕ) (f : DiskFault) → raw_fault empty_disk0 ≡ Some f → soak_verdict seed ≡ Refuses (raw_broken f)
unfolding soak_verdict
raw_refuses seed f is =
    unless_fault_refused (option_map raw_broken (raw_fault empty_disk0)) (Some empty_disk0) (after_raw seed) (raw_broken f) (ap (option_map raw_broken) is)

-- and one that is
raw_accepted : (seed : ℕ) → raw_fault empty_disk0 ≡ None → soak_verdict seed ≡ after_raw seed empty_disk0
unfolding soak_verdict
raw_accepted seed none =
    unless_fault_read (option_map raw_broken (raw_fault empty_disk0)) (Some empty_disk0) (after_raw seed) empty_disk0 (ap (option_map raw_broken) none) refl

-- a disk with files that isn't accepted
pub clean_refuses : (seed : ℕ) (f : DiskFault) → raw_fault empty_disk0 ≡ None → disk_fault empty_disk1 ≡ Some f → soak_verdict seed ≡ Refuses (rule_broken f)
clean_refuses seed f none is =
    raw_accepted seed none
    ∙ unless_fault_refused (option_map rule_broken (disk_fault empty_disk1)) (Some (opened empty_disk1)) (soak_on seed empty_disk0) (rule_broken f) (ap (option_map rule_broken) is)

boots_as : (seed : ℕ) (disk0 disk1 : List ℕ) (s : Start) → boot_on (disks_of disk0 disk1) (programs seed) ≡ s → soak_on seed disk0 disk1 ≡ soaking_verdict seed s
unfolding soak_on
boots_as seed disk0 disk1 s boots = ap (soaking_verdict seed) boots

-- how the machine starts on disks that are accepted
pub starts_as : (seed : ℕ) (disk0 disk1 : List ℕ) (s : Start) → raw_fault empty_disk0 ≡ None → disk_fault empty_disk1 ≡ None → disk0 ≡ empty_disk0
    → disk1 ≡ opened empty_disk1 → boot_on (disks_of disk0 disk1) (programs seed) ≡ s → soak_verdict seed ≡ soaking_verdict seed s
starts_as seed disk0 disk1 s raw clean is_raw is_clean boots =
    raw_accepted seed raw
    ∙ unless_fault_read (option_map rule_broken (disk_fault empty_disk1)) (Some (opened empty_disk1)) (soak_on seed empty_disk0) (opened empty_disk1) (ap (option_map rule_broken) clean) refl
    ∙ ap₂ (soak_on seed) (sym is_raw) (sym is_clean) ∙ boots_as seed disk0 disk1 s boots

-- ---- it isn't that there is no command

starts_keep : (seed : ℕ) (s : Start) → soaking_verdict seed s ≢ Refuses refusal.Usage
starts_keep seed (Boots start) is = cc
starts_keep seed (Overlaps i) is = cc
starts_keep seed (NoRoom i) is = cc

on_disks_keep : (seed : ℕ) (disk0 disk1 : List ℕ) → soak_on seed disk0 disk1 ≢ Refuses refusal.Usage
unfolding soak_on
on_disks_keep seed disk0 disk1 is = starts_keep seed (boot_on (disks_of disk0 disk1) (programs seed)) is

pub soak_keeps : (seed : ℕ) → soak_verdict seed ≢ Refuses refusal.Usage
unfolding soak_verdict
soak_keeps seed is =
    unless_fault_keeps (option_map raw_broken (raw_fault empty_disk0)) (Some empty_disk0) (after_raw seed) (raw_keeps (raw_fault empty_disk0))
    (λ disk0. disk_keeps empty_disk1 (soak_on seed disk0) (on_disks_keep seed disk0)) is

-- What `soak` deserves: the programs that its number gives are booted on the disks of a run that names none.
use Rattle.std.specs.Prelude.{ℕ, List, Some, option_map}
use Rattle.given_disks.specs.Disks.{disks_of}
use Rattle.workload.specs.Programs.{programs}
use Rattle.xinu_model.specs.Boot.{Start, Boots, Overlaps, NoRoom, boot_on}
use Rattle.xinu_commands.specs.DiskVerdict.{with_disk}
use Rattle.run_inputs.specs.InputDisks.{empty_disk0, empty_disk1, raw_broken, raw_fault}
use Rattle.xinu_commands.specs.Work.{Verdict, Refuses, Does, Soaking, unless_fault}
use Rattle.run_inputs.specs.declared.refusals.Refusal.TheVariants as refusal

-- A raw disk that isn't 8 to 65,536 whole blocks is refused. Any other goes on as it is.
abbrev pub with_raw : List ℕ → (List ℕ → Verdict) → Verdict
with_raw disk next = unless_fault (option_map raw_broken (raw_fault disk)) (Some disk) next

-- the machine starts, or it doesn't
abbrev pub soaking_verdict : ℕ → Start → Verdict
soaking_verdict seed (Boots start) = Does (Soaking seed start)
soaking_verdict seed (Overlaps i) = Refuses (refusal.Overlap i)
soaking_verdict seed (NoRoom i) = Refuses (refusal.NoRoom i)

-- the programs are booted on these disks
unfoldable pub soak_on : ℕ → List ℕ → List ℕ → Verdict
soak_on seed disk0 disk1 = soaking_verdict seed (boot_on (disks_of disk0 disk1) (programs seed))

-- The disks are checked as those of a run are.
unfoldable pub soak_verdict : ℕ → Verdict
soak_verdict seed = with_raw empty_disk0 (λ disk0. with_disk empty_disk1 (soak_on seed disk0))

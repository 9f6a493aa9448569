-- The refusals that the faults of the layers below give.
use Rattle.command_line.specs.declared.refusal.ArgsFault.{ArgsFault}
use Rattle.command_line.specs.declared.refusal.ArgsFault.TheVariants as words
use Rattle.host_port.specs.declared.host.HostFault.{HostFault}
use Rattle.host_port.specs.declared.host.HostFault.TheVariants as host
use Rattle.kernel_boot.specs.declared.initialize.BootFault.{BootFault}
use Rattle.kernel_boot.specs.declared.initialize.BootFault.TheVariants as boot
use Rattle.lfs_check.specs.declared.faults.CheckFault.{CheckFault}
use Rattle.lfs_check.specs.declared.faults.CheckFault.TheVariants as check
use Rattle.schedule_file.specs.declared.faults.ScheduleFault.{ScheduleFault}
use Rattle.schedule_file.specs.declared.faults.ScheduleFault.TheVariants as schedule
use Rattle.run_inputs.specs.InputDisks.{rule_broken}
use Rattle.run_inputs.specs.declared.refusals.Refusal.{Refusal}
use Rattle.run_inputs.specs.declared.refusals.Refusal.TheVariants as refusal

-- the refusal that arguments without a command give
abbrev pub args_refusal : ArgsFault → Refusal
args_refusal words.NoCommand = refusal.Usage
args_refusal words.NoMemory = refusal.NoMemory

-- the refusal that a failure of the host gives
abbrev pub host_refusal : HostFault → Refusal
host_refusal host.Failed = refusal.HostFault
host_refusal host.NoMemory = refusal.NoMemory

-- the refusal that a text which is no schedule gives
abbrev pub schedule_refusal : ScheduleFault → Refusal
schedule_refusal (schedule.BadLine line) = refusal.Schedule line
schedule_refusal (schedule.TooMany line) = refusal.Schedule line
schedule_refusal schedule.NoMemory = refusal.NoMemory

-- the refusal that a machine which doesn't start gives
abbrev pub boot_refusal : BootFault → Refusal
boot_refusal (boot.Overlap image) = refusal.Overlap image
boot_refusal (boot.NoRoom image) = refusal.NoRoom image
boot_refusal boot.NoMemory = refusal.NoMemory

-- the refusal that a disk which isn't accepted gives
abbrev pub check_refusal : CheckFault → Refusal
check_refusal (check.Broken f) = rule_broken f
check_refusal check.NoMemory = refusal.NoMemory

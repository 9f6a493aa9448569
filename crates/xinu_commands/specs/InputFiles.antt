-- The inputs among the files of a command.
use Rattle.command_line.specs.CheckArgs.{CheckFiles}
use Rattle.command_line.specs.RunArgs.{RunFiles}
use Rattle.run_inputs.specs.InputFiles.{InputFiles}

-- those of a run
abbrev pub run_inputs : RunFiles → InputFiles
run_inputs r = record { schedule = r.schedule; disk0 = r.disks.disk0; disk1 = r.disks.disk1; images = r.images }

-- those of a check of a trace
abbrev pub check_inputs : CheckFiles → InputFiles
check_inputs c = record { schedule = c.schedule; disk0 = c.disks.disk0; disk1 = c.disks.disk1; images = c.images }

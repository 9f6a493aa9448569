-- The values of the code as those of the definitions: the rows of the tables, and a command as the names that it holds.
use Rattle.std.specs.Prelude.{map, option_map}
use Rattle.command_line.specs.Reading.{CommandRow as NamedCommand, OptionRow as NamedOption}
use Rattle.command_line.specs.RunArgs.{DiskFiles as DiskNames, RunFiles as RunNames}
use Rattle.command_line.specs.AsmArgs.{AsmFiles as AsmNames}
use Rattle.command_line.specs.CheckArgs.{CheckFiles as CheckNames}
use Rattle.command_line.specs.DiskArgs.{DiskAction as ActionNames, Mkfs, Ls, Get, Put, Check as CheckDisk, Repair}
use Rattle.command_line.specs.Commands.{Command as CommandNames, Run, Asm, Soak, Check, Disk}
use Rattle.command_line.specs.declared.tables.OptionRow.{OptionRow}
use Rattle.command_line.specs.declared.tables.CommandRow.{CommandRow}
use Rattle.command_line.specs.declared.run_args.DiskFiles.{DiskFiles}
use Rattle.command_line.specs.declared.run_args.RunFiles.{RunFiles}
use Rattle.command_line.specs.declared.asm_args.AsmFiles.{AsmFiles}
use Rattle.command_line.specs.declared.check_args.CheckFiles.{CheckFiles}
use Rattle.command_line.specs.declared.disk_args.DiskAction.{DiskAction}
use Rattle.command_line.specs.declared.disk_args.DiskAction.TheVariants as action
use Rattle.command_line.specs.declared.command.Command.{Command}
use Rattle.command_line.specs.declared.command.Command.TheVariants as command

-- an option of a table
abbrev pub option_row : OptionRow → NamedOption
option_row o = record { name = o.name.now; takes_value = o.takes_value }

-- a command or an action of a table
abbrev pub command_row : CommandRow → NamedCommand
command_row c = record { name = c.name.now; options = map option_row c.options.now }

abbrev pub disk_names : DiskFiles → DiskNames
disk_names d = record {
  disk0 = option_map (λ s. s.now) d.disk0;
  disk1 = option_map (λ s. s.now) d.disk1;
  out0 = option_map (λ s. s.now) d.out0;
  out1 = option_map (λ s. s.now) d.out1;
}

abbrev pub run_names : RunFiles → RunNames
run_names r = record { schedule = r.schedule.now; disks = disk_names r.disks; images = map (λ s. s.now) r.images.items; plain = r.plain }

abbrev pub asm_names : AsmFiles → AsmNames
asm_names a = record { source = a.source.now; out = a.out.now; elf = a.elf }

abbrev pub check_names : CheckFiles → CheckNames
check_names c = record {
  schedule = c.schedule.now;
  trace = c.trace.now;
  disks = disk_names c.disks;
  images = map (λ s. s.now) c.images.items;
}

abbrev pub action_names : DiskAction → ActionNames
action_names (action.Mkfs blocks out) = Mkfs blocks out.now
action_names (action.Ls image) = Ls image.now
action_names (action.Get image name out) = Get image.now name.now out.now
action_names (action.Put image name source out) = Put image.now name.now source.now out.now
action_names (action.Check image) = CheckDisk image.now
action_names (action.Repair image out) = Repair image.now out.now

abbrev pub command_names : Command → CommandNames
command_names (command.Run r) = Run (run_names r)
command_names (command.Asm a) = Asm (asm_names a)
command_names (command.Soak seed) = Soak seed
command_names (command.Check c) = Check (check_names c)
command_names (command.Disk a) = Disk (action_names a)

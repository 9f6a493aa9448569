-- The code's setup of a run, as the verdict has it.
use Rattle.std.specs.Prelude.{is_some}
use Rattle.command_line.specs.Names.{disk_names}
use Rattle.given_disks.specs.Disks.{disks_of}
use Rattle.xinu_commands.specs.RunVerdict.{Setup}
use Rattle.xinu_commands.specs.declared.runs.Setup.{Setup as SetupValue}

-- its disks, and what is asked of the run
abbrev pub setup_of : SetupValue → Setup
setup_of s = record {
  disks = disks_of s.disk0 s.disk1;
  wanted = record { plain = s.plain; out0 = is_some (disk_names s.disks).out0; out1 = is_some (disk_names s.disks).out1 };
}

-- The file devices so far were printed.
use Rattle.std.proofs.Common.{take}
use Rattle.host_port.specs.Printing.{Prints}
use Rattle.xinu_model.specs.Files.Constants.{LFILE0}
use Rattle.xinu_model.specs.Text.{open_file_lines, shown}
use Rattle.machine.proofs.tables.print_open_files.Given as goal

abbrev pub invariant-loop-d : goal.invariant-loop-d
invariant-loop-d g l =
    Prints l.initial.out l.out (g.H.Host.view l.initial.host) (g.H.Host.view l.host)
    (shown l.initial.out.plain (open_file_lines LFILE0 (take l.d l.server.work.system.devices) l.server.work.system))

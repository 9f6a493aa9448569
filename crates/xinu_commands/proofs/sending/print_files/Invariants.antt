-- The lines of the first k files were printed, as far as the host took them.
use Rattle.host_port.specs.Printing.{Prints}
use Rattle.xinu_commands.proofs.Carried.{fresh}
use Rattle.xinu_commands.proofs.FileLines.{lines_to}
use Rattle.xinu_commands.proofs.sending.print_files.Given as goal

abbrev pub invariant-loop-k : goal.invariant-loop-k
invariant-loop-k g l = Prints fresh l.out (g.H.Host.view l.initial.host) (g.H.Host.view l.host) (lines_to l.k l.image)

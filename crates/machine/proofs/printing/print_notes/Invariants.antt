-- The notes so far were printed.
use Rattle.std.proofs.Common.{map, take}
use Rattle.file_server.specs.Requests.{note_of}
use Rattle.host_port.specs.Printing.{Prints}
use Rattle.xinu_model.specs.Files.Syscalls.{file_line}
use Rattle.xinu_model.specs.Text.{shown}
use Rattle.machine.proofs.printing.print_notes.Given as goal

abbrev pub invariant-loop-note : goal.invariant-loop-note
invariant-loop-note g l =
    Prints l.initial.out l.out (g.H.Host.view l.initial.host) (g.H.Host.view l.host)
    (shown l.initial.out.plain (map (λ n. file_line (note_of n)) (take l.note-index l.notes)))

-- What is left to be taken gives the whole line.
use Rattle.std.proofs.Common.{◌-◌}
use Rattle.arrayvec.specs.ArrayVec.{array_vec_len}
use Rattle.uses_console.proofs.Reading.{IsReading}
use Rattle.uses_console.proofs.lines.take_line.Given as goal

abbrev pub invariant-loop-tty : goal.invariant-loop-tty
invariant-loop-tty l = IsReading l.fn.tty l.tty l.line.items (array_vec_len l.line) l.committed

abbrev pub decreases-loop-tty : goal.decreases-loop-tty
decreases-loop-tty l = l.committed - array_vec_len l.line

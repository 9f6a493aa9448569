-- Nothing was read.
use Rattle.gdb_command.proofs.Moved.{on-err}
use Rattle.gdb_command.proofs.Reading.{at}
use Rattle.gdb_command.proofs.Refused.{none-refused}
use Rattle.gdb_command.specs.Refusing.{error_packet}
use Rattle.gdb_command.proofs.refusing.refuse_packets.Goals as goal

pub returns-in_err-error-clause-cut : goal.returns-in_err-error-clause-cut
returns-in_err-error-clause-cut g c =
    on-err c.from_residual.result
    (none-refused (error_packet c.args.text.now) (at (g.R.Read.remaining c.args.input.now) (g.W.Write.contents c.args.output.now)))

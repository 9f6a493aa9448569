-- What was answered, or a part of it.
use Rattle.gdb_command.proofs.Moved.{on-err}
use Rattle.gdb_command.proofs.Refused.{none-answered, part-answered}
use Rattle.gdb_command.specs.Refusing.{refused_unit}
use Rattle.gdb_packets.specs.SeenUnits.{seen}
use Rattle.gdb_packets.specs.Units.{first_unit}
use Rattle.gdb_command.proofs.refusing.answer_first.Goals as goal

pub returns-in_err-rest-clause-part : goal.returns-in_err-rest-clause-part
returns-in_err-rest-clause-part g c =
    on-err c.from_residual.result (none-answered (refused_unit c.args.error.now (first_unit c.args.input.now).0) (g.W.Write.contents c.args.output.now))

pub returns-in_err-ends-clause-part : goal.returns-in_err-ends-clause-part
returns-in_err-ends-clause-part g c =
    on-err c.from_residual-in_err-ends.result
    (none-answered (refused_unit c.args.error.now (first_unit c.args.input.now).0) (g.W.Write.contents c.args.output.now))

pub returns-in_err-sent-clause-part : goal.returns-in_err-sent-clause-part
returns-in_err-sent-clause-part g c =
    on-err c.from_residual-in_err-sent.result
    (none-answered (refused_unit c.args.error.now (first_unit c.args.input.now).0) (g.W.Write.contents c.args.output.now))

pub returns-in_err-write-clause-part : goal.returns-in_err-write-clause-part
returns-in_err-write-clause-part g c =
    on-err c.from_residual-in_err-write.result
    (part-answered c.args.error.now c.args.input.now c.first_unit.result.1.now c.in_ok-sent.sent.items c.as_slice.result.now (seen c.first_unit.result.0)
    (g.W.Write.contents c.args.output.now) (g.W.Write.contents c.write.new.output) c.first_unit.ensures.unit c.in_ok-sent.ensures.answer
    c.as_slice.ensures.value c.in_err-write.ensures.part)

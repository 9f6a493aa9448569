use Rattle.std.proofs.Common.{arith}
use Rattle.machine.proofs.Walks.{printed_port}
use Rattle.machine.proofs.tables.print_ports.Goals as goal

pub loop-number-preserved : goal.loop-number-preserved
loop-number-preserved g c =
    let many = c.requires.many in
    let within = c.loop-number-test.true in
    printed_port c.args.ports.now.ports c.loop-number.number c.at.result _ _ _ _ _ _ (omega (arith, many, within)) c.at.ensures.number c.loop-number.invariant c.print_port.ensures.prints

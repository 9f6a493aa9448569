use Rattle.std.proofs.Common.{arith}
use Rattle.machine.proofs.Walks.{printed_process}
use Rattle.machine.proofs.tables.print_processes.Goals as goal

pub loop-number-preserved : goal.loop-number-preserved
loop-number-preserved g c =
    let t = c.args.tables.now in
    let size = c.requires.inside.processes in
    let within = c.loop-number-test.true in
    printed_process t c.loop-number.number _ _ _ _ _ _ (omega (arith, size, within)) c.loop-number.invariant c.print_process.ensures.prints

use Rattle.std.proofs.Common.{arith}
use Rattle.machine.proofs.Walks.{printed_semaphore}
use Rattle.machine.proofs.tables.print_semaphores.Goals as goal

pub loop-number-preserved : goal.loop-number-preserved
loop-number-preserved g c =
    let t = c.args.tables.now in
    let size = c.requires.inside.semaphores in
    let within = c.loop-number-test.true in
    printed_semaphore t c.loop-number.number c.at.result _ _ _ _ _ _ (omega (arith, size, within)) c.at.ensures.number c.loop-number.invariant c.print_semaphore.ensures.prints

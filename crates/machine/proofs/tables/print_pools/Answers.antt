use Rattle.std.proofs.Common.{arith}
use Rattle.machine.proofs.Walks.{printed_pool}
use Rattle.machine.proofs.tables.print_pools.Goals as goal

pub loop-number-preserved : goal.loop-number-preserved
loop-number-preserved g c =
    let count = c.count-number-end.ensures.count in
    let within = c.loop-number-test.true in
    printed_pool c.args.pools.now c.loop-number.number c.at.result _ _ _ _ _ _ (omega (arith, count, within)) c.at.ensures.number c.loop-number.invariant c.print_pool.ensures.prints

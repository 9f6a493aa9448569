use Rattle.std.proofs.Common.{arith}
use Rattle.machine.proofs.OpenFiles.{printed_open_file}
use Rattle.machine.proofs.tables.print_open_files.Goals as goal

pub loop-d-preserved : goal.loop-d-preserved
loop-d-preserved g c =
    let six = c.requires.six in
    let within = c.loop-d-test.true in
    printed_open_file c.args.server.now.work.system c.loop-d.d _ _ _ _ _ _ (omega (arith, six, within)) c.loop-d.invariant c.print_open_file.ensures.prints

use Rattle.std.proofs.Common.{arith, ◌++◌, take}
use Rattle.std.proofs.KnownBytes.{Appends-trans}
use Rattle.std.proofs.lemmas.Grind.{common_steps}
use Rattle.gdb_command.proofs.Writes.{written_more, written_before}
use Rattle.gdb_command.proofs.serving.write.Goals as goal

pub loop-rest-preserved : goal.loop-rest-preserved
loop-rest-preserved g c =
    let before = c.loop-rest.invariant in
    (before.0 ++ take c.in-Ok.n c.loop-rest.rest.now, grind (arith, common_steps, before.1, c.in-Ok.ensures.bound), Appends-trans _ _ _ _ _ before.2 c.in-Ok.ensures.bytes)

pub returns-in-Ok-eq0-clause-part : goal.returns-in-Ok-eq0-clause-part
returns-in-Ok-eq0-clause-part g c =
    let before = c.loop-rest.invariant in written_more _ _ _ _ _ _ _ before.1 before.2 c.in-Ok-eq0.ensures.bytes

pub returns-in-Err-clause-part : goal.returns-in-Err-clause-part
returns-in-Err-clause-part g c =
    let before = c.loop-rest.invariant in written_before _ _ _ _ _ _ before.1 before.2 c.in-Err.ensures.bytes

use Rattle.std.proofs.Common.{arith, ap, ◌∙◌, Some}
use Rattle.lfs_format.specs.Directory.{void_entry}
use Rattle.lfs_check.specs.Geometries.{room}
use Rattle.lfs_check.specs.Rules.{is_larger, in_entry_block}
use Rattle.lfs_check.proofs.Failing.{first_failing_found, first_failing_passed}
use Rattle.lfs_check.proofs.rules.file_size_fault.Goals as goal

pub returns-then-is_larger : goal.returns-then-is_larger
returns-then-is_larger c =
    ap Some c.block_of_entry.ensures
    ∙ ap (in_entry_block c.args.geometry) (first_failing_found ((λ before e. is_larger (room c.args.geometry) e)) c.args.entries.now c.loop-e.e void_entry (omega arith) (cc) c.loop-e.invariant)

pub loop-e-preserved : goal.loop-e-preserved
loop-e-preserved c = first_failing_passed ((λ before e. is_larger (room c.args.geometry) e)) c.args.entries.now c.loop-e.e void_entry (omega arith) (cc) c.loop-e.invariant

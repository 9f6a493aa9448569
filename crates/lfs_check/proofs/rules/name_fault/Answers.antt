use Rattle.std.proofs.Common.{arith, ap, ◌∙◌, Some}
use Rattle.lfs_format.specs.Directory.{void_entry}
use Rattle.lfs_check.specs.Rules.{has_bad_name, in_entry_block}
use Rattle.lfs_check.proofs.Failing.{first_failing_found, first_failing_passed}
use Rattle.lfs_check.proofs.rules.name_fault.Goals as goal

pub returns-then-has_bad_name : goal.returns-then-has_bad_name
returns-then-has_bad_name c =
    ap Some c.block_of_entry.ensures
    ∙ ap (in_entry_block c.args.geometry) (first_failing_found (has_bad_name c.args.geometry) c.args.entries.now c.loop-e.e void_entry (omega arith) (cc) c.loop-e.invariant)

pub loop-e-preserved : goal.loop-e-preserved
loop-e-preserved c = first_failing_passed (has_bad_name c.args.geometry) c.args.entries.now c.loop-e.e void_entry (omega arith) (cc) c.loop-e.invariant

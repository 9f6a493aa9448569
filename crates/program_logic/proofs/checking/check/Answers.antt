use Rattle.program_logic.specs.Kept.{programs_in}
use Rattle.program_logic.proofs.CheckedPrograms.{system_obeys}
use Rattle.program_logic.proofs.Kept.{always_keeps}
use Rattle.program_logic.proofs.Tables.{all_check}
use Rattle.program_logic.proofs.checking.check.Goals as goal

pub returns-then-lock_checks-clause-obeys : goal.returns-then-lock_checks-clause-obeys
returns-then-lock_checks-clause-obeys c = λ e.
    system_obeys c.args.lock.now (programs_in c.args.table.now c.args.ranges.now)
    (all_check c.args.lock.now c.args.table.now c.args.ranges.now (c.lock_checks.ensures c.if-lock_checks.true) (c.ranges_check.ensures e))

pub returns-then-lock_checks-clause-keeps : goal.returns-then-lock_checks-clause-keeps
returns-then-lock_checks-clause-keeps c = λ e.
    always_keeps c.args.lock.now (programs_in c.args.table.now c.args.ranges.now)
    (all_check c.args.lock.now c.args.table.now c.args.ranges.now (c.lock_checks.ensures c.if-lock_checks.true) (c.ranges_check.ensures e))

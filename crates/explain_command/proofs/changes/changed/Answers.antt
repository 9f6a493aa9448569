use Rattle.std.proofs.Common.{refl}
use Rattle.explain_command.proofs.KeptRegisters.{kept_more, kept_none}
use Rattle.explain_command.proofs.changes.changed.Goals as goal

pub loop-number-init : goal.loop-number-init
loop-number-init c = kept_none _ _

pub loop-number-preserved : goal.loop-number-preserved
loop-number-preserved c = kept_more _ _ _ c.loop-number.invariant c.if-before-number.false

pub returns-then-before-number : goal.returns-then-before-number
returns-then-before-number c = record { first = record { kept = c.loop-number.invariant; now = refl; other = c.if-before-number.true } }

use Rattle.std.proofs.Common.{◌≡◌, subst}
use Rattle.std.specs.Prelude.{IfOk}
use Rattle.reference_state.specs.Happened.{happened}
use Rattle.reference_calls.proofs.Ticks.{ticked_by}
use Rattle.reference_calls.proofs.clock.ticked.Goals as goal

pub returns-clause-ticked : goal.returns-clause-ticked
returns-clause-ticked c =
    subst (λ r. IfOk c.event_result.result (λ h. happened h c.event_result.new.self.state ≡ r))
    (ticked_by c.args.m.now.state c.current-was.result c.wakeup.new.m c.tick_tables.new.m c.current-was.ensures.current
    c.in_ok-wakeup.ensures.wakeup c.in_ok-tick_tables.ensures.ticked) c.event_result.ensures.result

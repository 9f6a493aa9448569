use Rattle.std.proofs.Common.{◌≡◌, ◌∙◌, ◌+◌, ap, pos, rules}
use Rattle.xinu_model.specs.Clock.{due}
use Rattle.xinu_model.specs.Machine.{CallState, start}
use Rattle.reference_calls.proofs.Ticks.{ticks_stay, woken}
use Rattle.reference_calls.proofs.clock.wakeup.Goals as goal

pub returns-clause-wakeup : goal.returns-clause-wakeup
returns-clause-wakeup c =
    let s = c.args.m.now.state in
    let who : c.deref.result.now ≡ due (s.tables.ticks + 1) s.tables.sleepers = search rules in
    let begins : c.args.m.now ≡ start s = search rules in
    woken s c.deref.result.now c.args.m.now c.unblock_all_with.new.self c.in_ok-unblock_all_with.ensures.unblocked who begins

pub returns-clause-ticks : goal.returns-clause-ticks
returns-clause-ticks c =
    ap (λ (d : CallState). d.state.tables.ticks) c.in_ok-unblock_all_with.ensures.unblocked
    ∙ ticks_stay (pos 0) c.deref.result.now c.args.m.now

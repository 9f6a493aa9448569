use Rattle.std.proofs.Common.{refl, rules}
use Rattle.reference_check.proofs.Called.{WasCalled, asks_right, asks_step, done_step}
use Rattle.reference_check.specs.Steps.{done_told}
use Rattle.reference_check.proofs.steps.call_step.Goals as goal

pub make_call-requires-clause-right : goal.make_call-requires-clause-right
make_call-requires-clause-right c =
    let k : WasCalled c.args.m.now.state c.current-caller.result c.call_of-call.result c.in_ok-first.first.items c.args.m.now c.called.new.m c.in_ok-answer.field-0 =
    record { was = refl; runs = c.current-caller.ensures.current; asks = c.call_of-call.ensures.call; says = c.in_ok-first.ensures.one; came = c.in_ok-answer.ensures.called; leaves = c.in_ok-answer.ensures.leaves } in
    record {
      sound = search rules;
      disk = search rules;
      right = asks_right k c.in-Asks.call c.in-Asks.at c.in-Asks.is c.requires.within.sound c.requires.process;
    }

pub returns-in-Done-clause-called : goal.returns-in-Done-clause-called
returns-in-Done-clause-called c =
    let k : WasCalled c.args.m.now.state c.current-caller.result c.call_of-call.result c.in_ok-first.first.items c.args.m.now c.called.new.m c.in_ok-answer.field-0 =
    record { was = refl; runs = c.current-caller.ensures.current; asks = c.call_of-call.ensures.call; says = c.in_ok-first.ensures.one; came = c.in_ok-answer.ensures.called; leaves = c.in_ok-answer.ensures.leaves } in
    done_step k (done_told c.args.text.now) c.in-Done.answer c.end_of_event.result c.end_of_event.new.self.state c.in-Done.is c.end_of_event.ensures.ends

pub returns-in-Asks-clause-called : goal.returns-in-Asks-clause-called
returns-in-Asks-clause-called c =
    let k : WasCalled c.args.m.now.state c.current-caller.result c.call_of-call.result c.in_ok-first.first.items c.args.m.now c.called.new.m c.in_ok-answer.field-0 =
    record { was = refl; runs = c.current-caller.ensures.current; asks = c.call_of-call.ensures.call; says = c.in_ok-first.ensures.one; came = c.in_ok-answer.ensures.called; leaves = c.in_ok-answer.ensures.leaves } in
    asks_step k (done_told c.args.text.now) c.in-Asks.call c.in-Asks.at c.make_call.result c.make_call.new.m.state c.in-Asks.is c.make_call.ensures.happens

use Rattle.std.proofs.Common.{◌∙◌, arith, ap, length, sym}
use Rattle.std.specs.Prelude.{is_some}
use Rattle.machine.specs.RunEnds.{end_of_go}
use Rattle.soak.proofs.Along.{along_end, along_ended, along_event, along_start}
use Rattle.soak.proofs.events.take_events.Goals as goal

pub loop-event-init : goal.loop-event-init
loop-event-init c =
    let few = c.requires.few in
    record {
      running = c.requires.over;
      few = few;
      counted = omega (arith, few);
      texts = omega arith;
      along = along_start c.args.machine.now.state c.args.schedule c.args.tally.now.counts;
    }

pub loop-event-preserved : goal.loop-event-preserved
loop-event-preserved c =
    let before = c.loop-event.invariant in
    let event = c.in_ok-take_event.ensures in
    let shorter = ap length c.in-Some.ensures.next in
    let few = before.few in
    let counted = before.counted in
    let texts = before.texts in
    let events_one = event.events in
    let texts_one = event.texts in
    record {
      running = event.over ∙ ap (λ go. is_some (end_of_go go)) c.in-Goes.is;
      few = omega (arith, few, shorter, events_one);
      counted = omega (arith, counted, shorter);
      texts = omega (arith, texts, shorter, texts_one);
      along = along_event c.loop-event.taken c.args.machine.now.state c.args.schedule c.loop-event.machine.state c.in-Some.event c.next_event.new.self c.loop-event.schedule c.take_event.new.machine.state
          c.args.tally.now.counts c.loop-event.tally.counts c.take_event.new.tally.counts c.in-Some.ensures.next before.along event.happens (sym event.goes ∙ ap end_of_go c.in-Goes.is);
    }

pub returns-in-Done-clause-taken : goal.returns-in-Done-clause-taken
returns-in-Done-clause-taken c =
    let event = c.in_ok-take_event.ensures in
    along_ended c.loop-event.taken c.args.machine.now.state c.args.schedule c.loop-event.machine.state c.in-Some.event c.next_event.new.self c.loop-event.schedule c.take_event.new.machine.state _
    c.args.tally.now.counts c.loop-event.tally.counts c.take_event.new.tally.counts c.in-Some.ensures.next c.loop-event.invariant.along event.happens (sym event.goes ∙ ap end_of_go c.in-Done.is)

pub returns-in-Panic-clause-taken : goal.returns-in-Panic-clause-taken
returns-in-Panic-clause-taken c =
    let event = c.in_ok-take_event.ensures in
    along_ended c.loop-event.taken c.args.machine.now.state c.args.schedule c.loop-event.machine.state c.in-Some.event c.next_event.new.self c.loop-event.schedule c.take_event.new.machine.state _
    c.args.tally.now.counts c.loop-event.tally.counts c.take_event.new.tally.counts c.in-Some.ensures.next c.loop-event.invariant.along event.happens (sym event.goes ∙ ap end_of_go c.in-Panic.is)

pub returns-clause-taken : goal.returns-clause-taken
returns-clause-taken c =
    along_end c.loop-event.taken c.args.machine.now.state c.args.schedule c.loop-event.machine.state c.loop-event.schedule c.args.tally.now.counts c.loop-event.tally.counts c.in_default.ensures.next.0
    c.loop-event.invariant.along

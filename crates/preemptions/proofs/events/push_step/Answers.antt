use Rattle.preemptions.proofs.StepLemmas.{takes_none, takes_before, takes_first}
use Rattle.preemptions.proofs.events.push_step.Goals as goal

pub returns-in_default : goal.returns-in_default
returns-in_default c = record {
  appended = takes_none c.args.steps c.args.places.now c.args.events.now.items c.push.new.self.items c.in_default.len_below c.in_ok-push.ensures.items;
}

pub returns-then-place-steps : goal.returns-then-place-steps
returns-then-place-steps c = record {
  appended = takes_before c.args.steps c.args.places.now c.args.events.now.items c.push-then-place-steps.new.self.items c.requires.ahead c.in-len1-up.len_at_least
      c.if-place-steps.true c.in_ok-push-2.ensures.items;
}

pub returns : goal.returns
returns c = record {
  appended = takes_first c.args.steps c.args.places.now c.args.events.now.items c.push-2.new.self.items c.push-3.new.self.items c.push-4.new.self.items
      c.requires.ahead c.in-len1-up.len_at_least c.if-place-steps.false c.in_ok-push-3.ensures.items c.in_ok-push-4.ensures.items c.in_ok-push-5.ensures.items;
}

use Rattle.std.proofs.Common.{ap, ◌∙◌, ◌++◌, replicate, sym, List}
use Rattle.xinu_base.specs.declared.events.Event.{Event}
use Rattle.xinu_base.specs.declared.events.Event.TheVariants.{Step}
use Rattle.xinu_commands.proofs.PlainSteps.{fewer_copies}
use Rattle.xinu_commands.proofs.runs.take_steps.Goals as goal

pub returns-clause-steps : goal.returns-clause-steps
returns-clause-steps c =
    let taken = c.steps-taken.result in
    let first = fewer_copies taken c.steps_ahead.result Step c.args.schedule.now _ c.steps-taken.ensures.most c.steps_ahead.ensures.ahead in
    record {
      count = taken;
      plain = c.steps-taken.ensures.plain;
      state = c.steps-taken.ensures.steps;
      taken = first ∙ ap (λ (es : List Event). replicate taken Step ++ es) (sym c.skip.ensures.skips);
    }

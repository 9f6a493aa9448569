use Rattle.std.proofs.Common.{sym}
use Rattle.xinu_base.specs.declared.events.Event.TheVariants.{Step}
use Rattle.machine.proofs.EventBounds.{chosen_once, chosen_ticks}
use Rattle.machine.proofs.Happenings.{changes_as, chosen_as, happened}
use Rattle.machine.proofs.events.happen.Goals as goal

pub returns-in-Step : goal.returns-in-Step
returns-in-Step g c =
    let s = c.args.kernel.now.came.call.state in
    let new = c.step.new.kernel.came.call.state in
    let k = chosen_as s new c.args.event Step c.step.result _ _ _ _ c.in-Step.is c.step.ensures.effect in
    record {
      happens = happened s new c.args.event c.step.result _ _ _ _ k;
      panics = sym k.panics;
      idle = c.step.ensures.idle;
      sound = c.step.ensures.sound;
      ticks = chosen_ticks s new c.args.event c.step.result _ _ _ _ c.requires.sound k;
      numbers = chosen_once s new c.args.event c.step.result _ _ _ _ c.requires.sound k;
      image = changes_as c.args.event Step _ _ _ c.in-Step.is c.step.ensures.image;
    }

pub returns-in_default : goal.returns-in_default
returns-in_default g c =
    let s = c.args.kernel.now.came.call.state in
    let new = c.other_event.new.kernel.came.call.state in
    let k = c.other_event.ensures.effect in
    record {
      happens = happened s new c.args.event c.other_event.result _ _ _ _ k;
      panics = sym k.panics;
      idle = c.other_event.ensures.idle;
      sound = c.other_event.ensures.sound;
      ticks = chosen_ticks s new c.args.event c.other_event.result _ _ _ _ c.requires.sound k;
      numbers = chosen_once s new c.args.event c.other_event.result _ _ _ _ c.requires.sound k;
      image = c.other_event.ensures.image;
    }

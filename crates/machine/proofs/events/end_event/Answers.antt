use Rattle.std.proofs.Common.{◌∙◌, ap, sym}
use Rattle.xinu_model.specs.Machine.{is_panic}
use Rattle.machine.proofs.Closing.{event_ended}
use Rattle.machine.proofs.events.end_event.Goals as goal

pub returns : goal.returns
returns g c =
    let result = c.args.kernel.now.came in
    let panic = c.is_panic.ensures.panic ∙ sym (ap is_panic c.answer-answer.ensures.answer) in
    record {
      effect = event_ended c.args.was result c.close_event.new.self.came c.current.result c.is_panic.result _ _ _ _ _ _ c.close_event.ensures.closed c.current.ensures.current panic
          c.print_answers.ensures.prints c.print_switch.ensures.prints;
      idle = c.close_event.ensures.idle;
      sound = c.close_event.ensures.sound;
      image = c.close_event.ensures.image;
    }

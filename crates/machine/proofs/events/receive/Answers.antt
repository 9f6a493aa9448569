use Rattle.std.proofs.Common.{ℕ, [], ap, ◌∙◌}
use Rattle.xinu_model.specs.Console.Signals.{keyed}
use Rattle.xinu_model.specs.Machine.{CallResult, end_of_event}
use Rattle.machine.proofs.Closing.{effect_as}
use Rattle.machine.proofs.events.receive.Goals as goal

pub returns : goal.returns
returns g c =
    let s = c.args.kernel.now.came.call.state in
    let e = ap (λ (n : ℕ). end_of_event n [] c.on_type.new.self.came) c.current-current.ensures.current
    ∙ ap (λ (r : CallResult). end_of_event s.tables.current [] r) c.on_type.ensures.received in
    record {
      effect = effect_as _ (keyed c.args.b s) _ _ _ _ _ _ e c.end_event.ensures.effect;
      idle = c.end_event.ensures.idle;
      sound = c.end_event.ensures.sound;
      image = c.end_event.ensures.image ∙ c.on_type.ensures.image;
    }

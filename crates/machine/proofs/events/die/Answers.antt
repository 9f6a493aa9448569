use Rattle.std.proofs.Common.{ℕ, [], ap, ◌∙◌}
use Rattle.xinu_model.specs.Machine.{CallResult, end_of_event}
use Rattle.xinu_model.specs.Process.Death.{exit}
use Rattle.machine.proofs.Closing.{effect_as, first_printed}
use Rattle.machine.proofs.events.die.Goals as goal

pub returns : goal.returns
returns g c =
    let s = c.args.kernel.now.came.call.state in
    let e = ap (λ (n : ℕ). end_of_event n [] c.die.new.self.came) c.current-current.ensures.current ∙ ap (λ (r : CallResult). end_of_event s.tables.current [] r) c.die.ensures.dies in
    record {
      effect = first_printed s.tables.current c.args.why (exit s) _ _ _ _ _ _ _ _ c.print_line.ensures.prints (effect_as _ _ _ _ _ _ _ _ e c.end_event.ensures.effect);
      idle = c.end_event.ensures.idle;
      sound = c.end_event.ensures.sound;
      image = c.end_event.ensures.image ∙ c.die.ensures.image;
    }

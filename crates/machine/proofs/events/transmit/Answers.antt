use Rattle.std.proofs.Common.{ℕ, [], ap, refl, subst, sym, ◌∙◌}
use Rattle.xinu_model.specs.Console.Taking.{console_of}
use Rattle.xinu_model.specs.Console.Transmitting.{transmitted}
use Rattle.xinu_model.specs.Machine.{end_of_event}
use Rattle.xinu_model.specs.Sound.State.{IsSound}
use Rattle.machine.proofs.Closing.{effect_as}
use Rattle.machine.proofs.Transmissions.{idle_after, nothing_sent, state_after, was_sent}
use Rattle.machine.proofs.events.transmit.Goals as goal

pub returns-in-Some : goal.returns-in-Some
returns-in-Some g c =
    let s = c.args.kernel.now.came.call.state in
    let e = ap (λ (n : ℕ). end_of_event n [] c.on_tx.new.self.came) c.current-current.ensures.current in
    record {
      effect = was_sent s (transmitted (console_of s)) c.in-Some.b c.on_tx.new.self.came _ _ _ _ _ _ _ _ refl (sym c.on_tx.ensures.byte ∙ c.in-Some.is) c.on_tx.ensures.sent
          c.print_line.ensures.prints (effect_as _ _ _ _ _ _ _ _ e c.end_event.ensures.effect);
      idle = c.end_event.ensures.idle;
      sound = c.end_event.ensures.sound;
      image = c.end_event.ensures.image ∙ c.on_tx.ensures.image;
    }

pub returns-in-None : goal.returns-in-None
returns-in-None g c =
    let s = c.args.kernel.now.came.call.state in
    let none = sym c.on_tx.ensures.byte ∙ c.in-None.is in
    let e = state_after s (transmitted (console_of s)) c.on_tx.new.self.came none c.on_tx.ensures.sent in
    record {
      effect = nothing_sent s (transmitted (console_of s)) c.on_tx.new.self.came c.args.out.now (g.H.Host.view c.args.host.now) refl none c.on_tx.ensures.sent;
      idle = idle_after s (transmitted (console_of s)) c.on_tx.new.self.came none c.on_tx.ensures.sent;
      sound = subst IsSound (sym e) c.requires.sound;
      image = c.on_tx.ensures.image;
    }

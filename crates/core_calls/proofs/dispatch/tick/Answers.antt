use Rattle.std.proofs.Common.{◌∙◌, pos, ap}
use Rattle.part_laws.specs.Preserve.{ticking}
use Rattle.xinu_model.specs.Machine.{CallState}
use Rattle.kernel_state.specs.Released.{replies_to}
use Rattle.kernel_state.specs.States.{kernel_state}
use Rattle.kernel_state.proofs.Released.{ticking_is}
use Rattle.kernel_state.proofs.Values.{call_is}
use Rattle.core_calls.proofs.dispatch.tick.Goals as goal

pub returns-clause-ticks : goal.returns-clause-ticks
returns-clause-ticks c =
    let s = (kernel_state c.k.inside).state in
    let u = c.tick-woken.new.self in
    ticking_is s c.tick-woken.result.items u _ c.k.inside.owes_resched c.tick-woken.ensures.due c.tick-woken.ensures.ticked
    (c.answer_released.ensures.replies ∙ ap (λ ps. replies_to (pos 0) ps u) c.as_slice.ensures.value)
    (ap (λ (d : CallState). d.owes_resched) ((call_is c.k.view_is) ∙ c.requires.start.is))
    ∙ ap (λ (d : CallState). ticking d.state) (call_is c.k.view_is)

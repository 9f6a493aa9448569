use Rattle.std.proofs.Common.{◌∙◌, pos, ap}
use Rattle.xinu_base.specs.declared.syscalls.Next.TheVariants.{Returns}
use Rattle.xinu_model.specs.Machine.{CallState}
use Rattle.xinu_model.specs.Semaphores.Calls.{signal}
use Rattle.kernel_state.specs.Results.{came_to}
use Rattle.kernel_state.specs.States.{kernel_state}
use Rattle.core_calls.proofs.SemaphoreCalls.{signal_releases}
use Rattle.kernel_state.proofs.Values.{call_is}
use Rattle.core_calls.proofs.semaphore_calls.signal.Goals as goal

pub returns-in-Released-clause-signal : goal.returns-in-Released-clause-signal
returns-in-Released-clause-signal c =
    let s = (kernel_state c.k.inside).state in
    ap (λ d. came_to d (Returns (pos 0))) c.release.ensures.released
    ∙ signal_releases s c.in-Some.sem c.args.word c.in-Released.p c.signal.new.self c.in-Some.ensures.named c.in-Some.ensures.good c.in-Released.ensures.answer c.in-Released.ensures.signalled
    ∙ ap (λ (d : CallState). signal c.args.word d.state) (call_is c.k.view_is)

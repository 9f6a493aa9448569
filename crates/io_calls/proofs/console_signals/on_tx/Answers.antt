-- The console's output has a semaphore of the kernel's.
use Rattle.std.proofs.Common.{◌<◌, arith, subst, sym}
use Rattle.kernel_state.specs.Released.{IsOfPart}
use Rattle.xinu_model.specs.Machine.{CallState}
use Rattle.xinu_model.specs.Tables.{semaphore_at}
use Rattle.kernel_state.proofs.Values.{call_is}
use Rattle.io_calls.proofs.console_signals.on_tx.Goals as goal

pub give_token-requires-clause-part : goal.give_token-requires-clause-part
give_token-requires-clause-part c =
    let sem = c.output_sem.result in
    let P : CallState → Type 0 = λ d. IsOfPart (semaphore_at d.state.tables sem).owner in
    let small : sem < 4 = omega (arith, c.output_sem.ensures.output) in
    subst P (sym (call_is c.k.view_is)) (subst IsOfPart (sym (c.requires.sound.inside.devices sem small)) tt)

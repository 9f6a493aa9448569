use Rattle.std.proofs.Common.{◌∙◌, ap, subst, sym}
use Rattle.kernel_state.specs.Released.{IsOfPart}
use Rattle.kernel_state.specs.States.{kernel_state}
use Rattle.xinu_model.specs.Machine.{CallState}
use Rattle.xinu_model.specs.Semaphores.Waiting.{signalled}
use Rattle.xinu_model.specs.Tables.{semaphore_at}
use Rattle.kernel_state.proofs.GoingOn.{part_used, token_passed}
use Rattle.kernel_state.proofs.Values.{call_is}
use Rattle.kernel_state.proofs.state.KernelState.give_token.Goals as goal

pub signal-requires : goal.signal-requires
signal-requires c =
    let P : CallState → Type 0 = λ d. IsOfPart (semaphore_at d.state.tables c.args.sem).owner in
    record { used = part_used (semaphore_at c.self.inside.tables c.args.sem).owner (subst P (sym (call_is c.self.view_is)) c.requires.part) }

pub returns-in-Released-clause-signalled : goal.returns-in-Released-clause-signalled
returns-in-Released-clause-signalled c =
    let d = kernel_state c.self.inside in
    let P : CallState → Type 0 = λ d. IsOfPart (semaphore_at d.state.tables c.args.sem).owner in
    token_passed d c.args.sem _ c.signal.new.self c.in-Released.ensures.inside
    (subst P (sym (call_is c.self.view_is)) c.requires.part) c.in-Released.ensures.answer c.in-Released.ensures.signalled
    ∙ ap (signalled c.args.sem) (call_is c.self.view_is)

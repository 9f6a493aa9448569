use Rattle.std.proofs.Common.{◌∙◌, ap, subst, sym}
use Rattle.std.specs.Prelude.{nat_lt}
use Rattle.io_calls.specs.Consoles.{Begins, HasPlace}
use Rattle.kernel_state.specs.States.{kernel_state}
use Rattle.xinu_model.specs.Tables.{semaphore_at}
use Rattle.io_calls.proofs.ConsoleTokens.{in_tables, place_taken, waited}
use Rattle.kernel_state.proofs.Values.{call_is}
use Rattle.io_calls.proofs.console_tokens.await_place.Goals as goal

pub returns-clause-place : goal.returns-clause-place
returns-clause-place c took =
    let k = kernel_state c.k.inside in
    let t = k.state.tables in
    let same = c.output_sem.ensures.output in
    subst (λ t. HasPlace (in_tables t k)) (sym (c.wait.ensures.waits ∙ ap (λ sem. waited c.wait.result sem c.args.rest t) same))
    (place_taken c.args.rest c.wait.result k (subst Begins (sym (call_is c.k.view_is)) c.requires.begins)
    (c.wait.ensures.took ∙ ap (λ sem. nat_lt 0 (semaphore_at t sem).tokens) same) took)

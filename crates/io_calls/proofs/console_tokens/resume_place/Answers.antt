use Rattle.std.proofs.Common.{subst, sym}
use Rattle.io_calls.specs.Consoles.{GoesOn, HasPlace}
use Rattle.kernel_state.specs.States.{kernel_state}
use Rattle.xinu_model.specs.Sound.Tables.{asks_output}
use Rattle.io_calls.proofs.ConsoleTokens.{in_tables, place_released}
use Rattle.kernel_state.proofs.Values.{call_is}
use Rattle.io_calls.proofs.console_tokens.resume_place.Goals as goal

pub returns-clause-place : goal.returns-clause-place
returns-clause-place c =
    let k = kernel_state c.k.inside in
    subst (λ t. HasPlace (in_tables t k)) (sym c.go_on.ensures.goes_on) (place_released k (subst (GoesOn asks_output) (sym (call_is c.k.view_is)) c.requires.goes_on))

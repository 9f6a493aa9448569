use Rattle.std.proofs.Common.{subst, sym}
use Rattle.io_calls.specs.Consoles.{GoesOn, HasItem}
use Rattle.kernel_state.specs.States.{kernel_state}
use Rattle.xinu_model.specs.Sound.Tables.{asks_input}
use Rattle.io_calls.proofs.ConsoleTokens.{in_tables, item_released}
use Rattle.kernel_state.proofs.Values.{call_is}
use Rattle.io_calls.proofs.console_tokens.resume_item.Goals as goal

pub returns-clause-item : goal.returns-clause-item
returns-clause-item c =
    let k = kernel_state c.k.inside in
    subst (λ t. HasItem (in_tables t k)) (sym c.go_on.ensures.goes_on) (item_released k (subst (GoesOn asks_input) (sym (call_is c.k.view_is)) c.requires.goes_on))

use Rattle.std.proofs.Common.{sym, subst}
use Rattle.xinu_model.specs.Machine.{CallState}
use Rattle.core_calls.specs.PortRoom.{HaveRoom}
use Rattle.core_calls.proofs.PortCalls.{is_put, receivers_below, receivers_used}
use Rattle.kernel_state.proofs.Values.{call_is}
use Rattle.core_calls.proofs.port_calls.finish_send.Goals as goal

pub give_token-requires-clause-part : goal.give_token-requires-clause-part
give_token-requires-clause-part c =
    let R : CallState → Type 0 = λ d. HaveRoom d.state.tables d.state.parts.ports in
    receivers_used c.k.inside.tables c.k.inside.ports.ports c.args.ticket c.in-Put.sem (subst R (sym (call_is c.k.view_is)) c.requires.room)
    (is_put c.args.ticket c.args.message c.in-Put.sem c.k.inside.ports c.in-Put.ensures.answer)

pub give_token-requires-clause-room : goal.give_token-requires-clause-room
give_token-requires-clause-room c =
    let R : CallState → Type 0 = λ d. HaveRoom d.state.tables d.state.parts.ports in
    receivers_below c.k.inside.tables c.k.inside.ports.ports c.args.ticket c.in-Put.sem (subst R (sym (call_is c.k.view_is)) c.requires.room)
    (is_put c.args.ticket c.args.message c.in-Put.sem c.k.inside.ports c.in-Put.ensures.answer)

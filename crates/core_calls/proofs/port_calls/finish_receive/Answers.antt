use Rattle.std.proofs.Common.{◌≡◌, ◌∙◌, ap, rules, sym, subst, w32}
use Rattle.std.proofs.lemmas.Int.{to_z-of_z}
use mir.Val.{SFits, of_z, to_z}
use Rattle.xinu_model.specs.Machine.{CallState, Returns}
use Rattle.xinu_model.specs.Ports.Calls as model
use Rattle.xinu_model.specs.Semaphores.Waiting.{signalled}
use Rattle.xinu_model.specs.Words.{signed}
use Rattle.kernel_state.specs.Results.{IsStart}
use Rattle.kernel_state.specs.States.{kernel_state}
use Rattle.core_calls.specs.PortRoom.{HaveRoom}
use Rattle.core_calls.proofs.PortCalls.{is_taken, message_taken, senders_below, senders_used}
use Rattle.kernel_state.proofs.Values.{call_is}
use Rattle.core_calls.proofs.port_calls.finish_receive.Goals as goal

pub give_token-requires-clause-part : goal.give_token-requires-clause-part
give_token-requires-clause-part c =
    let R : CallState → Type 0 = λ d. HaveRoom d.state.tables d.state.parts.ports in
    senders_used c.k.inside.tables c.k.inside.ports.ports c.args.ticket c.in-Some.received (subst R (sym (call_is c.k.view_is)) c.requires.room)
    (is_taken c.args.ticket c.in-Some.received c.k.inside.ports c.in-Some.ensures.answer)

pub give_token-requires-clause-room : goal.give_token-requires-clause-room
give_token-requires-clause-room c =
    let R : CallState → Type 0 = λ d. HaveRoom d.state.tables d.state.parts.ports in
    let p = is_taken c.args.ticket c.in-Some.received c.k.inside.ports c.in-Some.ensures.answer in
    senders_below c.k.inside.tables c.k.inside.ports.ports c.args.ticket c.in-Some.received (subst R (sym (call_is c.k.view_is)) c.requires.room) p
    (c.in-Some.ensures.signed p.queue p.used)

pub returns-clause-finished : goal.returns-clause-finished
returns-clause-finished c =
    let k = kernel_state c.k.inside in
    let i = subst IsStart (sym (call_is c.k.view_is)) c.requires.start in
    let p = c.receive.new.self in
    let r = c.in-Some.received in
    let W : CallState → CallState = λ d. record d { state = record d.state { parts = record d.state.parts { ports = p.ports; next_port = p.next_port } } } in
    let f : SFits w32 c.cast_signed.result = search rules in
    let v : to_z w32 (of_z w32 c.cast_signed.result) ≡ signed r.message = to_z-of_z w32 c.cast_signed.result f ∙ c.cast_signed.ensures in
    ap (λ v. record { call = c.give_token.new.self.call; answer = Returns v }) v
    ∙ ap (λ d. record { call = d; answer = Returns (signed r.message) }) (c.give_token.ensures.signalled ∙ ap (λ d. signalled r.send (W d)) i.is)
    ∙ message_taken k.state c.args.ticket r p c.in-Some.ensures.answer c.in-Some.ensures.ports
    ∙ ap (λ (d : CallState). model.finish_receive c.args.ticket d.state) (call_is c.k.view_is)

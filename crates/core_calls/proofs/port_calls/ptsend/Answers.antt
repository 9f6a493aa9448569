use Rattle.std.proofs.Common.{◌∙◌, sym, ap, subst}
use Rattle.xinu_base.specs.declared.processes.Rest.{Rest}
use Rattle.xinu_model.specs.Machine.{CallState}
use Rattle.xinu_model.specs.Ports.Calls.{ptsend}
use Rattle.xinu_model.specs.Sound.Ports.{ArePorts}
use Rattle.xinu_model.specs.Sound.Tables.{FitsOwner}
use Rattle.xinu_model.specs.Tables.{semaphore_at, Tables}
use Rattle.core_calls.specs.PortRoom.{HaveRoom}
use Rattle.kernel_state.specs.States.{kernel_state}
use Rattle.core_calls.proofs.PortCalls.{is_sender, port_named, send_takes, room_taken, sender_fits}
use Rattle.kernel_state.proofs.Values.{call_is}
use Rattle.core_calls.proofs.port_calls.ptsend.Goals as goal

pub wait-requires-clause-owner : goal.wait-requires-clause-owner
wait-requires-clause-owner c =
    let s = (kernel_state c.k.inside).state in
    let ticket = c.in-Some-send_ticket.ticket in
    let A : CallState → Type 0 = λ d. ArePorts d.state.tables d.state.parts.ports in
    let F : Rest → Type 0 = λ left. FitsOwner ticket.sem (semaphore_at c.k.inside.tables ticket.sem).owner left in
    subst F (sym c.left_of_send.ensures.left)
    (sender_fits s c.in-Some.q c.args.message ticket (subst A (sym (call_is c.k.view_is)) c.requires.ports) (is_sender s c.in-Some.q ticket c.in-Some-send_ticket.ensures.ticket))

pub finish_send-requires-clause-room : goal.finish_send-requires-clause-room
finish_send-requires-clause-room c =
    let A : CallState → Type 0 = λ d. ArePorts d.state.tables d.state.parts.ports in
    let R : Tables → Type 0 = λ u. HaveRoom u c.k.inside.ports.ports in
    subst R (sym c.if-wait.ensures.waits)
    (room_taken c.k.inside.tables c.in-Some-send_ticket.ticket.sem c.k.inside.ports.ports (subst A (sym (call_is c.k.view_is)) c.requires.ports))

pub returns-then-wait-clause-ptsend : goal.returns-then-wait-clause-ptsend
returns-then-wait-clause-ptsend c =
    let s = (kernel_state c.k.inside).state in
    let ticket = c.in-Some-send_ticket.ticket in
    c.finish_send.ensures.finished
    ∙ send_takes s c.in-Some.q c.args.word c.args.message ticket c.wait.new.self (port_named c.in-Some.q c.args.word c.in-Some.ensures)
    (is_sender s c.in-Some.q ticket c.in-Some-send_ticket.ensures.ticket) c.if-wait.ensures.took c.if-wait.ensures.waits
    ∙ ap (λ (d : CallState). ptsend c.args.word c.args.message d.state) (call_is c.k.view_is)

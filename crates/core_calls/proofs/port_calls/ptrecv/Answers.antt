use Rattle.std.proofs.Common.{◌∙◌, sym, ap, subst}
use Rattle.xinu_base.specs.declared.processes.Rest.{Rest}
use Rattle.xinu_model.specs.Machine.{CallState}
use Rattle.xinu_model.specs.Ports.Calls.{ptrecv}
use Rattle.xinu_model.specs.Sound.Ports.{ArePorts}
use Rattle.xinu_model.specs.Sound.Tables.{FitsOwner}
use Rattle.xinu_model.specs.Tables.{semaphore_at, Tables}
use Rattle.core_calls.specs.PortRoom.{HaveRoom}
use Rattle.kernel_state.specs.States.{kernel_state}
use Rattle.core_calls.proofs.PortCalls.{is_receiver, port_named, receive_takes, room_taken, receiver_fits}
use Rattle.kernel_state.proofs.Values.{call_is}
use Rattle.core_calls.proofs.port_calls.ptrecv.Goals as goal

pub wait-requires-clause-owner : goal.wait-requires-clause-owner
wait-requires-clause-owner c =
    let s = (kernel_state c.k.inside).state in
    let ticket = c.in-Some-receive_ticket.ticket in
    let A : CallState → Type 0 = λ d. ArePorts d.state.tables d.state.parts.ports in
    let F : Rest → Type 0 = λ left. FitsOwner ticket.sem (semaphore_at c.k.inside.tables ticket.sem).owner left in
    subst F (sym c.left_of_receive.ensures.left)
    (receiver_fits s c.in-Some.q ticket (subst A (sym (call_is c.k.view_is)) c.requires.ports) (is_receiver s c.in-Some.q ticket c.in-Some-receive_ticket.ensures.ticket))

pub finish_receive-requires-clause-room : goal.finish_receive-requires-clause-room
finish_receive-requires-clause-room c =
    let A : CallState → Type 0 = λ d. ArePorts d.state.tables d.state.parts.ports in
    let R : Tables → Type 0 = λ u. HaveRoom u c.k.inside.ports.ports in
    subst R (sym c.if-wait.ensures.waits)
    (room_taken c.k.inside.tables c.in-Some-receive_ticket.ticket.sem c.k.inside.ports.ports (subst A (sym (call_is c.k.view_is)) c.requires.ports))

pub returns-then-wait-clause-ptrecv : goal.returns-then-wait-clause-ptrecv
returns-then-wait-clause-ptrecv c =
    let s = (kernel_state c.k.inside).state in
    let ticket = c.in-Some-receive_ticket.ticket in
    c.finish_receive.ensures.finished
    ∙ receive_takes s c.in-Some.q c.args.word ticket c.wait.new.self (port_named c.in-Some.q c.args.word c.in-Some.ensures)
    (is_receiver s c.in-Some.q ticket c.in-Some-receive_ticket.ensures.ticket) c.if-wait.ensures.took c.if-wait.ensures.waits
    ∙ ap (λ (d : CallState). ptrecv c.args.word d.state) (call_is c.k.view_is)

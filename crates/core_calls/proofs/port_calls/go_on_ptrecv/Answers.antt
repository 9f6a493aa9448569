use Rattle.std.proofs.Common.{sym, subst}
use Rattle.xinu_base.specs.declared.processes.Rest.TheVariants.{Nothing}
use Rattle.xinu_model.specs.Machine.{CallState}
use Rattle.xinu_model.specs.Sound.Ports.{ArePorts}
use Rattle.xinu_model.specs.Tables.{message_at, Nowhere, process_at, Tables}
use Rattle.core_calls.specs.PortRoom.{HaveRoom}
use Rattle.core_calls.proofs.PortCalls.{room_moved}
use Rattle.kernel_state.proofs.Values.{call_is}
use Rattle.core_calls.proofs.port_calls.go_on_ptrecv.Goals as goal

pub finish_receive-requires-clause-room : goal.finish_receive-requires-clause-room
finish_receive-requires-clause-room c =
    let t = c.k.inside.tables in
    let A : CallState → Type 0 = λ d. ArePorts d.state.tables d.state.parts.ports in
    let R : Tables → Type 0 = λ u. HaveRoom u c.k.inside.ports.ports in
    subst R (sym c.go_on.ensures.goes_on)
    (room_moved t t.current (record (process_at t t.current) { rest = Nothing }) (message_at t t.current) Nowhere c.k.inside.ports.ports
    (subst A (sym (call_is c.k.view_is)) c.requires.ports))

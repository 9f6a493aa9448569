use Rattle.std.proofs.Common.{sym, subst}
use Rattle.xinu_base.specs.declared.processes.Rest.TheVariants.{Nothing}
use Rattle.xinu_model.specs.Machine.{CallState}
use Rattle.xinu_model.specs.Tables.{process_at}
use Rattle.reference_ports.specs.PortRoom.{HaveRoom}
use Rattle.reference_ports.proofs.RoomLeft.{room_goes_on}
use Rattle.reference_ports.proofs.ports.go_on_ptrecv.Goals as goal

pub finish_receive-requires-clause-room : goal.finish_receive-requires-clause-room
finish_receive-requires-clause-room c =
    let s = c.args.m.now.state in
    subst (λ (d : CallState). HaveRoom d.state.tables d.state.parts.ports) (sym c.in_ok-goes_on.ensures.goes_on)
    (room_goes_on s (record (process_at s.tables s.tables.current) { rest = Nothing }) c.held-slot.result c.requires.ports)

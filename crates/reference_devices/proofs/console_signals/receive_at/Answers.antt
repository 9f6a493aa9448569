use Rattle.std.proofs.Common.{◌∙◌, ap, arith}
use Rattle.xinu_model.specs.Console.Receiving.{received}
use Rattle.xinu_model.specs.Console.Rows.{Committed}
use Rattle.xinu_model.specs.Machine.{CallState}
use Rattle.reference_devices.proofs.ConsoleRoom.{input_room}
use Rattle.reference_devices.proofs.console_signals.receive_at.Goals as goal
use Rattle.part_laws.proofs.ConsoleRoom.{few_received}

pub returns-clause-room : goal.returns-clause-room
returns-clause-room c =
    let s = c.args.m.now.state in
    let few = few_received c.args.b s.parts.devices.console c.requires.console.itself in
    let count = ap (λ (x : Committed). x.count) c.in_ok-n.ensures.received
    ∙ ap (λ (d : CallState). (received c.args.b d.state.parts.devices.console).count) c.m.view_is in
    input_room s.tables s.parts.devices.console c.in_ok-n.n c.requires.console (omega (arith, few, count))

use Rattle.std.proofs.Common.{◌∙◌, ap, pos}
use Rattle.xinu_model.specs.Machine.{CallState}
use Rattle.xinu_model.specs.Semaphores.Waiting.{emptied_with}
use Rattle.reference_ports.proofs.Disposals.{cleared_ports}
use Rattle.reference_ports.proofs.port_changes.clear.Goals as goal

pub returns-clause-ports : goal.returns-clause-ports
returns-clause-ports c =
    let send = c.index.result in
    let receive = c.index-2.result in
    let e = c.in_ok-emptied_with-2.ensures.emptied
    ∙ ap (emptied_with (pos 0) receive) (c.in_ok-emptied_with.ensures.emptied ∙ ap (emptied_with (pos 0) send) c.in_ok-dispose.ensures.disposed) in
    ap (λ (d : CallState). d.state.parts.ports) e
    ∙ cleared_ports c.args.how c.args.messages.now send receive c.args.m.now c.requires.sound c.requires.pools

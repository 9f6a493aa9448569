use Rattle.std.proofs.Common.{◌∙◌, pos, ap}
use Rattle.xinu_base.specs.declared.syscalls.Next.TheVariants.{Returns}
use Rattle.xinu_model.specs.Ports.Calls.{emptied_port}
use Rattle.xinu_model.specs.Ports.Queues.{port_at}
use Rattle.xinu_model.specs.Semaphores.Waiting.{emptied}
use Rattle.kernel_state.specs.Results.{came_to}
use Rattle.core_calls.proofs.PortRenewals.{clears, disposed_at_start, is_disposed, ptreset_is}
use Rattle.core_calls.proofs.port_calls.ptreset.Goals as goal

pub reset_port-requires : goal.reset_port-requires
reset_port-requires c =
    let d = c.args.k.now.call in
    let port = c.in-Some.port in
    let uses = clears c.args.word c.args.how port.0 port.1 d.state c.in-Some.ensures.named c.in-Some.ensures.head in
    let x = is_disposed port.0 c.args.how port.1 d c.dispose.new.k.call c.requires.sound c.requires.pools c.requires.ports c.requires.numbers uses
    c.dispose.ensures.disposed in
    record { clears = x.clears }

pub returns-clause-ptreset : goal.returns-clause-ptreset
returns-clause-ptreset c =
    let d = c.args.k.now.call in
    let how = c.args.how in
    let port = c.in-Some.port in
    let uses = clears c.args.word how port.0 port.1 d.state c.in-Some.ensures.named c.in-Some.ensures.head in
    let x = is_disposed port.0 how port.1 d c.dispose.new.k.call c.requires.sound c.requires.pools c.requires.ports c.requires.numbers uses
    c.dispose.ensures.disposed in
    let queue = uses.queue in
    ap (λ d. came_to d (Returns (pos 0)))
    (c.reset_port.ensures.reset queue (ap (λ l. (port_at l port.0).queue) x.same ∙ uses.used)
    ∙ ap (λ e. emptied_port port.0 queue (emptied queue.receive (emptied queue.send e)))
    (disposed_at_start port.0 how queue d c.dispose.new.k.call c.requires.start.is uses.used c.dispose.ensures.disposed))
    ∙ ptreset_is d.state port.0 c.args.word how queue c.in-Some.ensures.named uses.used uses.allowed

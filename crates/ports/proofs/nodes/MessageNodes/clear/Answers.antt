use Rattle.std.proofs.Common.{◌∙◌, [], drop, ap}
use Rattle.ports.specs.Nodes.{queue_at, with_queue}
use Rattle.ports.proofs.Queues.{replaced_twice}
use Rattle.ports.proofs.nodes.MessageNodes.clear.Goals as goal

pub loop-port-preserved : goal.loop-port-preserved
loop-port-preserved c =
    ap (with_queue c.args.port []) c.take.ensures.rest
    ∙ replaced_twice c.loop-port.self c.args.port (drop 1 (queue_at c.loop-port.self c.args.port)) []
    ∙ c.loop-port.invariant

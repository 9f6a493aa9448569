use Rattle.std.proofs.Common.{◌∙◌, [], ap}
use Rattle.std.specs.Option.{option_map}
use Rattle.xinu_model.specs.Ports.Calls.{renewed}
use Rattle.xinu_model.specs.Ports.Queues.{port_at}
use Rattle.ports.specs.Table.{queue_of}
use Rattle.ports.proofs.Entries.{emptied_head}
use Rattle.ports.proofs.table.Ports.reset.Goals as goal

pub returns-clause-reset : goal.returns-clause-reset
returns-clause-reset c =
    let t = c.args.self.now in
    c.renew.ensures.renewed
    ∙ ap (λ o. record t { ports = renewed c.args.q (option_map (queue_of []) o) t.ports }) c.head_of-head.ensures.head
    ∙ ap (λ o. record t { ports = renewed c.args.q o t.ports }) (emptied_head (port_at t.ports c.args.q).queue)

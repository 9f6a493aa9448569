use Rattle.std.proofs.Common.{◌∙◌, sym, ap}
use Rattle.xinu_model.specs.Ports.Queues.{MessagePort, queued}
use Rattle.ports.specs.Nodes.{queue_at}
use Rattle.ports.specs.Table.{entry_at}
use Rattle.ports.proofs.Entries.{port_seen, queued_back}
use Rattle.ports.proofs.table.Ports.messages_of.Goals as goal

pub returns : goal.returns
returns c =
    let es = c.self.inside.entries in
    let qs = c.self.inside.nodes in
    let q = c.args.q in
    record {
      messages = c.messages.ensures.all ∙ sym (queued_back (entry_at es q).head (queue_at qs q) (c.self.invariant.each q))
          ∙ ap (λ (p : MessagePort). queued p.queue) (sym (port_seen es qs c.self.inside.next c.args.self.now q c.self.invariant c.self.view_is));
    }

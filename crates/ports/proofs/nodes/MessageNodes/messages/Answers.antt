use Rattle.std.proofs.Common.{◌∙◌, sym, ap}
use Rattle.queue_table.specs.Table.{lists}
use Rattle.ports.specs.Nodes.{queue_at}
use Rattle.ports.proofs.Linking.{few_nodes, queue_of_port}
use Rattle.ports.proofs.nodes.MessageNodes.messages.Goals as goal

pub words_of-requires-clause-few : goal.words_of-requires-clause-few
words_of-requires-clause-few c = few_nodes c.self.inside.links c.self.inside.words c.self.inside.used c.index.result c.self.invariant c.index.ensures.bound

pub returns : goal.returns
returns c = record {
  all = c.words_of.ensures.all ∙ sym (queue_of_port c.self.inside.words (lists c.self.inside.links) c.index.result)
      ∙ ap (λ qs. queue_at qs c.index.result) c.self.view_is ∙ ap (queue_at c.args.self.now) c.index.ensures.index;
}

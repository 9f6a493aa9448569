use Rattle.ports.proofs.Linking.{fresh_nodes, fresh_queues}
use Rattle.queue_table.specs.Table.{lists}
use Rattle.ports.proofs.nodes.MessageNodes.new.Goals as goal

pub invariant_of-result : goal.invariant_of-result
invariant_of-result c = fresh_nodes _ (lists c.free_all.new.links) c.free_all.ensures.free c.free_all.ensures.ports

pub returns : goal.returns
returns c = record { starts = fresh_queues _ (lists c.free_all.new.links) c.free_all.ensures.ports }

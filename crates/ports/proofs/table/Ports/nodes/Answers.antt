use Rattle.std.proofs.Common.{◌∙◌, sym}
use Rattle.ports.proofs.Entries.{nodes_seen}
use Rattle.ports.proofs.table.Ports.nodes.Goals as goal

pub returns : goal.returns
returns c = record {
  nodes = c.used.ensures.used ∙ sym (nodes_seen c.self.inside.entries c.self.inside.nodes c.self.inside.next c.args.self.now c.self.invariant c.self.view_is);
}

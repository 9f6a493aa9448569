use Rattle.std.proofs.Common.{◌∙◌, ap}
use Rattle.queue_table.proofs.Laws.{queues_of}
use Rattle.queue_table.specs.Table.{lists}
use Rattle.lists_c.specs.Held.{is_held}
use Rattle.lists_c.proofs.Holding.{placed_is_held}
use Rattle.lists_c.proofs.lists.HeldLists.is_held.Goals as goal

pub returns : goal.returns
returns c = record {
  held = c.is_some.ensures ∙ placed_is_held (lists c.self.inside.table) c.args.p c.place_of.result (queues_of c.self.inside.table) c.place_of.ensures.place
      ∙ ap (is_held c.args.p) c.self.view_is;
}

use Rattle.std.proofs.Common.{arith, ◌∙◌, ap}
use Rattle.queue_table.proofs.Laws.{queues_of}
use Rattle.queue_table.specs.Table.{lists}
use Rattle.lists_c.specs.Held.{is_held}
use Rattle.lists_c.proofs.Holding.{nowhere}
use Rattle.lists_c.proofs.lists.HeldLists.enqueue.Goals as goal

pub enqueue-requires : goal.enqueue-requires
enqueue-requires c =
    (omega arith, (c.requires.p_in, (omega arith, nowhere (lists c.self.inside.table) c.args.p (queues_of c.self.inside.table) (ap (is_held c.args.p) c.self.view_is ∙ c.requires.absent))))

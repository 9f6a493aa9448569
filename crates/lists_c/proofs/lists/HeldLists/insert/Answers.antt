use Rattle.std.proofs.Common.{arith, ◌∙◌, ap}
use Rattle.queue_table.proofs.Laws.{IsByKey-insert, queues_of}
use Rattle.queue_table.specs.Lists.{list_at}
use Rattle.queue_table.specs.Table.{lists}
use Rattle.lists_c.specs.Held.{is_held}
use Rattle.lists_c.proofs.Holding.{nowhere, ready_put}
use Rattle.lists_c.proofs.lists.HeldLists.insert.Goals as goal

pub insert-requires : goal.insert-requires
insert-requires c =
    (omega arith, (c.requires.p_in, (omega arith, (nowhere (lists c.self.inside.table) c.args.p (queues_of c.self.inside.table) (ap (is_held c.args.p) c.self.view_is ∙ c.requires.absent), c.self.invariant.ready))))

pub invariant_of-self : goal.invariant_of-self
invariant_of-self c =
    (ready_put (lists c.self.inside.table) (lists c.insert.new.self) _ (queues_of c.self.inside.table) c.self.invariant c.insert.ensures.lists
    (IsByKey-insert (list_at (lists c.self.inside.table) 0) c.args.p _ c.self.invariant.ready)).kept

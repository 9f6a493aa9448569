use Rattle.queue_table.specs.Table.{lists}
use Rattle.lists_c.proofs.Holding.{fresh}
use Rattle.lists_c.proofs.lists.HeldLists.new.Goals as goal

pub returns : goal.returns
returns c = record { empty = (fresh (lists c.in_ok-table.table) c.in_ok-table.ensures.empty).seen }

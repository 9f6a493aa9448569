use Rattle.queue_table.specs.Table.{lists}
use Rattle.uses_queues.proofs.Delays.{fresh}
use Rattle.uses_queues.proofs.timers.Timers.new.Goals as goal

pub returns-in-Ok : goal.returns-in-Ok
returns-in-Ok c = record { none = (fresh (lists c.in-Ok.table) c.in-Ok.ensures.empty).delays_are }

-- What the timers keep true.
use Rattle.queue_table.specs.Lists.{IsDelta, list_at}
use Rattle.queue_table.specs.Table.{lists}
use Rattle.uses_queues.specs.declared.timers.Timers.TheInside.{Inside}

-- The queue is a delta list.
abbrev pub IsRunning : Inside → Type 0
IsRunning t = IsDelta (list_at (lists t.table) 0)

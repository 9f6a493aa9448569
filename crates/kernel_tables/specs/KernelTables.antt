-- What the kernel's tables stand for, and what holds of them at each moment.
use Rattle.kernel_tables.specs.Queues.{AreQueues}
use Rattle.kernel_tables.specs.declared.tables.KernelTables.TheInside.{Inside}
use Rattle.process_core.specs.Tables.{tables_of}
use Rattle.queue_table.specs.Table.{lists}
use Rattle.semaphores.specs.Counts.{beside}
use Rattle.xinu_model.specs.Sound.Tables.{IsInside}
use Rattle.xinu_model.specs.Tables.{Tables}

-- the tables of the abstract machine
abbrev pub kernel_tables : Inside → Tables
kernel_tables k = tables_of (lists k.lists) k.procs (beside k.sems k.slots k.clock)

-- The tables are as at each moment of an event, and the lists fit the counts of the semaphores and the clock.
pub record AreTables (k : Inside) : Type 0 where
  pub inside : IsInside (kernel_tables k)
  pub queues : AreQueues (lists k.lists) k.sems.entries

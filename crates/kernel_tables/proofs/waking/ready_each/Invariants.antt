-- Those that are left to become ready give the whole.
use Rattle.std.proofs.Common.{drop}
use Rattle.queue_table.specs.Table.{lists}
use Rattle.kernel_tables.proofs.Wakeups.{IsReadying}
use Rattle.kernel_tables.proofs.waking.ready_each.Given as goal

abbrev pub invariant-loop-p : goal.invariant-loop-p
invariant-loop-p l = IsReadying (lists l.initial.lists) l.initial.procs l.due (drop l.p-index l.due) (lists l.lists) l.procs

use Rattle.std.proofs.Common.{◌≡◌, ◌<◌, ℕ}
use Rattle.queue_table.specs.Lists.{list_at, numbers}
use Rattle.queue_table.specs.Table as table
use Rattle.kernel_tables.proofs.equality.are_same_queues.Given as goal

-- as many semaphores have the same waiters
abbrev pub invariant-loop-sem : goal.invariant-loop-sem
invariant-loop-sem l = (k : ℕ) → k < l.sem → numbers (list_at (table.lists l.lists) k) ≡ numbers (list_at (table.lists l.others) k)

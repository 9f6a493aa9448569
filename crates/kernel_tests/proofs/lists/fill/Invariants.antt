-- `fill`: the processes so far are in the queue, and the others nowhere.
use Rattle.std.proofs.Common.{◌≡◌, ◌<◌, ◌≤◌, ℕ, Some, None}
use Rattle.queue_table.specs.Lists.{place}
use Rattle.queue_table.specs.Table.{lists}
use Rattle.kernel_tests.proofs.lists.fill.Given as goal

abbrev pub invariant-loop-p : goal.invariant-loop-p
invariant-loop-p l = ((p : ℕ) → p < l.p → place (lists l.table) p ≡ Some 0) × ((p : ℕ) → l.p ≤ p → place (lists l.table) p ≡ None)

-- `churn`: every process is in the queue.
use Rattle.std.proofs.Common.{◌≡◌, ◌<◌, ℕ, Some}
use Rattle.queue_table.specs.Lists.{place}
use Rattle.queue_table.specs.Table.{lists}
use Rattle.kernel_tests.proofs.lists.churn.Given as goal

abbrev pub invariant-loop-j : goal.invariant-loop-j
invariant-loop-j l = (p : ℕ) → p < 60000 → place (lists l.table) p ≡ Some 0

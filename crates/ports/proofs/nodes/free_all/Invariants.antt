-- The nodes so far are free, and the others are in no list.
use Rattle.std.proofs.Common.{◌≡◌, ◌≤◌, ℕ, None, [], length, drop, replicate}
use Rattle.queue_table.specs.Lists.{list_at, place}
use Rattle.queue_table.specs.Table.{lists}
use Rattle.ports.proofs.nodes.free_all.Given as goal

abbrev pub invariant-loop-node : goal.invariant-loop-node
invariant-loop-node l =
    ((p : ℕ) → l.node ≤ p → place (lists l.links) p ≡ None) × (length (list_at (lists l.links) 0) ≡ l.node)
    × (drop 1 (lists l.links) ≡ replicate 30 [])

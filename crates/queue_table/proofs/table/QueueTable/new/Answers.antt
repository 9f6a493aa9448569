-- `new`: the entries that were written hold empty lists.
use Rattle.std.proofs.Common.{arith, subst, ℕ}
use Rattle.queue_table.specs.Table.{lists}
use Rattle.queue_table.proofs.Paths.{Chained-read}
use Rattle.queue_table.proofs.Fresh.{Chained-fresh, Empty}
use Rattle.queue_table.proofs.Tables.{Chained-self}
use Rattle.queue_table.proofs.Linked.{linked_of}
use Rattle.queue_table.proofs.table.QueueTable.new.Goals as goal

pub invariant_of-result : goal.invariant_of-result
invariant_of-result g c =
    let E : ℕ → Type 0 = λ n. Empty g.row.P n c.loop-q.entries.items in
    record { linked = ∣ Chained-self g.row.P g.row.Q _ _ (Chained-fresh g.row.P g.row.Q c.loop-q.entries.items (subst E (omega arith) c.loop-q.invariant)) ∣₁ }

pub returns-clause-empty : goal.returns-clause-empty
unfolding lists
returns-clause-empty g c =
    let E : ℕ → Type 0 = λ n. Empty g.row.P n c.loop-q.entries.items in
    Chained-read g.row.P g.row.Q _ _ (Chained-fresh g.row.P g.row.Q c.loop-q.entries.items (subst E (omega arith) c.loop-q.invariant))

pub returns-clause-linked : goal.returns-clause-linked
returns-clause-linked g c = linked_of _

-- How long the lists of a table are.
use Rattle.std.proofs.Common.{ℕ, ◌≤◌, List, [], length, sym, subst, inl, inr, arith}
use Rattle.std.proofs.lemmas.Bool.{cases_lt}
use Rattle.std.proofs.lemmas.List.{get_or_past}
use Rattle.queue_table.specs.declared.table.QueueTable.{QueueTable}
use Rattle.queue_table.specs.Entries.{head_of}
use Rattle.queue_table.specs.Lists.{Entry, list_at}
use Rattle.queue_table.specs.Table.{lists}
use Rattle.queue_table.proofs.Paths.{Path-short}
use Rattle.queue_table.proofs.Tables.{chained_of}

-- A list of a table has at most as many entries as there are processes.
pub short : {P Q : ℕ} → (t : QueueTable P Q) (q : ℕ) → length (list_at (lists t) q) ≤ P
short {P} {Q} t q = elim (cases_lt q Q) [
  | inl lt ↦ Path-short P t.entries.items (head_of P q) (list_at (lists t) q) (omega arith) ((chained_of t).chains q lt).path
  | inr le ↦ (let F : List Entry → Type 0 = λ l. length l ≤ P in
      subst F (sym (get_or_past (lists t) q [] (omega (arith, (chained_of t).queues)))) (omega arith))
]

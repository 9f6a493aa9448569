-- `remove`: p is taken from between its neighbours.
use Rattle.std.proofs.Common.{subst, sym, List, arith}
use Rattle.queue_table.specs.declared.links.Links.{Links}
use Rattle.queue_table.specs.Lists.{all_without}
use Rattle.queue_table.specs.Table.{lists}
use Rattle.queue_table.specs.Entries.{Chained}
use Rattle.queue_table.proofs.Paths.{Chained-read}
use Rattle.queue_table.proofs.Tables.{Chained-self, chained_of, take_placed}
use Rattle.queue_table.proofs.Linked.{linked_of}
use Rattle.queue_table.proofs.table.QueueTable.remove.Goals as goal

pub unlink-requires-clause-next_in : goal.unlink-requires-clause-next_in
unlink-requires-clause-next_in g c = omega (arith, (take_placed c.args.self.now c.args.p c.requires.present).1, (chained_of c.args.self.now).size)

pub unlink-requires-clause-prev_in : goal.unlink-requires-clause-prev_in
unlink-requires-clause-prev_in g c = omega (arith, (take_placed c.args.self.now c.args.p c.requires.present).2, (chained_of c.args.self.now).size)

pub invariant_of-self : goal.invariant_of-self
invariant_of-self g c =
    let F : List Links → Type 0 = λ es. Chained g.row.P g.row.Q es (all_without c.args.p (lists c.args.self.now)) in
    record { linked = ∣ Chained-self g.row.P g.row.Q _ _ (subst F (sym c.unlink.ensures.written) (take_placed c.args.self.now c.args.p c.requires.present).0) ∣₁ }

pub returns-clause-lists : goal.returns-clause-lists
unfolding lists
returns-clause-lists g c =
    let F : List Links → Type 0 = λ es. Chained g.row.P g.row.Q es (all_without c.args.p (lists c.args.self.now)) in
    Chained-read g.row.P g.row.Q _ _ (subst F (sym c.unlink.ensures.written) (take_placed c.args.self.now c.args.p c.requires.present).0)

pub returns-clause-linked : goal.returns-clause-linked
returns-clause-linked g c = linked_of _

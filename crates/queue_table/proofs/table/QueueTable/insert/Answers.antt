-- `insert`: p goes in at the place at which the walk for its key stopped.
use Rattle.std.proofs.Common.{◌≡◌, ap, arith, w32}
use Rattle.std.proofs.lemmas.Int.{to_z-of_z}
use Rattle.queue_table.specs.declared.links.Links.{Links}
use Rattle.queue_table.specs.Table.{lists}
use Rattle.queue_table.proofs.Paths.{Chained-read}
use Rattle.queue_table.proofs.Tables.{Chained-self, chained_of}
use Rattle.queue_table.proofs.Walks.{place_between, put_by_key}
use Rattle.queue_table.proofs.Linked.{linked_of}
use Rattle.queue_table.proofs.table.QueueTable.insert.Goals as goal

pub links-before-requires : goal.links-before-requires
links-before-requires g c =
    let i = c.first_below-after.ensures.place in
    let b = place_between c.args.self.now c.args.q i.0 i.1 c.first_below-after.result c.requires.q_in i.2 i.5 in
    (omega arith, b.1)

pub link_between-requires-clause-p_in : goal.link_between-requires-clause-p_in
link_between-requires-clause-p_in g c = omega (arith, (chained_of c.args.self.now).size)

pub link_between-requires-clause-before_in : goal.link_between-requires-clause-before_in
link_between-requires-clause-before_in g c =
    let i = c.first_below-after.ensures.place in
    let b = place_between c.args.self.now c.args.q i.0 i.1 c.first_below-after.result c.requires.q_in i.2 i.5 in
    let e : c.links-before.result.prev ≡ _ = ap (λ (r : Links). r.prev) c.links-before.ensures.entry in
    omega (arith, e, b.2, (chained_of c.args.self.now).size)

pub link_between-requires-clause-after_in : goal.link_between-requires-clause-after_in
link_between-requires-clause-after_in g c =
    let i = c.first_below-after.ensures.place in
    let b = place_between c.args.self.now c.args.q i.0 i.1 c.first_below-after.result c.requires.q_in i.2 i.5 in
    omega (arith, b.1, (chained_of c.args.self.now).size)

pub invariant_of-self : goal.invariant_of-self
invariant_of-self g c =
    let k = put_by_key c.args.self.now c.args.p c.args.q c.args.key _ _ c.links-before.result _
    c.requires.p_in c.requires.q_in c.requires.absent c.first_below-after.ensures.place c.links-before.ensures.entry (to_z-of_z w32 c.args.key c.ranges.key) c.link_between.ensures.written in
    record { linked = ∣ Chained-self g.row.P g.row.Q _ _ k ∣₁ }

pub returns-clause-lists : goal.returns-clause-lists
unfolding lists
returns-clause-lists g c =
    let k = put_by_key c.args.self.now c.args.p c.args.q c.args.key _ _ c.links-before.result _
    c.requires.p_in c.requires.q_in c.requires.absent c.first_below-after.ensures.place c.links-before.ensures.entry (to_z-of_z w32 c.args.key c.ranges.key) c.link_between.ensures.written in
    Chained-read g.row.P g.row.Q _ _ k

pub returns-clause-linked : goal.returns-clause-linked
returns-clause-linked g c = linked_of _

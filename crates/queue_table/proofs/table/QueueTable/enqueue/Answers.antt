-- `enqueue`: p goes in between the last entry and the tail.
use Rattle.std.proofs.Common.{◌≡◌, ◌∙◌, [], pos, ap, sym, refl, arith}
use Rattle.std.proofs.lemmas.List.{append-nil}
use Rattle.queue_table.specs.declared.links.Links.{Links}
use Rattle.queue_table.specs.Lists.{list_at}
use Rattle.queue_table.specs.Table.{lists}
use Rattle.queue_table.specs.Entries.{head_of, last_from}
use Rattle.queue_table.proofs.Paths.{Chained-read}
use Rattle.queue_table.proofs.Tables.{Chained-self, chained_of, last_below, prev_of, put_at}
use Rattle.queue_table.proofs.Linked.{linked_of}
use Rattle.queue_table.proofs.table.QueueTable.enqueue.Goals as goal

pub link_between-requires-clause-before_in : goal.link_between-requires-clause-before_in
link_between-requires-clause-before_in g c =
    let t = c.args.self.now in
    let e : c.links-last.result.prev ≡ last_from (head_of g.row.P c.args.q) (list_at (lists t) c.args.q) = ap (λ (r : Links). r.prev) c.links-last.ensures.entry ∙ prev_of t c.args.q c.requires.q_in in
    omega (arith, e, last_below t c.args.q c.requires.q_in, (chained_of t).size)

pub link_between-requires-clause-after_in : goal.link_between-requires-clause-after_in
link_between-requires-clause-after_in g c = omega (arith, (chained_of c.args.self.now).size)

pub invariant_of-self : goal.invariant_of-self
invariant_of-self g c =
    let t = c.args.self.now in
    record {
      linked = ∣ Chained-self g.row.P g.row.Q _ _
          (put_at t c.args.p c.args.q (list_at (lists t) c.args.q) [] (pos 0) _ _ _ c.requires.p_in c.requires.q_in c.requires.absent (sym (append-nil _))
          (ap (λ (r : Links). r.prev) c.links-last.ensures.entry ∙ prev_of t c.args.q c.requires.q_in) refl c.link_between.ensures.written) ∣₁;
    }

pub returns-clause-lists : goal.returns-clause-lists
unfolding lists
returns-clause-lists g c =
    let t = c.args.self.now in
    Chained-read g.row.P g.row.Q _ _
    (put_at t c.args.p c.args.q (list_at (lists t) c.args.q) [] (pos 0) _ _ _ c.requires.p_in c.requires.q_in c.requires.absent (sym (append-nil _))
    (ap (λ (r : Links). r.prev) c.links-last.ensures.entry ∙ prev_of t c.args.q c.requires.q_in) refl c.link_between.ensures.written)

pub returns-clause-linked : goal.returns-clause-linked
returns-clause-linked g c = linked_of _

-- `first`: the entry after the head is the first process, or the tail of an empty list.
use Rattle.std.proofs.Common.{◌∙◌, ap, arith}
use Rattle.queue_table.specs.declared.links.Links.{Links}
use Rattle.queue_table.specs.Lists.{list_at}
use Rattle.queue_table.specs.Table.{lists}
use Rattle.queue_table.specs.Entries.{head_of, tail_of}
use Rattle.queue_table.proofs.Tables.{chained_of, first-none, first-some, next_of}
use Rattle.queue_table.proofs.table.QueueTable.first.Goals as goal

pub returns-then-first-clause-first : goal.returns-then-first-clause-first
returns-then-first-clause-first g c =
    let t = c.args.self.now in
    first-some g.row.P (list_at (lists t) c.args.q) (tail_of g.row.P c.args.q) _ (omega arith)
    (ap (λ (r : Links). r.next) c.links-first.ensures.entry ∙ next_of t c.args.q c.requires.q_in) c.if-first.true

pub returns-else-first-clause-first : goal.returns-else-first-clause-first
returns-else-first-clause-first g c =
    let t = c.args.self.now in
    first-none g.row.P t.entries.items (head_of g.row.P c.args.q) (list_at (lists t) c.args.q) (tail_of g.row.P c.args.q) _ ((chained_of t).chains c.args.q c.requires.q_in).path
    (ap (λ (r : Links). r.next) c.links-first.ensures.entry ∙ next_of t c.args.q c.requires.q_in) c.if-first.false

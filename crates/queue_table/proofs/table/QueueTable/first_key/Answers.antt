-- `first_key`: the entry after the head has the first key, or is the tail of an empty list.
use Rattle.std.proofs.Common.{◌∙◌, ap, arith, rules}
use Rattle.std.proofs.lemmas.Int.{to_z-of_z}
use mir.Syntax.{w32}
use mir.Val.{SFits}
use Rattle.queue_table.specs.declared.links.Links.{Links}
use Rattle.queue_table.specs.Lists.{list_at}
use Rattle.queue_table.specs.Table.{lists}
use Rattle.queue_table.specs.Entries.{head_of, tail_of}
use Rattle.queue_table.proofs.Tables.{chained_of, first_key-none, first_key-some, next_of}
use Rattle.queue_table.proofs.table.QueueTable.first_key.Goals as goal

pub returns-then-first : goal.returns-then-first
returns-then-first g c =
    let t = c.args.self.now in
    let fit : SFits w32 c.links.result.key = search rules in
    record {
      key = rw (to_z-of_z w32 c.links.result.key fit)
          (first_key-some g.row.P t.entries.items (head_of g.row.P c.args.q) (list_at (lists t) c.args.q) (tail_of g.row.P c.args.q) c.links-first.result.next _ ((chained_of t).chains c.args.q c.requires.q_in).path (omega arith)
          (ap (λ (r : Links). r.next) c.links-first.ensures.entry ∙ next_of t c.args.q c.requires.q_in) c.if-first.true (ap (λ (r : Links). r.key) c.links.ensures.entry));
    }

pub returns-else-first : goal.returns-else-first
returns-else-first g c =
    let t = c.args.self.now in
    record {
      key = first_key-none g.row.P t.entries.items (head_of g.row.P c.args.q) (list_at (lists t) c.args.q) (tail_of g.row.P c.args.q) _ ((chained_of t).chains c.args.q c.requires.q_in).path
          (ap (λ (r : Links). r.next) c.links-first.ensures.entry ∙ next_of t c.args.q c.requires.q_in) c.if-first.false;
    }

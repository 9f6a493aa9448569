-- `next_after`: the entry after p is the process after it, or the tail.
use Rattle.std.proofs.Common.{ap}
use Rattle.queue_table.specs.declared.links.Links.{Links}
use Rattle.queue_table.proofs.Tables.{after-none, after-some}
use Rattle.queue_table.proofs.table.QueueTable.next_after.Goals as goal

pub returns-then-next-clause-next : goal.returns-then-next-clause-next
returns-then-next-clause-next g c = after-some c.args.self.now c.args.p _ c.requires.present (ap (λ (r : Links). r.next) c.links-next.ensures.entry) c.if-next.true

pub returns-else-next-clause-next : goal.returns-else-next-clause-next
returns-else-next-clause-next g c = after-none c.args.self.now c.args.p _ c.requires.present (ap (λ (r : Links). r.next) c.links-next.ensures.entry) c.if-next.false

use Rattle.std.proofs.Common.{◌≡◌, ◌∙◌, sym, rules, w32, to_z, of_z}
use Rattle.queue_table.specs.Table.{lists}
use Rattle.semaphores.specs.Counts.{entry_at}
use Rattle.semaphores.proofs.Counting.{count_at}
use Rattle.semaphores.proofs.sems.Sems.count.Goals as goal

pub returns-clause-count : goal.returns-clause-count
returns-clause-count c p m ticks =
    let k = c.args.self.now in
    let e : to_z w32 (of_z w32 c.entry_of.result.count) ≡ (entry_at k.entries c.args.sem).count = search rules in
    e ∙ sym (count_at (lists c.args.lists.now) p k c.args.sem m ticks c.requires.counts c.entry_of.ensures.within)

use Rattle.std.proofs.Common.{◌∙◌, List, ap, refl, length}
use Rattle.queue_table.specs.Lists.{Entry}
use Rattle.queue_table.specs.Table.{lists}
use Rattle.process_core.specs.Tables.{semaphore_of, tables_of}
use Rattle.xinu_model.specs.Semaphores.Counts.{with_semaphore}
use Rattle.semaphores.specs.Counts.{beside, mark_in, no_entry}
use Rattle.semaphores.proofs.Counting.{counts_changed, entered}
use Rattle.semaphores.proofs.sems.Sems.delete.Goals as goal

pub returns-clause-deleted : goal.returns-clause-deleted
returns-clause-deleted c p m ticks =
    let ls = lists c.args.lists.now in
    let k = c.args.self.now in
    rw (c.set_entry.ensures.sems, c.free_entry.ensures.entry)
    (entered ls p k c.args.sem no_entry m ticks c.set_entry.ensures.within
    ∙ ap (λ (l : List Entry). with_semaphore c.args.sem (semaphore_of l (mark_in no_entry))
    (tables_of ls p (beside k m ticks))) c.requires.empty)

pub returns-clause-counts : goal.returns-clause-counts
returns-clause-counts c =
    let ls = lists c.args.lists.now in
    rw (c.set_entry.ensures.sems, c.free_entry.ensures.entry)
    (counts_changed ls ls c.args.self.now.entries c.args.sem no_entry c.requires.counts c.set_entry.ensures.within
    (ap length c.requires.empty) (λ e. refl) (λ r lr n. refl))

use Rattle.queue_table.specs.Table.{lists}
use Rattle.xinu_model.specs.Tables.{no_process}
use Rattle.process_core.proofs.Removals.{changed}
use Rattle.process_core.proofs.procs.Procs.free_part.Goals as goal

pub returns-clause-freed : goal.returns-clause-freed
returns-clause-freed c b m =
    rw (c.set_process.ensures.procs, c.free_entry.ensures.entry) (changed (lists c.args.lists.now) c.args.self.now b c.args.p no_process m c.requires.absent)

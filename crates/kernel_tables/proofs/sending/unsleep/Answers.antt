use Rattle.std.proofs.Common.{◌∙◌, ap}
use Rattle.queue_table.specs.Table.{lists}
use Rattle.process_core.specs.Tables.{tables_of}
use Rattle.process_core.proofs.Moves.{ready-left}
use Rattle.xinu_model.specs.Process.Scheduling.{ready}
use Rattle.kernel_tables.proofs.sending.unsleep.Goals as goal

pub returns-then-is_timed-clause-left : goal.returns-then-is_timed-clause-left
returns-then-is_timed-clause-left c b =
    ap (ready c.args.p) (c.cancel.ensures.cancelled c.args.procs.now b)
    ∙ ready-left c.args.p (tables_of (lists c.args.lists.now) c.args.procs.now b)

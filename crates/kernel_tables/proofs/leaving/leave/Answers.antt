use Rattle.std.proofs.Common.{◌∙◌, ap}
use Rattle.queue_table.specs.Table.{lists}
use Rattle.process_core.specs.Tables.{tables_of}
use Rattle.process_core.proofs.Moves.{move_twice}
use Rattle.semaphores.specs.Counts.{beside}
use Rattle.xinu_base.specs.declared.processes.State.TheVariants.{Suspended}
use Rattle.xinu_model.specs.Process.Scheduling.{in_state}
use Rattle.xinu_model.specs.Tables.{message_at, move_to, Nowhere, process_at}
use Rattle.kernel_tables.proofs.leaving.leave.Goals as goal

pub returns-in-Ready-clause-left : goal.returns-in-Ready-clause-left
returns-in-Ready-clause-left c x m messages ticks =
    let b = beside c.args.sems.now messages ticks in
    let t = tables_of (lists c.args.lists.now) c.args.procs.now b in
    let p = c.args.p in
    ap (move_to p x m Nowhere) (c.suspend_ready.ensures.suspended b)
    ∙ move_twice p (in_state Suspended (process_at t p)) x (message_at t p) m Nowhere t

pub returns-in-Waiting-clause-left : goal.returns-in-Waiting-clause-left
returns-in-Waiting-clause-left c x m messages ticks =
    let t = tables_of (lists c.args.lists.now) c.args.procs.now (beside c.args.sems.now messages ticks) in
    let p = c.args.p in
    ap (move_to p x m Nowhere) (c.forget_waiter.ensures.forgotten c.args.procs.now messages ticks)
    ∙ move_twice p (process_at t p) x (message_at t p) m Nowhere t

pub returns-in-Sleeping-clause-left : goal.returns-in-Sleeping-clause-left
returns-in-Sleeping-clause-left c x m messages ticks =
    let b = beside c.args.sems.now messages ticks in
    let t = tables_of (lists c.args.lists.now) c.args.procs.now b in
    let p = c.args.p in
    ap (move_to p x m Nowhere) (c.cancel.ensures.cancelled c.args.procs.now b)
    ∙ move_twice p (process_at t p) x (message_at t p) m Nowhere t

use Rattle.std.proofs.Common.{◌∙◌, true, sym, ap, Some, cond, set}
use Rattle.queue_table.specs.Table.{lists}
use Rattle.process_core.specs.Tables.{tables_of}
use Rattle.semaphores.specs.Counts.{beside}
use Rattle.xinu_model.specs.Machine.{with_tables}
use Rattle.xinu_model.specs.Process.Scheduling.{ready}
use Rattle.kernel_tables.proofs.Sent.{sent_refused, sent_kept, sent_readies}
use Rattle.kernel_tables.proofs.sending.deliver.Goals as goal

pub returns-then-not-accept-clause-sent : goal.returns-then-not-accept-clause-sent
unfolding tables_of
returns-then-not-accept-clause-sent c d sems ticks e =
    rw (c.accept.ensures.slots, c.if-not-accept.true)
    (sent_refused c.args.p c.args.m d _ e (sym c.accept.ensures.accepts ∙ c.if-not-accept.true))

pub returns-then-not-listens-clause-sent : goal.returns-then-not-listens-clause-sent
unfolding tables_of
returns-then-not-listens-clause-sent c d sems ticks e =
    rw (c.accept.ensures.slots, c.if-not-accept.false)
    (sent_kept c.args.p c.args.m d _ e (sym c.accept.ensures.accepts ∙ c.if-not-accept.false)
    (sym c.listens.ensures.listens ∙ c.if-not-listens.true))

pub returns-clause-sent : goal.returns-clause-sent
unfolding tables_of
returns-clause-sent c d sems ticks e =
    sent_readies c.args.p c.args.m d _ e (sym c.accept.ensures.accepts ∙ c.if-not-accept.false)
    (sym c.listens.ensures.listens ∙ c.if-not-listens.false)
    ∙ ap (λ t. record (with_tables t d) { owes_resched = true }) (sym (c.ready_defer.ensures.readied (beside sems c.accept.new.slots ticks)
    ∙ c.unsleep.ensures.left (beside sems c.accept.new.slots ticks)
    ∙ ap (λ s. ready c.args.p (tables_of (lists c.args.lists.now) c.args.procs.now (beside sems s ticks)))
    (c.accept.ensures.slots ∙ ap (λ b. cond b (set c.args.slots.now c.args.p (Some c.args.m)) c.args.slots.now) c.if-not-accept.false)))

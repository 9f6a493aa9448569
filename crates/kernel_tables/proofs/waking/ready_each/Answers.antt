use Rattle.std.proofs.Common.{◌+◌, ℕ, List, drop, subst}
use Rattle.queue_table.specs.Table.{lists}
use Rattle.queue_table.proofs.Laws.{queues_of}
use Rattle.kernel_tables.proofs.Wakeups.{IsReadying, next_left, one_readied}
use Rattle.kernel_tables.proofs.waking.ready_each.Goals as goal

pub loop-p-preserved : goal.loop-p-preserved
loop-p-preserved c =
    let ls0 = lists c.args.lists.now in
    let s0 = c.args.procs.now in
    let due = c.args.due.now in
    let A : List ℕ → Type 0 = λ left. IsReadying ls0 s0 due left (lists c.loop-p.lists) c.loop-p.procs in
    one_readied ls0 s0 due (drop (c.loop-p.p-index + 1) due) c.p-item.result _ (lists c.loop-p.lists) c.loop-p.procs
    (lists c.ready_defer.new.lists) c.ready_defer.new.self
    (subst A (next_left due c.loop-p.p-index c.p-item.result c.loop-p-test.true c.p-item.is) c.loop-p.invariant)
    (queues_of c.loop-p.lists) c.ready_defer.ensures.lists c.ready_defer.ensures.readied c.ready_defer.ensures.others c.ready_defer.ensures.fits

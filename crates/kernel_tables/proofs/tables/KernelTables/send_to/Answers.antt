use Rattle.std.proofs.Common.{◌∙◌, ap, refl, subst, sym}
use Rattle.process_core.specs.Tables.{tables_of}
use Rattle.process_core.proofs.Inside.{inside_fits}
use Rattle.queue_table.specs.Table.{lists}
use Rattle.semaphores.specs.Counts.{beside}
use Rattle.xinu_model.specs.Machine.{CallState}
use Rattle.xinu_model.specs.Sound.Tables.{IsInside}
use Rattle.table_laws.proofs.Tables.Deaths.{inside_sent}
use Rattle.kernel_tables.specs.KernelTables.{kernel_tables}
use Rattle.kernel_tables.proofs.Queues.{inside_placed, queues_later}
use Rattle.kernel_tables.proofs.Sent.{with_these}
use Rattle.kernel_tables.proofs.tables.KernelTables.send_to.Goals as goal

pub deliver-requires-clause-fits : goal.deliver-requires-clause-fits
deliver-requires-clause-fits c = let k = c.self.inside in inside_fits k.lists k.procs
    (beside k.sems k.slots k.clock) c.self.invariant.inside

pub deliver-requires-clause-placed : goal.deliver-requires-clause-placed
deliver-requires-clause-placed c = let k = c.self.inside in inside_placed k.lists k.procs
    (beside k.sems k.slots k.clock) c.self.invariant.inside

pub invariant_of-self : goal.invariant_of-self
invariant_of-self c =
    let k = c.self.inside in
    let d = with_these (kernel_tables k) in
    let e = ap (λ (d : CallState). d.state.tables) (c.deliver.ensures.sent d k.sems k.clock refl)
    ∙ ap (λ n. tables_of (lists c.deliver.new.lists) c.deliver.new.procs (beside k.sems c.deliver.new.slots n))
    (sym c.deliver.ensures.same) in
    record {
      inside = subst IsInside e (inside_sent c.args.p c.args.m d c.self.invariant.inside);
      queues = queues_later (lists k.lists)
          (lists c.deliver.new.lists) k.sems.entries c.self.invariant.queues c.deliver.ensures.others c.deliver.ensures.later;
    }

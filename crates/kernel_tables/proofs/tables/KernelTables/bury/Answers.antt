use Rattle.std.proofs.Common.{◌∙◌, ap, sym, subst, None}
use Rattle.process_core.specs.Tables.{tables_of}
use Rattle.process_core.proofs.Inside.{inside_fits}
use Rattle.queue_table.specs.Table.{lists}
use Rattle.xinu_model.specs.Sound.Tables.{IsInside}
use Rattle.xinu_model.specs.Tables.{no_process, Nowhere}
use Rattle.table_laws.proofs.Tables.Deaths.{can_move_free}
use Rattle.table_laws.proofs.Tables.MoveTo.{inside_move}
use Rattle.kernel_tables.specs.KernelTables.{kernel_tables}
use Rattle.semaphores.specs.Counts.{beside}
use Rattle.kernel_tables.proofs.Queues.{inside_placed}
use Rattle.kernel_tables.proofs.tables.KernelTables.bury.Goals as goal

pub bury-requires-clause-fits : goal.bury-requires-clause-fits
bury-requires-clause-fits c = let k = c.self.inside in inside_fits k.lists k.procs (beside k.sems k.slots k.clock) c.self.invariant.inside

pub bury-requires-clause-placed : goal.bury-requires-clause-placed
bury-requires-clause-placed c = let k = c.self.inside in inside_placed k.lists k.procs
    (beside k.sems k.slots k.clock) c.self.invariant.inside

pub invariant_of-self : goal.invariant_of-self
invariant_of-self c =
    let k = c.self.inside in
    let t = kernel_tables k in
    let e = sym (ap (λ n. tables_of (lists c.bury.new.lists) c.bury.new.procs
    (beside c.bury.new.sems c.bury.new.slots n)) c.bury.ensures.same ∙ c.bury.ensures.buried k.clock) in
    record {
      inside = subst IsInside e (inside_move t c.args.p no_process None Nowhere c.self.invariant.inside
          (can_move_free t c.args.p c.bury.ensures.within c.requires.not_null));
      queues = c.bury.ensures.queues;
    }

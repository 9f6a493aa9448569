use Rattle.std.proofs.Common.{◌≡◌, ◌∙◌, ap, rules, sym, subst, w16}
use Rattle.std.proofs.lemmas.Int.{to_z-of_z}
use mir.Val.{SFits}
use Rattle.xinu_model.specs.Process.Calls.{with_priority}
use Rattle.queue_table.specs.Table.{lists}
use Rattle.process_core.proofs.Inside.{inside_fits}
use Rattle.xinu_model.specs.Sound.Tables.{IsInside}
use Rattle.kernel_tables.specs.KernelTables.{kernel_tables}
use Rattle.semaphores.specs.Counts.{beside}
use Rattle.kernel_tables.proofs.Queues.{queues_kept}
use Rattle.kernel_tables.proofs.Inside.{inside_with_priority}
use Rattle.kernel_tables.proofs.tables.KernelTables.set_priority.Goals as goal

pub set_priority-requires : goal.set_priority-requires
set_priority-requires c = let k = c.self.inside in record {
  fits = inside_fits k.lists k.procs
      (beside k.sems k.slots k.clock) c.self.invariant.inside;
}

pub invariant_of-self : goal.invariant_of-self
invariant_of-self c =
    let k = c.self.inside in
    let t = kernel_tables k in
    let f : SFits w16 c.args.n = search rules in
    let e : with_priority c.args.p c.args.n t
    ≡ kernel_tables (record { lists = c.set_priority.new.lists; procs = c.set_priority.new.self; sems = k.sems; slots = k.slots; clock = k.clock })
    = sym (c.set_priority.ensures.prioritized (beside k.sems k.slots k.clock)
    ∙ ap (λ n. with_priority c.args.p n t) (to_z-of_z w16 c.args.n f)) in
    record {
      inside = subst IsInside e (inside_with_priority t c.args.p c.args.n c.self.invariant.inside (rw c.self.view_is c.requires.alive));
      queues = queues_kept (lists k.lists)
          (lists c.set_priority.new.lists) k.sems.entries c.self.invariant.queues c.set_priority.ensures.others;
    }

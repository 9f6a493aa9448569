use Rattle.std.proofs.Common.{◌≡◌, ◌∙◌, ap, rules, sym, subst, w32}
use Rattle.std.proofs.lemmas.Int.{to_z-of_z}
use mir.Val.{SFits}
use Rattle.process_core.proofs.Inside.{inside_fits}
use Rattle.queue_table.specs.Table.{lists}
use Rattle.semaphores.specs.Counts.{beside}
use Rattle.xinu_base.specs.declared.processes.State.TheVariants.{Waiting}
use Rattle.xinu_model.specs.Sound.Tables.{IsInside}
use Rattle.xinu_model.specs.Tables.{state_at}
use Rattle.kernel_tables.specs.KernelTables.{kernel_tables}
use Rattle.kernel_tables.proofs.Inside.{answered, inside_replied}
use Rattle.kernel_tables.proofs.Queues.{inside_placed, state_in}
use Rattle.kernel_tables.proofs.tables.KernelTables.keep_reply.Goals as goal

pub ready_waiter-requires-clause-waits : goal.ready_waiter-requires-clause-waits
ready_waiter-requires-clause-waits c =
    let k = c.self.inside in
    let h : state_at (kernel_tables k) c.args.p ≡ Waiting = rw c.self.view_is c.requires.waits in
    sym (state_in (lists k.lists) k.procs (beside k.sems k.slots k.clock) c.args.p) ∙ h

pub ready_waiter-requires-clause-fits : goal.ready_waiter-requires-clause-fits
ready_waiter-requires-clause-fits c = let k = c.self.inside in inside_fits k.lists k.procs (beside k.sems k.slots k.clock) c.self.invariant.inside

pub ready_waiter-requires-clause-placed : goal.ready_waiter-requires-clause-placed
ready_waiter-requires-clause-placed c = let k = c.self.inside in inside_placed k.lists k.procs
    (beside k.sems k.slots k.clock) c.self.invariant.inside

pub invariant_of-self : goal.invariant_of-self
invariant_of-self c =
    let k = c.self.inside in
    let t = kernel_tables k in
    let h : state_at t c.args.p ≡ Waiting = rw c.self.view_is c.requires.waits in
    let f : SFits w32 c.args.reply = search rules in
    record {
      inside = subst IsInside
          (sym (c.ready_waiter.ensures.ready k.slots k.clock ∙ ap (λ z. answered c.args.p z t) (to_z-of_z w32 c.args.reply f)))
          (inside_replied t c.args.p c.args.reply c.self.invariant.inside c.ready_waiter.ensures.within h);
      queues = c.ready_waiter.ensures.queues;
    }

pub returns : goal.returns
returns c =
    let k = c.self.inside in
    let t = kernel_tables k in
    let f : SFits w32 c.args.reply = search rules in
    record {
      kept = c.ready_waiter.ensures.ready k.slots k.clock
          ∙ ap (λ z. answered c.args.p z t) (to_z-of_z w32 c.args.reply f)
          ∙ ap (answered c.args.p c.args.reply) c.self.view_is;
    }

use Rattle.std.proofs.Common.{◌≡◌, ◌∙◌, ap, sym, subst, arith, ◌<◌, None, refl, rules, w16}
use Rattle.std.proofs.lemmas.Int.{to_z-of_z}
use mir.Val.{SFits, of_z, to_z}
use Rattle.queue_table.specs.Table.{lists}
use Rattle.process_core.proofs.Inside.{inside_fits}
use Rattle.xinu_base.specs.declared.processes.State.TheVariants.{Free}
use Rattle.xinu_model.specs.Sound.Tables.{IsInside}
use Rattle.xinu_model.specs.Tables.{state_at}
use Rattle.kernel_tables.specs.KernelTables.{kernel_tables}
use Rattle.semaphores.specs.Counts.{beside}
use Rattle.process_core.specs.Starts.{padded}
use Rattle.xinu_model.specs.Process.Creation.{new_process}
use Rattle.xinu_model.specs.Tables.{move_to, Nowhere}
use Rattle.kernel_tables.proofs.Queues.{state_in}
use Rattle.kernel_tables.proofs.Inside.{inside_made}
use Rattle.kernel_tables.proofs.tables.KernelTables.make.Goals as goal

pub make-requires-clause-free : goal.make-requires-clause-free
make-requires-clause-free c =
    let k = c.self.inside in
    let h : state_at (kernel_tables k) c.args.p ≡ Free = rw c.self.view_is c.requires.free in
    sym (state_in (lists k.lists) k.procs (beside k.sems k.slots k.clock) c.args.p) ∙ h

pub returns : goal.returns
returns c =
    let k = c.self.inside in
    let t = kernel_tables k in
    let b = beside k.sems k.slots k.clock in
    let p = c.args.p in
    let f : SFits w16 c.args.priority = search rules in
    record {
      made = rw (c.clear.ensures.slots, ← c.self.view_is)
          (c.make.ensures.made (lists k.lists) b None (inside_fits k.lists k.procs b c.self.invariant.inside)
          ∙ ap (λ n. record (move_to p (new_process
          (padded c.args.name.now) n c.args.parent c.args.stack.0 c.args.stack.1) None Nowhere t) { last_process = p })
          (to_z-of_z w16 c.args.priority f));
    }

pub invariant_of-self : goal.invariant_of-self
invariant_of-self c =
    let k = c.self.inside in
    let t = kernel_tables k in
    let b = beside k.sems k.slots k.clock in
    let e = sym (c.make.ensures.made (lists k.lists) b None (inside_fits k.lists k.procs b c.self.invariant.inside)) in
    let x = new_process (padded c.args.name.now) (to_z w16 (of_z w16 c.args.priority)) c.args.parent c.args.stack.0 c.args.stack.1 in
    let within : c.args.p < 64 = (let i = c.index.ensures.bound in let j = c.index.ensures.index in omega (arith, i, j)) in
    record {
      inside = rw c.clear.ensures.slots
          (subst IsInside e (inside_made t c.args.p x c.self.invariant.inside within (rw c.self.view_is c.requires.free) refl refl));
      queues = c.self.invariant.queues;
    }

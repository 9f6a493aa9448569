use Rattle.std.proofs.Common.{arith}
use Rattle.queue_table.specs.Table.{lists}
use Rattle.queue_table.proofs.Laws.{disjoint, list_at-other}
use Rattle.xinu_base.specs.declared.processes.State.TheVariants.{Suspended}
use Rattle.xinu_model.specs.Process.Scheduling.{in_state}
use Rattle.process_core.specs.Tables.{process_in, tables_of}
use Rattle.process_core.proofs.Fitting.{fits_taken}
use Rattle.process_core.proofs.Removals.{all_without_at, taken_quietly}
use Rattle.process_core.proofs.procs.Procs.suspend_ready.Goals as goal

pub returns-clause-lists : goal.returns-clause-lists
returns-clause-lists c =
    rw (c.remove.ensures.lists, c.index.ensures.index) (all_without_at c.args.lists.now c.args.p 128 (c.requires.fits.ready c.args.p c.requires.ready))

pub returns-clause-suspended : goal.returns-clause-suspended
unfolding tables_of
returns-clause-suspended c b =
    let t = c.args.lists.now in
    let s = c.args.self.now in
    rw (c.remove.ensures.lists, c.set_state.ensures.procs, c.index.ensures.index)
    (taken_quietly (lists t) s b c.args.p (in_state Suspended (process_in s.processes c.args.p))
    (disjoint t c.args.p 128 129 (c.requires.fits.ready c.args.p c.requires.ready) (λ e. omega arith)))

pub returns-clause-others : goal.returns-clause-others
returns-clause-others c q n =
    let t = c.args.lists.now in
    rw (c.remove.ensures.lists, c.index.ensures.index, all_without_at t c.args.p 128 (c.requires.fits.ready c.args.p c.requires.ready))
    (list_at-other (lists t) 128 _ q n)

pub returns-clause-fits : goal.returns-clause-fits
returns-clause-fits c =
    let s = c.args.self.now in
    rw (c.remove.ensures.lists, c.set_state.ensures.procs, c.index.ensures.index)
    (fits_taken (lists c.args.lists.now) s.processes c.args.p (in_state Suspended (process_in s.processes c.args.p)) c.requires.fits
    (omega (arith, c.index.ensures.index, c.index.ensures.bound)) (λ e. (cc)))

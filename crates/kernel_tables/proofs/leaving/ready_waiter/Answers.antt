use Rattle.std.proofs.Common.{◌∙◌, ◌<◌, ap, refl, subst, sym}
use Rattle.process_core.proofs.Fitting.{fits_same_state}
use Rattle.process_core.specs.Fits.{Fits}
use Rattle.process_core.specs.Tables.{process_in, ProcessTable, tables_of}
use Rattle.queue_table.specs.Table as table
use Rattle.semaphores.specs.Counts.{beside}
use Rattle.xinu_base.specs.declared.processes.Process.{Process}
use Rattle.xinu_model.specs.Process.Scheduling.{ready}
use Rattle.kernel_tables.proofs.Replied.{listed_in, replied_once}
use Rattle.kernel_tables.proofs.leaving.ready_waiter.Goals as goal

pub ready_defer-requires-clause-fits : goal.ready_defer-requires-clause-fits
ready_defer-requires-clause-fits c =
    let ls = table.lists c.forget_waiter.new.lists in
    let s = c.args.procs.now in
    let x : Process = record (process_in s.processes c.args.p) { rest = c.args.rest } in
    subst (λ (u : ProcessTable). Fits ls u.processes) (sym c.set_rest.ensures.procs)
    (fits_same_state ls s.processes c.args.p x (c.forget_waiter.ensures.fits s.processes c.requires.fits)
    (subst (λ n. n < 64) c.index.ensures.index c.index.ensures.bound) refl)

pub returns-clause-ready : goal.returns-clause-ready
returns-clause-ready c messages ticks =
    let ls = table.lists c.forget_waiter.new.lists in
    let s = c.args.procs.now in
    let b = beside c.forget_waiter.new.self messages ticks in
    let t = tables_of (table.lists c.args.lists.now) s (beside c.args.sems.now messages ticks) in
    c.ready_defer.ensures.readied b
    ∙ ap (λ (u : ProcessTable). ready c.args.p (tables_of ls u b)) c.set_rest.ensures.procs
    ∙ replied_once ls s b t c.args.p c.args.rest c.forget_waiter.ensures.absent
    (listed_in (table.lists c.args.lists.now) s (beside c.args.sems.now messages ticks) c.args.p c.requires.waits)
    (c.forget_waiter.ensures.forgotten s messages ticks)

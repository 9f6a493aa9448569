use Rattle.std.proofs.Common.{◌∙◌, sym, ap, rules, arith}
use Rattle.queue_table.specs.Lists.{list_at, rest_of}
use Rattle.queue_table.specs.Table.{lists}
use Rattle.queue_table.proofs.Laws.{disjoint, first_is, first_none, first_placed, rest_of_none}
use Rattle.xinu_base.specs.declared.processes.State.TheVariants.{Current}
use Rattle.xinu_model.specs.Process.Scheduling as model
use Rattle.process_core.specs.Tables.{process_in, tables_of}
use Rattle.process_core.proofs.Fitting.{fits_taken}
use Rattle.process_core.proofs.Removals.{rest_is_without, taken_quietly}
use Rattle.process_core.proofs.procs.Procs.dispatch_first.Goals as goal

pub returns-in-Some-clause-dispatches : goal.returns-in-Some-clause-dispatches
unfolding tables_of
returns-in-Some-clause-dispatches c b =
    let t = c.args.lists.now in
    let s = c.args.self.now in
    let p = c.in-Some.first in
    let l = rest_of (list_at (lists t) 128) in
    let f = first_is (list_at (lists t) 128) p c.in-Some.ensures.first in
    let at = first_placed t 128 (p, f.0) l (omega arith) f.1 in
    rw (c.dequeue.ensures.lists, c.set_current.ensures.procs, c.at-next.ensures.number, rest_is_without t 128 (p, f.0) l (omega arith) f.1)
    (taken_quietly (lists t) (record s { current = p; quantum = 2 }) b p (model.in_state Current (process_in s.processes p)) (disjoint t p 128 129 at.0 (λ e. omega arith))
    ∙ ap (λ l. model.dispatch_first l (tables_of (lists t) s b)) (sym f.1))

pub returns-in-Some-clause-fits : goal.returns-in-Some-clause-fits
returns-in-Some-clause-fits c =
    let t = c.args.lists.now in
    let s = c.args.self.now in
    let p = c.in-Some.first in
    let l = rest_of (list_at (lists t) 128) in
    let f = first_is (list_at (lists t) 128) p c.in-Some.ensures.first in
    rw (c.dequeue.ensures.lists, c.set_current.ensures.procs, c.at-next.ensures.number, rest_is_without t 128 (p, f.0) l (omega arith) f.1)
    (fits_taken (lists t) s.processes p (model.in_state Current (process_in s.processes p)) c.requires.fits (search rules) (λ e. (cc)))

pub returns-in-None-clause-dispatches : goal.returns-in-None-clause-dispatches
returns-in-None-clause-dispatches c b =
    let t = c.args.lists.now in
    rw (c.dequeue.ensures.lists, rest_of_none (lists t) 128 c.in-None.ensures.first)
    (ap (λ l. model.dispatch_first l (tables_of (lists t) c.args.self.now b)) (sym (first_none (list_at (lists t) 128) c.in-None.ensures.first)))

pub returns-in-None-clause-fits : goal.returns-in-None-clause-fits
returns-in-None-clause-fits c =
    let t = c.args.lists.now in
    rw (c.dequeue.ensures.lists, rest_of_none (lists t) 128 c.in-None.ensures.first) c.requires.fits

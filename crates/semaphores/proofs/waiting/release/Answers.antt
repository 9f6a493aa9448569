use Rattle.std.proofs.Common.{◌∙◌, ◌<◌, sym, ap, arith, take}
use Rattle.queue_table.specs.Lists.{list_at, rest_of}
use Rattle.queue_table.specs.Table.{lists}
use Rattle.queue_table.proofs.Laws.{first_is, first_none, place_rest, rest_of_none}
use Rattle.xinu_model.specs.Process.Scheduling.{ready, ready_all}
use Rattle.process_core.specs.Tables.{numbers, tables_of}
use Rattle.process_core.proofs.Moves.{ready-left}
use Rattle.semaphores.proofs.Releasing.{first_left, first_left_fits}
use Rattle.semaphores.proofs.waiting.release.Goals as goal

pub ready_defer-requires-clause-absent : goal.ready_defer-requires-clause-absent
ready_defer-requires-clause-absent c =
    let t = c.args.lists.now in
    let sem = c.index.result in
    let f = first_is (list_at (lists t) sem) c.in-Some.first c.in-Some.ensures.first in
    let b : sem < 128 = c.index.ensures.bound in
    rw (c.dequeue.ensures.lists, c.at-p.ensures.number)
    ((place_rest t sem (c.in-Some.first, f.0) (rest_of (list_at (lists t) sem)) (omega arith) f.1).0)

pub ready_defer-requires-clause-fits : goal.ready_defer-requires-clause-fits
ready_defer-requires-clause-fits c =
    let t = c.args.lists.now in
    let sem = c.index.result in
    let f = first_is (list_at (lists t) sem) c.in-Some.first c.in-Some.ensures.first in
    rw c.dequeue.ensures.lists
    (first_left_fits t c.args.procs.now.processes sem (c.in-Some.first, f.0)
    (rest_of (list_at (lists t) sem)) c.index.ensures.bound f.1 c.requires.fits)

pub returns-in-Some-clause-readied : goal.returns-in-Some-clause-readied
returns-in-Some-clause-readied c b =
    let t = c.args.lists.now in
    let sem = c.index.result in
    let s = c.args.procs.now in
    let p = c.in-Some.first in
    let f = first_is (list_at (lists t) sem) p c.in-Some.ensures.first in
    let l = rest_of (list_at (lists t) sem) in
    let u = tables_of (lists t) s b in
    c.ready_defer.ensures.readied b
    ∙ ap (λ q. ready q (tables_of (lists c.dequeue.new.self) s b)) c.at-p.ensures.number
    ∙ ap (λ ls. ready p (tables_of ls s b)) c.dequeue.ensures.lists
    ∙ ap (ready p) (first_left t s b sem (p, f.0) l c.index.ensures.bound f.1)
    ∙ ready-left p u
    ∙ ap (λ m. ready_all (take 1 (numbers m)) u) (sym f.1)
    ∙ ap (λ q. ready_all (take 1 (numbers (list_at (lists t) q))) u) c.index.ensures.index

pub returns-in-None-clause-readied : goal.returns-in-None-clause-readied
returns-in-None-clause-readied c b =
    let t = c.args.lists.now in
    let sem = c.index.result in
    let u = tables_of (lists t) c.args.procs.now b in
    let none = first_none (list_at (lists t) sem) c.in-None.ensures.first in
    ap (λ ls. tables_of ls c.args.procs.now b) (c.dequeue.ensures.lists ∙ rest_of_none (lists t) sem c.in-None.ensures.first)
    ∙ ap (λ m. ready_all (take 1 (numbers m)) u) (sym none)
    ∙ ap (λ q. ready_all (take 1 (numbers (list_at (lists t) q))) u) c.index.ensures.index

pub returns-in-None-clause-fits : goal.returns-in-None-clause-fits
returns-in-None-clause-fits c =
    rw (c.dequeue.ensures.lists, rest_of_none (lists c.args.lists.now) c.index.result c.in-None.ensures.first) c.requires.fits

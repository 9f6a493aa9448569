use Rattle.std.proofs.Common.{refl, rules, arith}
use Rattle.queue_table.specs.Table.{lists}
use Rattle.queue_table.proofs.Laws.{queues_of}
use Rattle.xinu_base.specs.declared.processes.State.TheVariants.{Ready}
use Rattle.xinu_model.specs.Process.Scheduling.{in_state}
use Rattle.xinu_model.specs.Tables.{message_at}
use Rattle.process_core.specs.Tables.{process_in, tables_of, with_state}
use Rattle.process_core.proofs.Fitting.{fits_ready}
use Rattle.process_core.proofs.Moves.{then_ready}
use Rattle.process_core.proofs.Removals.{changed_quietly}
use Rattle.process_core.proofs.procs.Procs.ready_defer.Goals as goal

pub returns-clause-readied : goal.returns-clause-readied
unfolding tables_of
returns-clause-readied c b =
    let ls = lists c.args.lists.now in
    let s = c.args.self.now in
    let x = in_state Ready (process_in s.processes c.args.p) in
    rw (c.insert.ensures.lists, c.set_state.ensures.procs, c.index.ensures.index)
    (then_ready ls (with_state c.args.p Ready s) b (tables_of ls s b) c.args.p x (message_at (tables_of ls s b) c.args.p) _ (queues_of c.args.lists.now) (search rules)
    (changed_quietly ls s b c.args.p x c.requires.absent))

pub returns-clause-fits : goal.returns-clause-fits
returns-clause-fits c =
    let t = c.args.lists.now in
    let s = c.args.self.now in
    rw (c.insert.ensures.lists, c.set_state.ensures.procs, c.index.ensures.index)
    (fits_ready (lists t) s.processes c.args.p (in_state Ready (process_in s.processes c.args.p)) _ c.requires.fits (queues_of t)
    (omega (arith, c.index.ensures.index, c.index.ensures.bound)) c.requires.absent refl)

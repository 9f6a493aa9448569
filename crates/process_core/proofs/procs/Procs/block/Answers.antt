use Rattle.xinu_model.specs.Process.Scheduling.{in_state}
use Rattle.process_core.specs.Tables.{process_in, tables_of}
use Rattle.process_core.proofs.Fitting.{blocked_not_ready, current_nowhere, fits_changed, running_within}
use Rattle.process_core.proofs.Removals.{changed_quietly}
use Rattle.process_core.proofs.procs.Procs.block.Goals as goal

pub returns-clause-blocked : goal.returns-clause-blocked
unfolding tables_of
returns-clause-blocked c ls b f =
    let s = c.args.self.now in
    rw (c.set_state.ensures.procs, c.current-current.ensures.current)
    (changed_quietly ls s b s.current (in_state c.args.state (process_in s.processes s.current)) (current_nowhere ls s.processes s.current f c.requires.runs))

pub returns-clause-fits : goal.returns-clause-fits
returns-clause-fits c ls f =
    let s = c.args.self.now in
    rw (c.set_state.ensures.procs, c.current-current.ensures.current)
    (fits_changed ls s.processes s.current (in_state c.args.state (process_in s.processes s.current)) f
    (running_within ls s.processes s.current f c.requires.runs) (current_nowhere ls s.processes s.current f c.requires.runs) (blocked_not_ready c.args.state c.requires.blocks))

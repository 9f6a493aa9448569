use Rattle.kernel_tables.proofs.Running.{goes_on_once}
use Rattle.kernel_tables.proofs.current.end_rest.Goals as goal

pub returns : goal.returns
returns c = record {
  goes_on = λ ls b f. rw (c.set_rest.ensures.procs, c.current-current.ensures.current)
      (goes_on_once ls c.args.procs.now b f c.requires.runs);
}

use Rattle.std.proofs.Common.{◌≡◌, ap, rules}
use Rattle.xinu_model.specs.Process.Creation.{new_process}
use Rattle.xinu_model.specs.Tables.{Tables}
use Rattle.process_core.specs.Starts.{padded}
use Rattle.process_core.specs.Tables.{tables_of, with_process}
use Rattle.process_core.proofs.Fitting.{free_nowhere}
use Rattle.process_core.proofs.Removals.{changed}
use Rattle.process_core.proofs.procs.Procs.make.Goals as goal

pub returns-clause-made : goal.returns-clause-made
unfolding tables_of
returns-clause-made c ls b m f =
    let s = c.args.self.now in
    let x = new_process (padded c.args.name.now) c.args.priority c.args.parent c.args.stack.0 c.args.stack.1 in
    let e : c.set_last.new.self ≡ record (with_process c.args.p x s) { last_process = c.args.p } = search rules in
    rw e (ap (λ (t : Tables). record t { last_process = c.args.p }) (changed ls s b c.args.p x m (free_nowhere ls s.processes c.args.p f c.requires.free)))

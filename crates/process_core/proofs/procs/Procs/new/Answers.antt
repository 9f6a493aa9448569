use Rattle.std.proofs.Common.{List, subst, replicate, rules, []}
use Rattle.xinu_base.specs.declared.processes.Process.{Process}
use Rattle.process_core.specs.Fits.{Fits}
use Rattle.process_core.proofs.Starts.{fits_start}
use Rattle.process_core.proofs.procs.Procs.new.Goals as goal

pub returns-clause-fits : goal.returns-clause-fits
returns-clause-fits c =
    let F : List Process → Type 0 = λ ps. Fits (replicate 130 []) ps in
    subst F (search rules) fits_start

use Rattle.std.proofs.Common.{◌≡◌, subst, sym, replicate, []}
use Rattle.xinu_model.specs.Boot.{null_tables}
use Rattle.process_core.specs.Starts.{first_beside}
use Rattle.semaphores.specs.Counts.{SemaphoreTable, Counts, beside}
use Rattle.semaphores.proofs.Starting.{beside_start, counts_start}
use Rattle.semaphores.proofs.sems.Sems.new.Goals as goal

pub returns-clause-beside : goal.returns-clause-beside
returns-clause-beside c =
    let F : SemaphoreTable → Type 0 = λ s. beside s null_tables.messages 0 ≡ first_beside in
    subst F (sym c.of_kernel.ensures.starts) beside_start

pub returns-clause-counts : goal.returns-clause-counts
returns-clause-counts c =
    let F : SemaphoreTable → Type 0 = λ s. Counts (replicate 130 []) s.entries in
    subst F (sym c.of_kernel.ensures.starts) counts_start

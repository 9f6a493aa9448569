use Rattle.std.proofs.Common.{◌∙◌, None}
use Rattle.xinu_model.specs.Tables.{no_process}
use Rattle.semaphores.specs.Counts.{beside}
use Rattle.kernel_tables.proofs.leaving.bury.Goals as goal

pub returns-clause-buried : goal.returns-clause-buried
returns-clause-buried c ticks =
    rw c.clear.ensures.slots
    (c.free_part.ensures.freed (beside c.leave.new.sems c.args.slots.now ticks) None
    ∙ c.leave.ensures.left no_process None c.args.slots.now ticks)

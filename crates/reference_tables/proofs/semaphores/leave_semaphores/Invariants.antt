use Rattle.std.proofs.Common.{◌≡◌}
use Rattle.xinu_model.specs.Tables as model
use Rattle.reference_tables.proofs.Changes.{changed_below}
use Rattle.reference_tables.proofs.semaphores.leave_semaphores.Given as goal

abbrev pub invariant-loop-x : goal.invariant-loop-x
invariant-loop-x l = l.x-items ≡ changed_below (model.semaphore_without l.p) l.x-index l.fn.list.items

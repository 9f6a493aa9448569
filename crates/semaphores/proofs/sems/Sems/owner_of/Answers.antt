use Rattle.std.proofs.Common.{◌∙◌, sym, ap}
use Rattle.semaphores.specs.declared.sems.SemaphoreEntry.{SemaphoreEntry}
use Rattle.semaphores.proofs.Counting.{owner_at}
use Rattle.semaphores.proofs.sems.Sems.owner_of.Goals as goal

pub returns-clause-owner : goal.returns-clause-owner
returns-clause-owner c ls p m ticks =
    ap (λ (e : SemaphoreEntry). e.owner) c.entry_of.ensures.entry ∙ sym (owner_at ls p c.args.self.now c.args.sem m ticks)

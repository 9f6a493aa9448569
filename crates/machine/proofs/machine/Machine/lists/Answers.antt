use Rattle.std.proofs.Common.{◌∙◌, ap, sym}
use Rattle.xinu_model.specs.Machine.{CallState}
use Rattle.xinu_model.specs.Tables.{semaphore_at}
use Rattle.machine.specs.Printed.{Booted}
use Rattle.machine.proofs.machine.Machine.lists.Goals as goal

pub returns-clause-waiters : goal.returns-clause-waiters
returns-clause-waiters c = λ sem few.
    sym (ap (λ (b : Booted). (semaphore_at b.state.tables sem).waiters) c.self.view_is)
    ∙ sym (ap (λ (d : CallState). (semaphore_at d.state.tables sem).waiters) c.state.ensures.state)
    ∙ c.lists_of.ensures.waiters sem few

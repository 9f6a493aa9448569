-- A host of which nothing is observable was changed in its count alone.
use Rattle.std.proofs.Common.{refl}
use Rattle.host_port.proofs.Answered.{on_ok}
use Rattle.host_port.proofs.real.RealHostHost.fetch.Goals as goal

pub returns-clause-calls : goal.returns-clause-calls
returns-clause-calls g c =
    record { ok = on_ok c.count.result _ refl; failed = λ is. refl; part = (0, refl) }

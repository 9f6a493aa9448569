use Rattle.std.proofs.Common.{refl}
use Rattle.xinu_laws.proofs.Preserve.Events.{ticking_keeps}
use Rattle.xinu_laws.proofs.moments.ticks_keep_all.Goals as goal

pub returns-clause-keeps : goal.returns-clause-keeps
returns-clause-keeps c = ticking_keeps

pub returns-clause-ends : goal.returns-clause-ends
returns-clause-ends c = λ s. refl

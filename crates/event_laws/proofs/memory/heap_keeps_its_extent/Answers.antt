use Rattle.event_laws.proofs.Ownership.ExtentEvents.{extent_happens}
use Rattle.event_laws.proofs.memory.heap_keeps_its_extent.Goals as goal

pub returns : goal.returns
returns c = λ old e lines new k h. let kept = extent_happens old e lines new k h in (kept.low, kept.many)

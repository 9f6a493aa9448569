use Rattle.std.proofs.Common.{refl}
use Rattle.part_laws.proofs.RawDisks.Answered.{asks_in_vain, asker_waits, caller_is_told}
use Rattle.event_laws.proofs.replies.disk_callers_are_answered.Goals as goal

pub returns : goal.returns
returns c = record {
  refused = asks_in_vain;
  waits = asker_waits;
  served = caller_is_told;
  answered = λ reply s. refl;
}

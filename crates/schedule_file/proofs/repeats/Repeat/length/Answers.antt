-- A round has 1081 events.
use Rattle.std.proofs.Common.{sym}
use Rattle.schedule_file.proofs.RoundLemmas.{length-rounds}
use Rattle.schedule_file.proofs.repeats.Repeat.length.Goals as goal

pub returns-in-Rounds-clause-length : goal.returns-in-Rounds-clause-length
returns-in-Rounds-clause-length c = rw c.in-Rounds.is (sym (length-rounds c.in-Rounds.count))

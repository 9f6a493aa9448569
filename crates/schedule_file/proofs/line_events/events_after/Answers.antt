-- Rounds have events.
use Rattle.std.proofs.Common.{arith}
use Rattle.schedule_file.proofs.RoundLemmas.{length-rounds}
use Rattle.schedule_file.proofs.line_events.events_after.Goals as goal

pub returns-in_ok-count-in-Rounds-clause-some : goal.returns-in_ok-count-in-Rounds-clause-some
returns-in_ok-count-in-Rounds-clause-some c =
    omega (arith, length-rounds c.in_ok-count-in-Rounds.count, c.in_ok-count-in-Rounds.ensures.some)

use Rattle.soak_laws.proofs.Runs.{line_says, soak_ends}
use Rattle.soak_laws.proofs.laws.soak_tests_end_with_their_schedule.Goals as goal

pub returns : goal.returns
returns c = record { takes = soak_ends; line = line_says }

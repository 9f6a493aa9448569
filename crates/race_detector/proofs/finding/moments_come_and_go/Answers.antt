-- One moment more, and its deeds are done.
use Rattle.race_detector.proofs.Pairs.{event_found, moment_found}
use Rattle.race_detector.proofs.finding.moments_come_and_go.Goals as goal

pub returns : goal.returns
returns c = record { come = moment_found; go = event_found }

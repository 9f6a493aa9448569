-- The stretches of a round.
use Rattle.std.proofs.Common.{arith}
use Rattle.schedule_file.specs.LineKinds.{round}
use Rattle.schedule_file.proofs.RoundLemmas.{steps_come, tx_comes, disk1_comes, disk0_comes, tick_comes}
use Rattle.schedule_file.proofs.repeats.round_stretch.Goals as goal

pub returns-then-place-lt1000-clause-events : goal.returns-then-place-lt1000-clause-events
unfolding round
returns-then-place-lt1000-clause-events c = steps_come 1000 64 8 8 c.args.place (omega arith)

pub returns-then-place-lt1064-clause-events : goal.returns-then-place-lt1064-clause-events
unfolding round
returns-then-place-lt1064-clause-events c = tx_comes 1000 64 8 8 c.args.place (omega arith) (omega arith)

pub returns-then-place-lt1072-clause-events : goal.returns-then-place-lt1072-clause-events
unfolding round
returns-then-place-lt1072-clause-events c = disk1_comes 1000 64 8 8 c.args.place (omega arith) (omega arith)

pub returns-then-place-lt1080-clause-events : goal.returns-then-place-lt1080-clause-events
unfolding round
returns-then-place-lt1080-clause-events c = disk0_comes 1000 64 8 8 c.args.place (omega arith) (omega arith)

pub returns-else-place-lt1080-clause-events : goal.returns-else-place-lt1080-clause-events
unfolding round
returns-else-place-lt1080-clause-events c = tick_comes 1000 64 8 8 c.args.place (omega arith)

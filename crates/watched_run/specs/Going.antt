-- How far a run that is watched goes: what holds of the run before and of the run where it stopped.
use Rattle.std.specs.Prelude.{◌≡◌, true}
use Rattle.watched_run.specs.Backward.{StopsBack, untold}
use Rattle.watched_run.specs.Moves.{Stops, orders_of, told_by}
use Rattle.watched_run.specs.declared.goals.Goal.{Goal}
use Rattle.watched_run.specs.declared.stopped.Stopped.{Stopped}
use Rattle.watched_run.specs.declared.watched.WatchedRun.{WatchedRun}

-- The run passed all events up to the first with which something stops it, if it is to go so far. It is watched for the same as before, and a
-- trap that stopped it was told.
pub record GoesOnTo (goal : Goal) (old new : WatchedRun) (stopped : Stopped) : Type 0 where
  pub stops : Stops (orders_of goal old) old.replay new.replay stopped
  pub told : orders_of goal new ≡ told_by stopped.stop new.replay.taken (orders_of goal old)

-- The run went back to the last place before it at which anything stops it, if it is to go so far; this is known if it is known what its events
-- printed. It is watched for the same as before, and no trap was told.
pub record GoesBackTo (goal : Goal) (old new : WatchedRun) (stopped : Stopped) : Type 0 where
  pub stops : old.replay.known ≡ true → StopsBack (orders_of goal old) old.replay new.replay stopped
  pub told : orders_of goal new ≡ untold (orders_of goal old)

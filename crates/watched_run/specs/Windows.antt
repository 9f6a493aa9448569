-- A run that looks for where it stops on its way back: it goes back far, and then forward through some events.
use Rattle.std.specs.Prelude.{◌≡◌, ◌<◌, ◌≤◌, ℕ, true, if◌then◌else◌, List, length, Option, Some, None}
use Rattle.gdb_answers.specs.declared.stops.Stop.TheVariants.{Changed, Here}
use Rattle.replayed_run.specs.Replayed.{IsReplayed, IsSameRun, Replayed}
use Rattle.watched_run.specs.Backward.{ArePassedBack, IsPassedBack, IsStoppedBack, StopsBack, stops_back}
use Rattle.watched_run.specs.Moments.{Takes}
use Rattle.watched_run.specs.Stops.{Orders}
use Rattle.watched_run.specs.declared.backward.Found.{Found}
use Rattle.watched_run.specs.declared.stopped.Stopped.{Stopped}
use Rattle.xinu_base.specs.declared.lines.TranscriptLine.{TranscriptLine}
use Rattle.xinu_model.specs.Machine.{Xinu}

-- The run stood at this place, where so many events were taken, and is the same run since.
pub record HasStood (n : ℕ) (place now : Replayed) : Type 0 where
  pub replayed : IsReplayed place
  pub known : place.known ≡ true
  pub taken : place.taken ≡ n
  pub within : n ≤ length place.events
  pub same : IsSameRun place now

-- The run took the event that came next.
pub record TakesNext (old new : Replayed) : Type 0 where
  pub lines : List TranscriptLine
  pub takes : Takes old new lines

-- the stop of a run on its way back ahead of what process p does next, if it stops there
abbrev pub stop_ahead : Orders → Xinu → Option ℕ → Option Stopped
stop_ahead o s None = None
stop_ahead o s (Some p) = if stops_back o s (Some p) then Some (record { stop = Here; process = p }) else None

-- the stop of a run on its way back ahead of an event: that of this process if bytes that are watched changed in it, and else what it is without
abbrev pub stop_over : Option ℕ → ℕ → Option Stopped → Option Stopped
stop_over None p ahead = ahead
stop_over (Some at) p ahead = Some (record { stop = Changed at; process = p })

-- the last of the stops that were found, with how many events come before it, after one more event: n come before that
abbrev pub latest : Option Found → ℕ → Option Stopped → Option Found
latest found n None = found
latest found n (Some stopped) = Some (record { number = n; stopped = stopped })

-- A run on its way back passes an event, or stops ahead of it.
abbrev pub Retreats : Orders → Replayed → Replayed → Option Stopped → Type 0
Retreats o before after None = IsPassedBack o before after
Retreats o before after (Some stopped) = IsStoppedBack o before after stopped.process stopped.stop

-- Some events led from one place to another, and a run on its way back passes them all.
pub record HasPassedBack (o : Orders) (before after : Replayed) : Type 0 where
  pub count : ℕ
  pub passed : ArePassedBack o count before after

-- Some events led from one place to another, and a run on its way back stops ahead of one of them, at a place with a number: it passes all
-- after it.
pub record HasStop (o : Orders) (before after : Replayed) (found : Found) : Type 0 where
  pub place : Replayed
  pub stood : IsReplayed place
  pub same : IsSameRun before place
  pub since : IsSameRun place after
  pub number : place.taken ≡ found.number
  pub earlier : found.number < after.taken
  pub next : Replayed
  pub why : IsStoppedBack o place next found.stopped.process found.stopped.stop
  pub rest : HasPassedBack o next after

-- whether a run stops on its way back from one place to another, and where
abbrev pub Finds : Orders → Replayed → Replayed → Option Found → Type 0
Finds o before after None = HasPassedBack o before after
Finds o before after (Some found) = HasStop o before after found

-- The run stood where so many events were taken, and from there some events led to another place: a run on its way back passes them all.
pub record IsLookedThrough (o : Orders) (n : ℕ) (place now : Replayed) : Type 0 where
  pub far : Replayed
  pub stood : HasStood n far now
  pub passed : HasPassedBack o far place

-- The run went back from a place to where it stops, or to where so many events were taken: at none of the places between anything stops it.
abbrev pub LooksBack : Orders → ℕ → Replayed → Replayed → Option Stopped → Type 0
LooksBack o n place now None = IsLookedThrough o n place now
LooksBack o n place now (Some stopped) = StopsBack o place now stopped

-- What a run that can be had again shows of itself, and that there is such a run.
use Rattle.std.specs.Prelude.{◌≡◌, ◌≢◌, ◌≤◌, ◌<◌, ◌==◌, ◌||◌, ℕ, Bool, true, false, List, take, length}
use Rattle.replayed_run.specs.Told.{Grows, text_of_first}
use Rattle.run_inputs.specs.Starts.{StartsIn}
use Rattle.xinu_base.specs.declared.events.Event.{Event}
use Rattle.xinu_base.specs.declared.events.End.{End}
use Rattle.xinu_base.specs.declared.events.End.TheVariants.{Schedule}
use Rattle.xinu_base.specs.declared.lines.TranscriptLine.{TranscriptLine}
use Rattle.xinu_model.specs.Boot.{Disks}
use Rattle.xinu_model.specs.Machine.{Xinu}
use Rattle.xinu_model.specs.Runs.{RunsTo}
use Rattle.xinu_model.specs.Sound.State.{IsSound}
use Rattle.xinu_model.specs.Text.{text}

-- the inputs of a run, how many of its events were taken, the state after them, and whether one of them ended the run; what its events printed, as
-- far as it ever went, and whether that is known of all that were taken
pub record Replayed : Type 0 where
  pub disks : Disks
  pub files : List (List ℕ)
  pub events : List Event
  pub taken : ℕ
  pub state : Xinu
  pub over : Bool
  pub told : List (List ℕ)
  pub known : Bool

-- None of the first n events ended the run, and they printed what is known of them.
pub record GoesOnAfter (start : Xinu) (r : Replayed) (n : ℕ) : Type 0 where
  pub lines : List TranscriptLine
  pub state : Xinu
  pub runs : RunsTo start (take n r.events) lines state Schedule
  pub printed : r.known ≡ true → text lines ≡ text_of_first r.told n

-- From a sound state in which the images boot on the disks, a run of the first events, as many as were taken, leads to the state, and
-- printed what is known of them; the last of these ended it if it is over, and no event before did.
pub record IsReplayed (r : Replayed) : Type 0 where
  pub start : Xinu
  pub starts : StartsIn r.disks r.files start
  pub sound : IsSound start
  pub lines : List TranscriptLine
  pub end : End
  pub runs : RunsTo start (take r.taken r.events) lines r.state end
  pub goes_on : r.over ≡ false → end ≡ Schedule
  pub ends : r.over ≡ true → end ≢ Schedule
  pub before : (n : ℕ) → n < r.taken → GoesOnAfter start r n
  pub within : r.known ≡ true → r.taken ≤ length r.told
  pub printed : r.known ≡ true → text lines ≡ text_of_first r.told r.taken

-- These are the inputs of a run.
pub record HasInputs (disks : Disks) (files : List (List ℕ)) (events : List Event) (r : Replayed) : Type 0 where
  pub same_disks : r.disks ≡ disks
  pub same_files : r.files ≡ files
  pub same_events : r.events ≡ events

-- It is the same run, wherever it stands: of the same inputs, and nothing that was known of what its events print has changed.
pub record IsSameRun (old new : Replayed) : Type 0 where
  pub inputs : HasInputs old.disks old.files old.events new
  pub grows : Grows old.told new.told
  pub known : old.known ≡ true → new.known ≡ true

-- no event comes next: one ended the run, or all were taken
abbrev pub is_at_end : Replayed → Bool
is_at_end r = r.over || (r.taken == length r.events)

-- How a wait for a disk ends.
use Rattle.std.specs.Prelude.{◌≡◌, ◌⊎◌, ℕ, ◌==◌, ◌&&◌, ◌++◌, Bool, true, false, List, slice_index, Some, ℤ}
use Rattle.std.specs.List.{list_any}
use Rattle.xinu_base.specs.declared.events.End.TheVariants.{Schedule}
use Rattle.xinu_base.specs.declared.events.Event.{Event}
use Rattle.xinu_base.specs.declared.lines.FileMoment.TheVariants.{Finished, Next}
use Rattle.xinu_base.specs.declared.lines.TranscriptLine.{TranscriptLine}
use Rattle.xinu_base.specs.declared.lines.TranscriptLine.TheVariants as line
use Rattle.xinu_base.specs.declared.processes.Rest.TheVariants.{Disk}
use Rattle.xinu_model.specs.Machine.{Xinu}
use Rattle.xinu_model.specs.Runs.{RunsTo}
use Rattle.xinu_model.specs.Tables.{process_at}

-- whether a line tells that p's call on files took effect
abbrev pub tells_effect : ℕ → TranscriptLine → Bool
tells_effect p (line.File q Finished) = q == p
tells_effect p (line.File q Next) = q == p
tells_effect p _ = false

-- whether a line is a call of `kill` on p
abbrev pub kills : ℕ → TranscriptLine → Bool
kills p (line.Call q call) = (call.number == 5) && (slice_index call.args 0 == p)
kills p _ = false

abbrev pub IsKilled : ℕ → List TranscriptLine → Type 0
IsKilled p lines = list_any (kills p) lines ≡ true

-- p waits no longer, and what it answers as it goes on is kept for it.
abbrev pub HasAnswer : ℕ → Xinu → Type 0
HasAnswer p s = (reply : ℤ) × ((process_at s.tables p).rest ≡ Disk (Some reply))

-- In an event that prints these lines and leaves this state p's call on files takes effect, or p is killed.
abbrev pub EndsFiles : ℕ → List TranscriptLine → Xinu → Type 0
EndsFiles p lines s = ((list_any (tells_effect p) lines ≡ true) × HasAnswer p s) ⊎ IsKilled p lines

-- In such an event p's request of the raw disk is served, or p is killed.
abbrev pub EndsDisk : ℕ → List TranscriptLine → Xinu → Type 0
EndsDisk p lines s = HasAnswer p s ⊎ IsKilled p lines

-- A run through the first of these events comes to a state in which p has its answer.
pub record ComesToAnswer (p : ℕ) (old : Xinu) (events : List Event) : Type 0 where
  pub first : List Event
  pub later : List Event
  pub split : events ≡ first ++ later
  pub lines : List TranscriptLine
  pub state : Xinu
  pub runs : RunsTo old first lines state Schedule
  pub answer : HasAnswer p state

-- What is found of a whole text.
use Rattle.std.specs.Prelude.{ℕ, List, Option, Some, None}
use Rattle.xinu_base.specs.declared.events.Event.{Event}
use Rattle.xinu_model.specs.Boot.{Disks, Loaded}
use Rattle.transcript_laws.specs.Transcripts.{IsText}
use Rattle.trace_places.specs.Moments.{IsMoment}
use Rattle.trace_places.specs.Places.{IsMistake}
use Rattle.trace_places.specs.declared.mistakes.Mistake.{Mistake}

-- The text goes wrong at the place of the mistake, and when it says.
pub record IsFound (disks : Disks) (images : List Loaded) (events : List Event) (bytes : List ℕ) (m : Mistake) : Type 0 where
  pub place : IsMistake disks images events bytes m.left.now m.due
  pub moment : IsMoment disks images events bytes m.left.now m.due m.when

-- The text is the transcript of a run, or goes wrong at the place of the mistake.
abbrev pub Finds : Disks → List Loaded → List Event → List ℕ → Option Mistake → Type 0
Finds disks images events bytes None = IsText disks images events bytes
Finds disks images events bytes (Some m) = IsFound disks images events bytes m

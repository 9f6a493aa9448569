-- What a reader of a text along a run found.
use Rattle.std.specs.Prelude.{◌≡◌, ℕ, List, Option, Some, None}
use Rattle.xinu_base.specs.declared.lines.TranscriptLine.{TranscriptLine}
use Rattle.xinu_model.specs.Machine.{EventResult, Xinu}
use Rattle.xinu_model.specs.Runs.{end_with, is_over}
use Rattle.trace_places.specs.Places.{Place, mistake_in}
use Rattle.trace_places.specs.declared.mistakes.Mistake.{Mistake}
use Rattle.trace_places.specs.declared.reading.Read.{Read}
use Rattle.trace_places.specs.declared.walk.Taken.{Taken}

-- the place of a mistake
abbrev pub place_of : Mistake → Place
place_of m = record { left = m.left.now; due = m.due }

-- A mistake was found where the definition has one.
abbrev pub FoundAs : Option Place → Option Mistake → Type 0
FoundAs o None = o ≡ None
FoundAs o (Some m) = o ≡ Some (place_of m)

-- what comes of a text of which these lines were read up to one that is due, if there is one
abbrev pub read_to : List ℕ → Option TranscriptLine → (List ℕ → Option Place) → Option Place
read_to rest None next = next rest
read_to rest (Some l) next = Some (record { left = rest; due = Some l })

-- These lines were read off a text, or it went wrong in them.
abbrev pub ReadSo : List TranscriptLine → List ℕ → Read → Type 0
ReadSo lines bytes r = (next : List ℕ → Option Place) → mistake_in lines bytes next ≡ read_to r.rest.now r.due next

-- The lines of an event were read off a text, or it went wrong in them at the one that is due; and the machine is in the state that the event
-- leaves.
pub record TookSo (x : EventResult) (bytes : List ℕ) (t : Taken) (due : Option TranscriptLine) (new : Xinu) : Type 0 where
  pub reads : (next : List ℕ → Option Place) → mistake_in x.lines bytes next ≡ read_to t.rest.now due next
  pub state : new ≡ x.state
  pub end : t.end ≡ end_with x.panics (is_over x.state)

-- A stretch of a run, event by event, and the call that is made in each.
use Rattle.std.specs.Prelude.{◌≡◌, List, [], ◌∷◌, ◌++◌, Option, Some, None}
use Rattle.xinu_base.specs.declared.events.Event.{Event}
use Rattle.xinu_base.specs.declared.events.Event.TheVariants.{Step}
use Rattle.xinu_base.specs.declared.lines.TranscriptLine.{TranscriptLine}
use Rattle.xinu_base.specs.declared.lines.TranscriptLine.TheVariants as line
use Rattle.xinu_base.specs.declared.syscalls.Call.{Call}
use Rattle.xinu_model.specs.Events.{Happens}
use Rattle.xinu_model.specs.Machine.{Xinu}

-- One event of a run: the state before it, what it prints, and the state after it.
pub record Moment : Type 0 where
  pub before : Xinu
  pub event : Event
  pub lines : List TranscriptLine
  pub after : Xinu

-- From old these moments lead to new, one after another.
abbrev pub LeadTo : Xinu → List Moment → Xinu → Type 0
LeadTo old [] new = new ≡ old
LeadTo old (m ∷ ms) new = (m.before ≡ old) × Happens m.before m.event m.lines m.after × LeadTo m.after ms new

-- what they print
abbrev pub printed : List Moment → List TranscriptLine
printed [] = []
printed (m ∷ ms) = m.lines ++ printed ms

-- the call that a first line tells of, and so the call that is made in an event: a step prints it first
abbrev pub first_call : List TranscriptLine → Option Call
first_call (line.Call p call ∷ lines) = Some call
first_call _ = None

abbrev pub call_in : Event → List TranscriptLine → Option Call
call_in Step lines = first_call lines
call_in _ lines = None

-- How far the outcomes of an event are determined.
use Rattle.std.specs.Prelude.{◌≡◌, Bool, true, false, List, ◌∷◌}
use Rattle.xinu_base.specs.declared.events.Event.{Event}
use Rattle.xinu_base.specs.declared.lines.FileMoment.TheVariants.{Next}
use Rattle.xinu_base.specs.declared.lines.TranscriptLine.{TranscriptLine}
use Rattle.xinu_base.specs.declared.lines.TranscriptLine.TheVariants as line
use Rattle.xinu_model.specs.Events.{chooses, Happens}
use Rattle.xinu_model.specs.Machine.{Xinu}

-- whether lines begin with that of a file call that took effect as the next one
abbrev pub begins_next : List TranscriptLine → Bool
begins_next (line.File p Next ∷ lines) = true
begins_next _ = false

-- Two outcomes of an event from one state are equal if nothing is chosen in it, and if their lines are equal; and the lines of
-- no outcome begin with a file call that took effect as the next one.
pub record OutcomesAgree (old : Xinu) (e : Event) : Type 0 where
  pub forced : chooses old e ≡ false → (lines others : List TranscriptLine) (new other : Xinu) → Happens old e lines new → Happens old e others other → (lines ≡ others) × (new ≡ other)
  pub told : (lines : List TranscriptLine) (new other : Xinu) → Happens old e lines new → Happens old e lines other → new ≡ other
  pub first : (lines : List TranscriptLine) (new : Xinu) → Happens old e lines new → begins_next lines ≡ false

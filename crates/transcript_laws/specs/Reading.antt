-- A text is read along a run: one state and what is left of the text, event by event.
use Rattle.std.specs.Prelude.{◌≡◌, ℕ, ◌==◌, Bool, true, false, if◌then◌else◌, ◌&&◌, List, [], ◌∷◌, ◌++◌, length, drop, Option, Some, None, bytes_eq}
use Rattle.xinu_base.specs.declared.events.End.{End}
use Rattle.xinu_base.specs.declared.events.End.TheVariants.{Schedule}
use Rattle.xinu_base.specs.declared.events.Event.{Event}
use Rattle.xinu_base.specs.declared.lines.TranscriptLine.{TranscriptLine}
use Rattle.xinu_base.specs.declared.lines.TranscriptLine.TheVariants as line
use Rattle.xinu_model.specs.Agree.{begins_next}
use Rattle.xinu_model.specs.Events.{MayChoose, effect_of}
use Rattle.xinu_model.specs.Machine.{Xinu}
use Rattle.xinu_model.specs.Runs.{RunsTo, end_with, is_over}
use Rattle.xinu_model.specs.Sound.State.{IsSound}
use Rattle.xinu_model.specs.Text.{tables_of, text}

-- whether a text begins with these bytes
abbrev pub starts_with : List ℕ → List ℕ → Bool
starts_with [] rest = true
starts_with (b ∷ bytes) [] = false
starts_with (b ∷ bytes) (c ∷ rest) = if b == c then starts_with bytes rest else false

-- the lines that a run prints after its last event: the tables of its last state, and how it ended
abbrev pub last_lines : Xinu → End → List TranscriptLine
last_lines s end = tables_of s ++ line.End end ∷ []

-- A run through these events, from this state on, prints this text.
pub record Prints (s : Xinu) (events : List Event) (rest : List ℕ) : Type 0 where
  pub lines : List TranscriptLine
  pub last : Xinu
  pub end : End
  pub runs : RunsTo s events lines last end
  pub is : rest ≡ text (lines ++ last_lines last end)

-- whether a text is what is printed after an event: the last lines if the run ends with the event, else what the rest of the run prints
abbrev pub accepts_after : Option End → (List ℕ → Bool) → Xinu → List ℕ → Bool
accepts_after (Some end) next s rest = bytes_eq (text (last_lines s end)) rest
accepts_after None next s rest = next rest

-- Whether a text is accepted from a state on: it begins with what the first event prints, and what is left is accepted after that
-- event. What is chosen in an event is told by the text.
abbrev pub accepts : (Xinu → Event → List ℕ → ℕ) → Xinu → List Event → List ℕ → Bool
accepts told s [] rest = bytes_eq (text (last_lines s Schedule)) rest
accepts told s (e ∷ events) rest =
    let x = effect_of s e (told s e rest) in
    starts_with (text x.lines) rest
    && accepts_after (end_with x.panics (is_over x.state)) (λ more. accepts told x.state events more) x.state
    (drop (length (text x.lines)) rest)

-- Texts tell choices in this way: what is told may be chosen; and if a text begins with what an event prints under a choice, the event
-- under the told choice prints and leaves the same. What is printed after an event never begins with a call on files that took effect
-- as the next one.
pub record Tells (told : Xinu → Event → List ℕ → ℕ) : Type 0 where
  pub allowed : (s : Xinu) (e : Event) (rest : List ℕ) → MayChoose s e (told s e rest)
  pub right : (s : Xinu) (e : Event) (choice : ℕ) (more : List TranscriptLine) → IsSound s → MayChoose s e choice → begins_next more ≡ false
      → effect_of s e (told s e (text ((effect_of s e choice).lines ++ more))) ≡ effect_of s e choice
